-- What writing the records promises. A reader of the promise can pass this page over.
use Rattle.std.specs.Prelude.{ℕ, ◌+◌, ◌*◌, ◌-◌, ◌≤◌, ◌<◌, ◌≡◌, Option, IfSome, IsSomeAnd, ⊤, List, ◌++◌, length, get_or, take, drop}
use Rattle.family.specs.Family.{Family, largest_item}
use Rattle.family.specs.Book.{at, number, Held, Book}
use Rattle.family.specs.File.{triples_of, records_bytes}
use Rattle.store.specs.Words.{word_of}
use Rattle.store.specs.Inner.{Holds}
use Rattle.file_record.specs.declared.field.Part.{Part}
use Rattle.file_write.specs.declared.Cursor.{Cursor}

-- the part whose node words start at a place, its children by local numbers
pub record LocalPart (nodes : List ℕ) (base : ℕ) (links : List ℕ) (part : Part) : Type 0 where
  pub item_is : part.item ≡ get_or nodes base 0
  pub zero_is : part.zero ≡ word_of links (get_or nodes (base + 1) 0)
  pub one_is : part.one ≡ word_of links (get_or nodes (base + 2) 0)

-- what a cursor keeps on any words
pub record CursorFits (c : Cursor) (out : List ℕ) : Type 0 where
  pub within : c.place ≤ length out
  pub item_low : c.last.item ≤ largest_item
  pub number_low : c.last.number ≤ 1000001
  pub short : c.place ≤ 11 * c.last.number

-- The family number k of the local book D is written next: the parts before have their local numbers, those from k
-- on their links, and the output has the bytes of the whole file up to the cursor.
pub record Writing (limit : ℕ) (B D : List Family) (k : ℕ) (c : Cursor) (links whole before out : List ℕ) : Type 0 where
  pub book : Book limit D
  pub inside : (m : ℕ) → m < length D → Held B (at D m)
  pub two : 2 ≤ k
  pub at_is : k < length D → c.at ≡ number B (at D k)
  pub number_is : c.last.number + 1 ≡ k
  pub place_low : c.place ≤ length whole
  pub room : length whole ≤ length before
  pub todo_is : drop c.place whole ≡ records_bytes c.last.item c.last.number (triples_of D (drop k D))
  pub out_is : out ≡ take c.place whole ++ drop c.place before
  pub numbered : (m : ℕ) → 2 ≤ m → m < k → m < length D → get_or links (number B (at D m) - 2) 0 ≡ m
  pub next : (m : ℕ) → k ≤ m → m + 1 < length D → get_or links (number B (at D m) - 2) 0 ≡ number B (at D (m + 1))

-- the cursor after a turn, on any words
pub record NextFits (c c' : Cursor) (out : List ℕ) : Type 0 where
  pub within : c'.place ≤ length out
  pub item_low : c'.last.item ≤ largest_item
  pub number_is : c'.last.number ≡ c.last.number + 1
  pub short : c'.place ≤ 11 * c'.last.number

-- What `write_part` does: the links of no node stay. A turn comes to the family after, and is never broken.
pub record TurnOf (c : Cursor) (nodes : List ℕ) (n : ℕ) (links out : List ℕ) (r : Option Cursor) (links' out' : List ℕ) : Type 0 where
  pub long : length links' ≡ length links
  pub long_out : length out' ≡ length out
  pub rest : (k : ℕ) → n ≤ k → get_or links' k 0 ≡ get_or links k 0
  pub next_fits : IfSome r (λ c'. NextFits c c' out')
  pub sound : {limit : ℕ} (B D : List Family) (k : ℕ) (lookup whole before : List ℕ) → Holds limit B n nodes lookup → k < length D → Writing limit B D k c links whole before out
      → IsSomeAnd r (λ c'. Writing limit B D (k + 1) c' links' whole before out')

-- the first cursor
abbrev pub first_cursor : ℕ → Cursor
first_cursor first = record { at = first; last = record { item = 0; number = 1 }; place = 5 }

-- an output with room for the five bytes before the records, and parts that can be counted
pub record HeadRoom (parts : ℕ) (out : List ℕ) : Type 0 where
  pub five : 5 ≤ length out
  pub few : parts ≤ 1000000

-- what `write_parts` does: the links of no node stay
pub record WritesOf (first parts : ℕ) (nodes : List ℕ) (n : ℕ) (links out : List ℕ) (r : Option ⊤) (links' out' : List ℕ) : Type 0 where
  pub long : length links' ≡ length links
  pub long_out : length out' ≡ length out
  pub rest : (k : ℕ) → n ≤ k → get_or links' k 0 ≡ get_or links k 0
  pub sound : {limit : ℕ} (B D : List Family) (lookup whole before : List ℕ) → Holds limit B n nodes lookup → parts + 2 ≡ length D → Writing limit B D 2 (first_cursor first) links whole before out
      → IsSomeAnd r (λ _. out' ≡ whole ++ drop (length whole) before)
