-- What the walk over the parts and its sizes promise. A reader of the promise can pass this page over.
use Rattle.std.specs.Prelude.{ℕ, ◌+◌, ◌*◌, ◌-◌, ◌≤◌, ◌<◌, ◌≡◌, cond, List, [], ◌∷◌, ◌++◌, eqb, ltb, length, Option, None, Some}
use Rattle.words.specs.Words.{most}
use Rattle.family.specs.Family.{Family, size, top}
use Rattle.family.specs.Book.{at, Held, place, Book}
use Rattle.store.specs.Inner.{Holds}
use Rattle.query_parts.specs.declared.entries.Parts.{Parts}
use Rattle.query_parts.specs.Inner.{handle_at, size_at, TableOf}

-- a size in one word: 0 where it is above the largest
abbrev pub as_word : ℕ → ℕ
as_word x = cond (ltb most x) 0 x

-- a size as functions tell it: none where it is above the largest; and the same read off its word
abbrev pub told : ℕ → Option ℕ
told x = cond (ltb most x) None (Some x)

abbrev pub word_told : ℕ → Option ℕ
word_told w = cond (eqb w 0) None (Some w)

-- the size of a number in a table
unfoldable pub size_of : Parts → ℕ → Option ℕ
size_of t number = cond (ltb number 2) (Some number) (word_told (size_at t.places t.words.now (number - 2)))

-- a number that has a place in a table
pub record SizeAsks (t : Parts) (number : ℕ) : Type 0 where
  pub long : 2 * t.places ≤ length t.words.now
  pub low : number < t.places + 2
  pub small : t.places ≤ 1000000

-- the sum of two sizes
pub record Summed (without with r : Option ℕ) : Type 0 where
  pub is : (x y : ℕ) → without ≡ told x → with ≡ told y → r ≡ told (x + y)

-- what stands at a place of the table: the handle, in the book B that the store holds, of a family, and the word of its
-- size
pub record Part (B : List Family) (F : Family) (t : Parts) (e : ℕ) : Type 0 where
  pub held : handle_at t.words.now e < length B
  pub means : at B (handle_at t.words.now e) ≡ F
  pub size_is : size_at t.places t.words.now e ≡ as_word (size F)

-- The table has the families of a local book C past {} and {{}}.
pub record Listed (limit : ℕ) (B C : List Family) (t : Parts) : Type 0 where
  pub book : Book limit C
  pub long : length C ≡ t.entered + 2
  pub each : (e : ℕ) → e < t.entered → Part B (at C (e + 2)) t e

-- The table has come to list the local book C, and r is the number of F in it; or there is none, and C has more families
-- than fit.
pub record Came (limit : ℕ) (B C : List Family) (F : Family) (t : Parts) (r : Option ℕ) : Type 0 where
  pub listed : (k : ℕ) → r ≡ Some k → Listed limit B C t × ((k < length C) × (at C k ≡ F))
  pub short : r ≡ None → t.places + 2 < length C

-- what holds on any words: a table as large, and a number, if there is one, that has a place in it
pub record Went (t t' : Parts) (r : Option ℕ) : Type 0 where
  pub same : t'.places ≡ t.places
  pub long : length t'.words.now ≡ length t.words.now
  pub table : TableOf t'
  pub low : (k : ℕ) → r ≡ Some k → k < t'.entered + 2

-- a table, and a handle that fits a tag
pub record AppendAsks (t : Parts) (p : ℕ) : Type 0 where
  pub table : TableOf t
  pub handle_low : p < 1048576

-- the handle p is entered behind the others, with its size: a family is put at the local book's end
pub record Appended (p : ℕ) (size_is : Option ℕ) (t t' : Parts) (r : Option ℕ) : Type 0 where
  pub went : Went t t' r
  pub sound : {limit : ℕ} (B C : List Family) (F : Family) → Listed limit B C t → p < length B → at B p ≡ F → size_is ≡ told (size F) → Book limit (C ++ (F ∷ []))
      → Came limit B (C ++ (F ∷ [])) F t' r

-- the words of the nodes, and a table of at least one place
pub record WalkAsks (nodes : List ℕ) (count : ℕ) (t : Parts) : Type 0 where
  pub nodes_long : 3 * count ≤ length nodes
  pub few : count ≤ 1000000
  pub some : 0 < t.places
  pub table : TableOf t

-- the same, and a handle that is neither {} nor {{}}
pub record DescendAsks (p : ℕ) (nodes : List ℕ) (count : ℕ) (t : Parts) : Type 0 where
  pub asks : WalkAsks nodes count t
  pub part : 2 ≤ p

-- what a walk is asked of a family and a local book: anything, or that the book does not hold the family
abbrev pub Any : List Family → Family → Type 0
Any C F = Unit {0}

abbrev pub New : List Family → Family → Type 0
New C F = Held C F → ⊥

-- the family of p is placed in the local book that the table lists, where the two are as asked
pub record Walked (Asked : List Family → Family → Type 0) (p bound : ℕ) (nodes : List ℕ) (count : ℕ) (t t' : Parts) (r : Option ℕ) : Type 0 where
  pub went : Went t t' r
  pub sound : {limit : ℕ} (B C : List Family) (lookup : List ℕ) → Holds limit B count nodes lookup → p < count + 2 → top (at B p) < bound → Asked C (at B p) → Listed limit B C t
      → Came limit B (place C (at B p)) (at B p) t' r
