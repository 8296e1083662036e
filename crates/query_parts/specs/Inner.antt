-- The table of parts, and what its functions promise each other and their callers. A reader of the promise can pass this
-- page over.
use Rattle.std.specs.Prelude.{ℕ, suc, ◌+◌, ◌*◌, ◌/◌, ◌%◌, ◌≤◌, ◌<◌, ◌≡◌, List, length, get_or, Option, None, Some}
use Rattle.query_parts.specs.declared.entries.Parts.{Parts}

-- the three numbers of a tag: a handle, a place before it in its chain, and the head of a chain
abbrev pub handle_in : ℕ → ℕ
handle_in tag = tag % 1048576

abbrev pub next_in : ℕ → ℕ
next_in tag = tag / 1048576 % 1048576

abbrev pub head_in : ℕ → ℕ
head_in tag = tag / 1099511627776

-- a link to a place, which counts from 1, or to none
abbrev pub link_to : Option ℕ → ℕ
link_to None = 0
link_to (Some place) = place + 1

-- numbers that fit a tag
pub record LinkAsks (handle next : ℕ) : Type 0 where
  pub handle_low : handle < 1048576
  pub next_low : next < 1048576

-- a tag with another handle and another place before it
pub record Linked (tag handle next r : ℕ) : Type 0 where
  pub handle_is : handle_in r ≡ handle
  pub next_is : next_in r ≡ next
  pub head_stays : head_in r ≡ head_in tag

-- a tag with another head
pub record Headed (tag head r : ℕ) : Type 0 where
  pub handle_stays : handle_in r ≡ handle_in tag
  pub next_stays : next_in r ≡ next_in tag
  pub head_is : head_in r ≡ head

-- the same of the tag at a place of the table, and the size there
abbrev pub handle_at : List ℕ → ℕ → ℕ
handle_at words e = handle_in (get_or words e 0)

abbrev pub next_at : List ℕ → ℕ → ℕ
next_at words e = next_in (get_or words e 0)

abbrev pub head_at : List ℕ → ℕ → ℕ
head_at words k = head_in (get_or words k 0)

abbrev pub size_at : ℕ → List ℕ → ℕ → ℕ
size_at places words e = get_or words (places + e) 0

-- a chain leads from one place to another; places count from 1 in chains
pub data Leads (next : ℕ → ℕ) : ℕ → ℕ → Type 0 where
  here : {a : ℕ} → Leads next a a
  on : {k a : ℕ} → Leads next (next k) a → Leads next (suc k) a

-- A table of so many places, n of them taken: a chain goes down from place to place, and the chain of a handle leads to
-- its place.
pub record Table (places n : ℕ) (words : List ℕ) : Type 0 where
  pub long : 2 * places ≤ length words
  pub few : n ≤ places
  pub small : places ≤ 1000000
  pub heads : (k : ℕ) → k < places → head_at words k ≤ n
  pub links : (e : ℕ) → e < n → next_at words e ≤ e
  pub leads : (e : ℕ) → e < n → Leads (λ k. next_at words k) (head_at words (handle_at words e % places)) (suc e)

-- the same of the table that is held
abbrev pub TableOf : Parts → Type 0
TableOf t = Table t.places t.entered t.words.now

-- words for so many places
pub record OpenAsks (words : List ℕ) (places : ℕ) : Type 0 where
  pub long : 2 * places ≤ length words
  pub small : places ≤ 1000000

-- an empty table of so many places
pub record Opened (places : ℕ) (words : List ℕ) (t : Parts) : Type 0 where
  pub places_are : t.places ≡ places
  pub none_yet : t.entered ≡ 0
  pub long : length t.words.now ≡ length words
  pub table : TableOf t

-- a table of at least one place
pub record FindAsks (t : Parts) : Type 0 where
  pub some : 0 < t.places
  pub table : TableOf t

-- where the handle stands, if it does
pub record Found (t : Parts) (handle : ℕ) (r : Option ℕ) : Type 0 where
  pub none : r ≡ None → (e : ℕ) → e < t.entered → handle_at t.words.now e ≡ handle → ⊥
  pub some : (e : ℕ) → r ≡ Some e → (e < t.entered) × (handle_at t.words.now e ≡ handle)

-- a table with a place left, and a handle that fits a tag
pub record EnterAsks (t : Parts) (handle : ℕ) : Type 0 where
  pub table : TableOf t
  pub room : t.entered < t.places
  pub handle_low : handle < 1048576

-- the handle stands behind the others, with its size
pub record Entered (handle size : ℕ) (t t' : Parts) : Type 0 where
  pub places_stay : t'.places ≡ t.places
  pub one_more : t'.entered ≡ t.entered + 1
  pub long : length t'.words.now ≡ length t.words.now
  pub table : TableOf t'
  pub handle_is : handle_at t'.words.now t.entered ≡ handle
  pub size_is : size_at t.places t'.words.now t.entered ≡ size
  pub handles_stay : (e : ℕ) → e < t.entered → handle_at t'.words.now e ≡ handle_at t.words.now e
  pub sizes_stay : (e : ℕ) → e < t.entered → size_at t.places t'.words.now e ≡ size_at t.places t.words.now e
