-- Counting by ways, and what its functions promise each other and the call. A reader of the promise can pass this page over.
-- A member of a family is a way from its handle down to {{}}, so what the ways that have come to some families come to is
-- the sum of the families' sizes, each as often as there are ways to it.
use Rattle.std.specs.Prelude.{ℕ, zero, suc, ◌+◌, ◌*◌, ◌-◌, ◌≤◌, ◌<◌, ◌≡◌, Bool, true, false, length, get_or, set, Option, Some}
use mathlib.Core.List.{List, [], ◌∷◌, Memᴰ}
use Rattle.family.specs.Family.{Family, size, parts}
use Rattle.family.specs.Book.{at, Held}
use Rattle.family.specs.Parts.{part_count}
use Rattle.store.specs.Inner.{Holds, HandleAsks}
use Rattle.query_parts.specs.declared.entries.Parts.{Parts}
use Rattle.query_parts.specs.Inner.{TableOf}
use Rattle.query_walk.specs.Inner.{Listed, WalkAsks}
use Rattle.query_ways.specs.declared.hand.Passage.{Passage}

-- the members of some families, added up
abbrev pub sizes : List Family → ℕ
sizes [] = 0
sizes (F ∷ Fs) = size F + sizes Fs

-- the members that the ways in the first words of a window come to; word i has the ways to the handle low + i
abbrev pub worth : List Family → ℕ → List ℕ → ℕ → ℕ
worth B low words zero = 0
worth B low words (suc left) = worth B low words left + get_or words left 0 * size (at B (low + left))

-- where a part of the asked family is: it was gone through, or stands in the table's book; or it is a part of a handle in
-- the window that ways have come to, or of a family that ways are still to be handed on to
pub data Covered (B C D owed : List Family) (low left : ℕ) (words : List ℕ) (X : Family) : Type 0 where
  passed : Held D X → Covered B C D owed low left words X
  entered : Held C X → Covered B C D owed low left words X
  due : (i : ℕ) → i < left → (get_or words i 0 ≡ 0 → ⊥) → Memᴰ X (parts (at B (low + i))) → Covered B C D owed low left words X
  owing : (G : Family) → Memᴰ G owed → Memᴰ X (parts G) → Covered B C D owed low left words X

-- How far F is counted: the table lists the local book C, the families D were gone through, and so many ways are still to be
-- handed on to each of some families.
pub record Ways (limit : ℕ) (B C D : List Family) (F : Family) (owed : List Family) (ways left low : ℕ) (window : List ℕ) (t : Parts) (total : ℕ) : Type 0 where
  pub listed : Listed limit B C t
  pub sum : worth B low window left + total + ways * sizes owed ≡ size F
  pub covers : (X : Family) → Memᴰ X (parts F) → Covered B C D owed low left window X

-- the same of a passage
abbrev pub WaysOf : ℕ → List Family → List Family → List Family → Family → List Family → ℕ → Passage → Type 0
WaysOf limit B C D F owed ways w = Ways limit B C D F owed ways w.left w.low w.window.now w.parts w.total

-- the word of a handle in the window has risen by the ways
pub record HandedDown (left k ways : ℕ) (words words' : List ℕ) (r : Bool) : Type 0 where
  pub refuses : r ≡ false → words' ≡ words
  pub is : r ≡ true → (k < left) × (words' ≡ set words k (get_or words k 0 + ways))

-- the words of the nodes, a window, and a table of at least one place
pub record HandAsks (nodes : List ℕ) (count : ℕ) (w : Passage) : Type 0 where
  pub walk : WalkAsks nodes count w.parts
  pub within : w.left ≤ length w.window.now

-- what holds on any words: as large a window and as large a table, at the same handle
pub record Keeps (w w' : Passage) : Type 0 where
  pub low_stays : w'.low ≡ w.low
  pub left_stays : w'.left ≡ w.left
  pub long : length w'.window.now ≡ length w.window.now
  pub places_stay : w'.parts.places ≡ w.parts.places
  pub table : TableOf w'.parts

-- the ways that were to be handed on to the child's family are
pub record Handed (child ways : ℕ) (nodes : List ℕ) (count : ℕ) (w w' : Passage) (r : Bool) : Type 0 where
  pub keeps : Keeps w w'
  pub sound : r ≡ true → {limit : ℕ} (B C D : List Family) (F : Family) (owed : List Family) (lookup : List ℕ) → Holds limit B count nodes lookup → child < count + 2 → 0 < ways
      → WaysOf limit B C D F (at B child ∷ owed) ways w → (C' : List Family) × WaysOf limit B C' D F owed ways w'

-- the same, and a node
pub record BothAsks (p : ℕ) (nodes : List ℕ) (count : ℕ) (w : Passage) : Type 0 where
  pub asks : HandAsks nodes count w
  pub part : 2 ≤ p
  pub held : p ≤ count + 1

-- the ways that were to be handed on to both sides of p are
pub record HandedBoth (p ways : ℕ) (nodes : List ℕ) (count : ℕ) (w w' : Passage) (r : Bool) : Type 0 where
  pub keeps : Keeps w w'
  pub sound : r ≡ true → {limit : ℕ} (B C D : List Family) (F : Family) (lookup : List ℕ) → Holds limit B count nodes lookup → 0 < ways
      → WaysOf limit B C D F (at B (get_or nodes (3 * (p - 2) + 1) 0) ∷ at B (get_or nodes (3 * (p - 2) + 2) 0) ∷ []) ways w → (C' : List Family) × WaysOf limit B C' D F [] ways w'

-- a handle that is held, and words for so many handles from there down
pub record DenseAsks (p : ℕ) (nodes : List ℕ) (count : ℕ) (marks : List ℕ) : Type 0 where
  pub handle : HandleAsks nodes count p
  pub some : 0 < length marks
  pub few : length marks < p

-- words that are 0 but for the last
pub record Opened (words : List ℕ) : Type 0 where
  pub one : get_or words (length words - 1) 0 ≡ 1
  pub none : (i : ℕ) → i < length words - 1 → get_or words i 0 ≡ 0

-- a handle that is held and the window down from it, with one way, to its last handle, and an empty table
pub record GoAsks (p : ℕ) (nodes : List ℕ) (count : ℕ) (w : Passage) : Type 0 where
  pub handle : HandleAsks nodes count p
  pub wide : 0 < length w.window.now
  pub low_is : w.low + length w.window.now ≡ p + 1
  pub low_some : 2 ≤ w.low
  pub some : 0 < w.parts.places
  pub opened : Opened w.window.now
  pub table : TableOf w.parts
  pub empty : w.parts.entered ≡ 0
  pub nothing : w.total ≡ 0

-- the size of the family of p, where it was found, which has at most so many parts
pub record Gone (p : ℕ) (nodes : List ℕ) (count most : ℕ) (r : Option ℕ) : Type 0 where
  pub is : (k : ℕ) → r ≡ Some k → {limit : ℕ} (B : List Family) (lookup : List ℕ) → Holds limit B count nodes lookup → (size (at B p) ≡ k) × (part_count (at B p) ≤ most)

-- a handle that is held and is neither {} nor {{}}
pub record WaysAsks (p : ℕ) (nodes : List ℕ) (count : ℕ) : Type 0 where
  pub handle : HandleAsks nodes count p
  pub part : 2 ≤ p
