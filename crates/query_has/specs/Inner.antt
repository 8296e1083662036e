-- What the functions below Has promise each other. A reader of the promise can pass this page over.
use Rattle.std.specs.Prelude.{ℕ, ◌+◌, ◌≡◌, Bool, true, false, List, get_or}
use Rattle.family.specs.Family.{Family, has}
use Rattle.family.specs.Combination.{holds, remove}
use Rattle.family.specs.Book.{at}
use Rattle.store.specs.Inner.{Holds}

-- one step of the way down: the handle and the items after it
pub record Stepped (nodes : List ℕ) (base : ℕ) (c : List ℕ) (next : ℕ) (rest : List ℕ) : Type 0 where
  pub met : holds (get_or nodes base 0) c ≡ true → (next ≡ get_or nodes (base + 2) 0) × (rest ≡ remove (get_or nodes base 0) c)
  pub passed : holds (get_or nodes base 0) c ≡ false → (next ≡ get_or nodes (base + 1) 0) × (rest ≡ c)

-- whether a combination is a member of p
pub record Memberly (nodes : List ℕ) (n p : ℕ) (c : List ℕ) (r : Bool) : Type 0 where
  pub is : {limit : ℕ} (B : List Family) (lookup : List ℕ) → Holds limit B n nodes lookup → r ≡ has (at B p) c
