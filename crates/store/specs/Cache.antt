-- The cache (the computed table), in groups of four words: document 01, 'The store'.
use Rattle.std.specs.Prelude.{ℕ, ◌+◌, ◌*◌, ◌≤◌, ◌<◌, ◌≡◌, List, ◌⊎◌, length, get_or}
use Rattle.family.specs.Family.{Family}
use Rattle.family.specs.Book.{at}
use Rattle.store.specs.Operations.{Takes, named}

-- the words of group g
pub record Group (cache : List ℕ) (g op p q h : ℕ) : Type 0 where
  pub within : 4 * g + 3 < length cache
  pub op_is : get_or cache (4 * g) 0 ≡ op
  pub first_is : get_or cache (4 * g + 1) 0 ≡ p
  pub second_is : get_or cache (4 * g + 2) 0 ≡ q
  pub result_is : get_or cache (4 * g + 3) 0 ≡ h

-- "true: operands that the call takes, and the handle it gives", in a store of some limit
pub record Truth (limit : ℕ) (B : List Family) (op p q h : ℕ) : Type 0 where
  pub operation : (1 ≤ op) × (op ≤ 8)
  pub first : p < length B
  pub second : Takes limit op B q
  pub result : h < length B
  pub means : at B h ≡ named op B p q

-- "A group is all zero or true": of every whole group, for the book that the store holds
pub record True (limit : ℕ) (B : List Family) (cache : List ℕ) : Type 0 where
  pub each : (g op p q h : ℕ) → Group cache g op p q h → Group cache g 0 0 0 0 ⊎ Truth limit B op p q h
