-- The operations by their numbers: what each takes, and the family that it names; document 01, 'The store' and 'Calls',
-- and document 02, No. 4.
use Rattle.std.specs.Prelude.{ℕ, ◌≤◌, ◌<◌, ◌≡◌, Bool, true, false, cond, ◌&&◌, ◌||◌, List, eqb, ltb, length}
use Rattle.family.specs.Family.{Family}
use Rattle.family.specs.Operation.{subset1, subset0, change, minus, combine}
use Rattle.family.specs.Parity.{parity}
use Rattle.family.specs.Book.{at}

-- "operation (1 Subset1, 2 Subset0, 3 Change, 4 Union, 5 Intsec, 6 Diff)": whether its second operand is an item
abbrev pub takes_item : ℕ → Bool
takes_item op = ltb op 4

-- the operations on a family and an item
unfoldable pub restrict : ℕ → ℕ → Family → Family
restrict op v F = cond (eqb op 1) (subset1 v F) (cond (eqb op 2) (subset0 v F) (change v F))

-- the rule on memberships of the operations on two families
unfoldable pub rule : ℕ → Bool → Bool → Bool
rule op = cond (eqb op 4) ◌||◌ (cond (eqb op 5) ◌&&◌ minus)

-- document 02: "In the cache they are operations 7 (even) and 8 (odd), with second operand 0."
abbrev pub parity_number : Bool → ℕ
parity_number true = 7
parity_number false = 8

-- the family that an operation names, by its operands: a handle and an item for 1 to 3, two handles for 4 to 6, one
-- handle for 7 and 8
unfoldable pub named : ℕ → List Family → ℕ → ℕ → Family
named op B p q =
    cond (takes_item op) (restrict op q (at B p)) (cond (ltb op 7) (combine (rule op) (at B p) (at B q)) (parity (eqb op 7) (at B p)))

-- the second operand that an operation takes in a store of some limit: an item up to the limit, or a handle, and of
-- the handles only 0 for 7 and 8
abbrev pub Takes : ℕ → ℕ → List Family → ℕ → Type 0
Takes limit op B q = (op < 4 → (1 ≤ q) × (q ≤ limit)) × (4 ≤ op → q < length B) × (7 ≤ op → q ≡ 0)
