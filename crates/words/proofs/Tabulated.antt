-- A table that is a rule's values one after another has the rule's value at each place.
-- That a constant table is such a list is one equation over the whole table, which the checker computes.
use Prim.Native.Nat.{ℕ, zero, suc, ◌+◌, ◌<◌}
use mathlib.Core.Path.{◌≡◌, ap, ◌∙◌}
use mathlib.Core.List.{List, [], ◌∷◌}
use native.Mathlib.Omega.{arith}
use lib.ListN.{get_or}

-- the n values of a rule from i on
abbrev pub tabulated : (ℕ → ℕ) → ℕ → ℕ → List ℕ
tabulated rule i zero = []
tabulated rule i (suc n) = rule i ∷ tabulated rule (suc i) n

pub tabulated_at : (rule : ℕ → ℕ) (i n k : ℕ) → k < n → get_or (tabulated rule i n) k 0 ≡ rule (i + k)
tabulated_at rule i zero k h = absurd (omega arith)
tabulated_at rule i (suc n) zero h = ap rule (omega arith)
tabulated_at rule i (suc n) (suc k) h = tabulated_at rule (suc i) n k (omega arith) ∙ ap rule (omega arith)
