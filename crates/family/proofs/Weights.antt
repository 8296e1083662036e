-- The two sums of weights are one number, for every family and every list of weights.
-- All members of a with-side carry the item, so its weight counts once for each of them.
use Prim.Native.Nat.{ℕ, ◌+◌, ◌*◌}
use mathlib.Core.Path.{◌≡◌, refl, ◌∙◌}
use mathlib.Core.List.{List, [], ◌∷◌, ◌++◌, map}
use native.Mathlib.Omega.{arith}
use native.Mathlib.Nat.{mul-zero, mul-suc}
use lib.ListN.{length}
use Rattle.family.specs.Family.{Family, empty, base, node, members}
use Rattle.family.specs.Weights.{item_weight, combination_weight, total, sum_by_members, sum_by_nodes}
use Rattle.family.proofs.Members.{size_members}

module _ (weights : List ℕ) where
  -- the sum over some combinations
  abbrev sum : List (List ℕ) → ℕ
  sum cs = total (map (λ c. combination_weight weights c) cs)

  sum_append : (cs ds : List (List ℕ)) → sum (cs ++ ds) ≡ sum cs + sum ds
  sum_append [] ds = omega arith
  sum_append (c ∷ cs) ds = omega (arith, sum_append cs ds)

  sum_item : (i : ℕ) (cs : List (List ℕ)) → sum (map (λ c. i ∷ c) cs) ≡ sum cs + item_weight weights i * length cs
  sum_item i [] = rw (mul-zero (item_weight weights i))
  sum_item i (c ∷ cs) = rw (mul-suc (item_weight weights i) (length cs)) (omega (arith, sum_item i cs))

  -- "both sums must be available .. and be the same number for every family"
  pub sums_agree : (F : Family) → sum_by_members weights F ≡ sum_by_nodes weights F
  unfolding sum_by_members
  sums_agree empty = refl
  sums_agree base = refl
  sums_agree (node i a b) =
      sum_append (members a) (map (λ c. i ∷ c) (members b))
      ∙ rw (sum_item i (members b), size_members b) (omega (arith, sums_agree a, sums_agree b))
