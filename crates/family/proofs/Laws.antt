-- Demand 2 at the level of families, one law for each operation: what is a member of the result, for every ordered
-- family and every combination; and that the result keeps to the limit.
-- Each cites the law of its kind (Combine, Restrict); the last ones say that the sides and the top are what document
-- 01 calls so.
use Prim.Native.Nat.{ℕ, ◌≤◌, ◌<◌}
use mathlib.Core.Path.{◌≡◌, refl, sym, ap, ◌∙◌}
use mathlib.Core.Bool.{true, not, ◌&&◌, ◌||◌}
use mathlib.Core.List.{List}
use native.Mathlib.Omega.{arith}
use lib.Dec.{T}
use Rattle.family.specs.Family.{Family, empty, base, node, top, without_side, with_side, inhabited, Ordered, Within, has}
use Rattle.family.specs.Combination.{largest, Falling, holds, insert, toggle}
use Rattle.family.specs.Operation.{subset1, subset0, change, union, intsec, diff, minus}
use Rattle.family.proofs.Canonical.{member_falls, highest, highest_member}
use Rattle.family.proofs.Combine.{has_combine, within_combine}
use Rattle.family.proofs.Restrict.{has_subset1, has_subset0, has_change, subset1_at, subset0_at}

-- "Union, Intsec, Diff: of sets of combinations"
module _ (F G : Family) (oF : Ordered F) (oG : Ordered G) (c : List ℕ) where
  pub union_law : has (union F G) c ≡ has F c || has G c
  union_law = has_combine ◌||◌ refl F G c oF oG

  pub intsec_law : has (intsec F G) c ≡ has F c && has G c
  intsec_law = has_combine ◌&&◌ refl F G c oF oG

  pub diff_law : has (diff F G) c ≡ has F c && not (has G c)
  diff_law = has_combine minus refl F G c oF oG

module _ {limit : ℕ} (F G : Family) (wF : Within limit F) (wG : Within limit G) where
  pub union_within : Within limit (union F G)
  union_within = within_combine ◌||◌ refl F G wF wG

  pub intsec_within : Within limit (intsec F G)
  intsec_within = within_combine ◌&&◌ refl F G wF wG

  pub diff_within : Within limit (diff F G)
  diff_within = within_combine minus refl F G wF wG

module _ (v : ℕ) (F : Family) (c : List ℕ) (o : Ordered F) (k : Falling c) where
  -- "members with v, v taken out": c is one exactly when it lacks v, and with v put in is in P
  pub subset1_law : 0 < v → has (subset1 v F) c ≡ not (holds v c) && has F (insert v c)
  subset1_law n = has_subset1 v F c n o k

  -- "members without v"
  pub subset0_law : has (subset0 v F) c ≡ not (holds v c) && has F c
  subset0_law = has_subset0 v F c o k

  -- "v is put in where absent and taken out where present"
  pub change_law : 0 < v → has (change v F) c ≡ has F (toggle v c)
  change_law n = has_change v F c n o k

-- the sides of a family, at its own top
pub without_law : (F : Family) (c : List ℕ) → Ordered F → 0 < top F → Falling c → has (without_side F) c ≡ not (holds (top F) c) && has F c
without_law empty c o n k = absurd (omega arith)
without_law base c o n k = absurd (omega arith)
without_law (node i a b) c o n k = ap (λ X. has X c) (sym (subset0_at i i a b refl)) ∙ has_subset0 i (node i a b) c o k

pub with_law : (F : Family) (c : List ℕ) → Ordered F → 0 < top F → Falling c → has (with_side F) c ≡ not (holds (top F) c) && has F (insert (top F) c)
with_law empty c o n k = absurd (omega arith)
with_law base c o n k = absurd (omega arith)
with_law (node i a b) c o n k = ap (λ X. has X c) (sym (subset1_at i i a b refl)) ∙ has_subset1 i (node i a b) c n o k

-- the top is the largest item in any member: none is larger, and one member has it
pub top_bounds : (F : Family) (c : List ℕ) → Ordered F → has F c ≡ true → largest c ≤ top F
top_bounds F c o e = (member_falls F c o e).1

pub top_reached : (F : Family) → Ordered F → T (inhabited F) → (has F (highest F) ≡ true) × (largest (highest F) ≡ top F)
top_reached F o n = highest_member F o n
