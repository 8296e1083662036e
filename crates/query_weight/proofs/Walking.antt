-- The walk member by member: each way out adds the weights of the members below, and from the top of a family that is
-- the sum over its members.
-- What stands below a node is what stands below its two sides, the with-side's items with the node's item on the way.
use Prim.Native.Nat.{ℕ, ◌+◌, ◌*◌, ◌-◌, ◌^◌, ◌≤◌, ◌<◌}
use mathlib.Core.Path.{◌≡◌, sym, ap, ◌∙◌}
use mathlib.Core.List.{List}
use native.Mathlib.Omega.{arith}
use native.Mathlib.Nat.{mul-zero, mul-one, zero-mul, mul-add, add-mul}
use lib.ListN.{get_or}
use Rattle.std.specs.Prelude.{⊤, Option, None, Some, SomeIff, MatchOption}
use Rattle.std.specs.Option.{option_and}
use Rattle.words.specs.Words.{most}
use Rattle.words.proofs.Cases.{by_lt}
use Rattle.family.specs.Family.{Family, empty, base, node, top, size, Ordered}
use Rattle.family.specs.Book.{at}
use Rattle.family.specs.Weights.{item_weight, sum_by_members, sum_by_nodes}
use Rattle.family.proofs.Weights.{sums_agree}
use Rattle.store.specs.Inner.{Holds}
use Rattle.store.proofs.Held.{at_0, at_1, at_node, entry, within}
use Rattle.query_sums.specs.Inner.{Keeps}
use Rattle.query_weight.specs.Inner.{sum_below, Grown, Walked}

below_nodes : (weights : List ℕ) (n : ℕ) (F : Family) → sum_below weights n F ≡ sum_by_nodes weights F + n * size F
below_nodes weights n empty = rw (mul-zero n)
below_nodes weights n base = rw (mul-one n) (omega arith)
below_nodes weights n (node i a b) =
    rw (below_nodes weights n a, below_nodes weights (n + item_weight weights i) b, add-mul n (item_weight weights i) (size b), mul-add n (size a) (size b)) (omega arith)

-- from the top of a family the walk adds up its members
pub walk_sum : (weights : List ℕ) (F : Family) → sum_below weights 0 F ≡ sum_by_members weights F
walk_sum weights F = below_nodes weights 0 F ∙ rw (zero-mul (size F)) (omega arith) ∙ sym (sums_agree weights F)

-- the two ways out of `grow`
pub grown_above : (sum n : ℕ) (o : Option ℕ) (r : Option ⊤) → SomeIff o (sum + n < 2 ^ 64) (sum + n) → o ≡ None → r ≡ None → Grown sum n sum r
grown_above sum n None r f e q = rw q (record { is = by_lt most (sum + n) (λ l d. l) (λ l d. absurd (f (omega arith))); inside = λ m. m })
grown_above sum n (Some x) r f e q = absurd (cc)

pub grown_fits : (sum n : ℕ) (o : Option ℕ) (sum' : ℕ) → SomeIff o (sum + n < 2 ^ 64) (sum + n) → o ≡ Some sum' → (u : ⊤) → Grown sum n sum' (Some u)
grown_fits sum n None sum' f e u = absurd (cc)
grown_fits sum n (Some x) sum' f e u = let d : x ≡ sum' = cc in record { is = omega (arith, f.1); inside = λ m. omega (arith, f.0, f.1) }

-- the sum grows by what stands below one side, and then by the other's
on_side : (sum a b sum₁ sum' : ℕ) (s : Option ⊤) → sum₁ ≡ sum + a → MatchOption s (most < sum₁ + b) (λ _. sum' ≡ sum₁ + b)
    → MatchOption s (most < sum + (a + b)) (λ _. sum' ≡ sum + (a + b))
on_side sum a b sum₁ sum' None e m = omega arith
on_side sum a b sum₁ sum' (Some u) e m = omega arith

module _ (nodes weights : List ℕ) (n p bound carried sum : ℕ) where
  -- {} has no member
  pub walked_empty : p ≡ 0 → Walked nodes weights n p bound carried sum sum (Some tt)
  walked_empty z =
      record {
        inside = λ m. m;
        is = λ B lookup H l t. let e : sum_below weights carried (at B p) ≡ 0 = rw (z, at_0 H) in omega arith;
      }

  -- a way that came to {{}} is a member
  pub walked_base : p ≡ 1 → {sum' : ℕ} {r : Option ⊤} → Grown sum carried sum' r → Walked nodes weights n p bound carried sum sum' r
  walked_base z G =
      record {
        inside = G.inside;
        is = λ B lookup H l t. let e : sum_below weights carried (at B p) ≡ carried = rw (z, at_1 H) in rw e G.is;
      }

  -- words that hold no book
  pub walked_outside : n + 1 < p → Walked nodes weights n p bound carried sum sum (Some tt)
  walked_outside o = record { inside = λ m. m; is = λ B lookup H l t. absurd (omega arith) }

  module _ (h : 2 ≤ p) where
    -- the words of the node
    abbrev item : ℕ
    item = get_or nodes (3 * (p - 2)) 0

    abbrev zero : ℕ
    zero = get_or nodes (3 * (p - 2) + 1) 0

    abbrev one : ℕ
    one = get_or nodes (3 * (p - 2) + 2) 0

    pub walked_high : bound ≤ item → Walked nodes weights n p bound carried sum sum (Some tt)
    walked_high o = record { inside = λ m. m; is = λ B lookup H l t. absurd (omega (arith, ap top (at_node H p h l))) }

    -- what stands below a node, and that its sides have smaller tops
    below_sides : {limit : ℕ} {B : List Family} {lookup : List ℕ} → Holds limit B n nodes lookup → p < n + 2
        → (sum_below weights carried (at B p) ≡ sum_below weights carried (at B zero) + sum_below weights (carried + item_weight weights item) (at B one))
        × ((top (at B zero) < item) × (top (at B one) < item))
    below_sides {B = B} H l =
        let o : Ordered (node item (at B zero) (at B one)) = rw (at_node H p h l) at (within H p l).ordered in
        (ap (λ F. sum_below weights carried F) (at_node H p h l), (o.0, o.1))

    -- with the without-side alone the sum is above the largest number
    pub walked_first : {sum₁ : ℕ} {r : Option ⊤} → Walked nodes weights n zero item carried sum sum₁ r → r ≡ None → Walked nodes weights n p bound carried sum sum₁ None
    walked_first Z e =
        record {
          inside = Z.inside;
          is = λ B lookup H l t.
              let S = below_sides H l in
              let G = rw e at (Z.is B lookup H (omega (arith, (entry H p h l).zero_before)) S.1.0) in
              omega (arith, S.0, G);
        }

    -- both sides
    pub walked_node : (weight : ℕ) → (0 < item → weight ≡ item_weight weights item) → {sum₁ : ℕ} {r : Option ⊤} → Walked nodes weights n zero item carried sum sum₁ r
        → {u : ⊤} → r ≡ Some u → {sum' : ℕ} {s : Option ⊤} → Walked nodes weights n one item (carried + weight) sum₁ sum' s → Walked nodes weights n p bound carried sum sum' s
    walked_node weight ew Z e {sum'} {s} O =
        record {
          inside = λ m. O.inside (Z.inside m);
          is = λ B lookup H l t.
              let S = below_sides H l in
              let d : weight ≡ item_weight weights item = ew (omega (arith, S.1.0)) in
              let G = rw e at (Z.is B lookup H (omega (arith, (entry H p h l).zero_before)) S.1.0) in
              let I = rw d at (O.is B lookup H (omega (arith, (entry H p h l).one_before)) S.1.1) in
              rw S.0 (on_side sum _ _ _ sum' s G I);
        }

-- from the top, and from 0, the walk comes to the sum over the members, or tells that it is above the largest number
pub walked_sum : {limit : ℕ} {B : List Family} {n : ℕ} {nodes weights lookup : List ℕ} {p sum : ℕ} (r : Option ⊤) → p ≤ n + 1 → Walked nodes weights n p 513 0 0 sum r
    → Holds limit B n nodes lookup → Keeps (sum_by_members weights (at B p)) (option_and r (Some sum))
walked_sum {B = B} {weights = weights} {lookup = lookup} {p = p} {sum = sum} r l W H =
    kept r (W.is B lookup H (omega arith) (omega (arith, (within H p (omega arith)).low, H.limit_low)))
  where
    kept : (r : Option ⊤) → MatchOption r (most < 0 + sum_below weights 0 (at B p)) (λ _. sum ≡ 0 + sum_below weights 0 (at B p)) → Keeps (sum_by_members weights (at B p)) (option_and r (Some sum))
    kept None m = record { is = λ h. absurd (omega (arith, walk_sum weights (at B p))) }
    kept (Some u) m = record { is = (omega (arith, walk_sum weights (at B p), W.inside (omega arith)), omega (arith, walk_sum weights (at B p))) }
