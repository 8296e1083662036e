-- Each way out of `in_order`: it is the definition's walk of the placing order, by the last number placed.
-- A handle's number in the book is the handle, so the tests on handles are the definition's tests on numbers.
use Prim.Native.Nat.{ℕ, suc, ◌+◌, ◌*◌, ◌-◌, ◌≤◌, ◌<◌}
use mathlib.Core.Path.{◌≡◌, refl, sym, ap, ◌∙◌}
use mathlib.Core.Bool.{cond}
use mathlib.Core.List.{List}
use mathlib.Core.Option.{none, some}
use native.Mathlib.Omega.{arith}
use lib.Dec.{eqb}
use lib.ListN.{get_or}
use borrow.Author.Tests.{lt-ltb, le-ltb, eq-eqb, ne_eqb}
use Rattle.family.specs.Family.{Family, empty, base, node}
use Rattle.family.specs.Book.{at, number}
use Rattle.family.specs.File.{and_then, order}
use Rattle.store.specs.Inner.{Holds}
use Rattle.store.proofs.Held.{handle_of, at_node, within}
use Rattle.std.proofs.Common.{Some, None}
use Rattle.file_read.specs.Inner.{OrderOf}
use Rattle.file_table.specs.Inner.{LocalNodes}

-- a family that is placed already
order_placed : (B : List Family) (F : Family) (n : ℕ) → number B F < n → order B F n ≡ some n
order_placed B empty n l = refl
order_placed B base n l = refl
order_placed B (node i a b) n l = rw (lt-ltb (number B (node i a b)) n l)

-- a family that is not: its sides, then itself
order_node : (B : List Family) (i : ℕ) (a b : Family) (n : ℕ) → n ≤ number B (node i a b)
    → order B (node i a b) n ≡ and_then (order B a n) (λ n₁. and_then (order B b n₁) (λ n₂. cond (eqb n₂ (number B (node i a b))) (some (suc n₂)) none))
order_node B i a b n l = rw (le-ltb (number B (node i a b)) n l)

-- the children of p
abbrev zero_at : List ℕ → ℕ → ℕ
zero_at nodes p = get_or nodes (3 * (p - 2) + 1) 0

abbrev one_at : List ℕ → ℕ → ℕ
one_at nodes p = get_or nodes (3 * (p - 2) + 2) 0

module _ (nodes : List ℕ) (n p last : ℕ) (lp : p ≤ n + 1) (some' : 1 ≤ last) where
  module _ (later : last < p) where
    -- the walk of p by its children: each case of `in_order` is one of its cases
    walk_node : {limit : ℕ} {B : List Family} {lookup : List ℕ} → Holds limit B n nodes lookup
        → order B (at B p) (suc last)
        ≡ and_then (order B (at B (zero_at nodes p)) (suc last)) (λ n₁. and_then (order B (at B (one_at nodes p)) n₁) (λ n₂. cond (eqb n₂ p) (some (suc n₂)) none))
    walk_node {B = B} H =
        let is : at B p ≡ node (get_or nodes (3 * (p - 2)) 0) (at B (zero_at nodes p)) (at B (one_at nodes p)) = at_node H p (omega arith) (omega arith) in
        let number_is = ap (λ X. number B X) (sym is) ∙ handle_of H p (omega arith) in
        ap (λ X. order B X (suc last)) is ∙ order_node B _ _ _ (suc last) (omega (arith, number_is))
        ∙ ap (λ k. and_then (order B (at B (zero_at nodes p)) (suc last)) (λ n₁. and_then (order B (at B (one_at nodes p)) n₁) (λ n₂. cond (eqb n₂ k) (some (suc n₂)) none))) number_is

    walk_broken : ((limit : ℕ) (B : List Family) (lookup : List ℕ) → Holds limit B n nodes lookup → order B (at B p) (suc last) ≡ none) → OrderOf nodes n p last None
    walk_broken f = record { low = tt; sound = λ B lookup H. f _ B lookup H }

    pub walk_first : OrderOf nodes n (zero_at nodes p) last None → OrderOf nodes n p last None
    walk_first A = walk_broken (λ l B lookup H. walk_node H ∙ rw (A.sound B lookup H))

    module _ {first : ℕ} (A : OrderOf nodes n (zero_at nodes p) last (Some first)) where
      pub walk_second : OrderOf nodes n (one_at nodes p) first None → OrderOf nodes n p last None
      walk_second Q = walk_broken (λ l B lookup H. walk_node H ∙ rw (A.sound B lookup H, Q.sound B lookup H))

      module _ {second : ℕ} (Q : OrderOf nodes n (one_at nodes p) first (Some second)) where
        pub walk_other : (p - 1 ≡ second → ⊥) → OrderOf nodes n p last None
        walk_other d =
            walk_broken (λ l B lookup H. walk_node H
            ∙ rw (A.sound B lookup H, Q.sound B lookup H, ne_eqb (suc second) p (λ q. d (omega arith))))

        pub walk_next : p - 1 ≡ second → OrderOf nodes n p last (Some p)
        walk_next d =
            record {
              low = omega arith;
              sound = λ B lookup H. let e : suc second ≡ p = omega arith in walk_node H
                  ∙ rw (A.sound B lookup H, Q.sound B lookup H, eq-eqb (suc second) p e) (ap (λ m. some (suc m)) e);
            }

-- a local book's nodes
pub local_nodes : {limit : ℕ} {C : List Family} {n : ℕ} {words lookup : List ℕ} → Holds limit C n words lookup → LocalNodes words n
local_nodes H =
    record {
      each = λ k l.
          let E = H.each k l in
          let w = rw E.is at (within H (k + 2) (omega arith)) in
          record { item_some = omega (arith, w.ordered.0); item_low = omega (arith, w.low, H.limit_low); zero_before = E.zero_before; one_before = E.one_before };
    }
