-- The way down of Has: at each node the members that hold its item are met on the one side, the others on the zero
-- side, and at {{}} no item may be left.
-- A combination with an item above the top is in no side, so that it does not matter on which side it is looked for.
use Prim.Native.Nat.{ℕ, ◌+◌, ◌*◌, ◌-◌, ◌≤◌, ◌<◌}
use mathlib.Core.Path.{◌≡◌, refl, sym, ap, ◌∙◌}
use mathlib.Core.Bool.{Bool, true, false}
use mathlib.Core.Logic.{◌⊎◌, ⊎_elim}
use lib.Dec.{eqb}
use borrow.Author.Tests.{ne_eqb}
use mathlib.Core.List.{List, [], ◌∷◌}
use native.Mathlib.Omega.{arith}
use lib.ListN.{get_or}
use Rattle.family.specs.Family.{Family, base, node, top, has, Ordered, largest_item}
use Rattle.family.specs.Combination.{largest, Falling, holds, remove, is_none}
use Rattle.family.specs.Book.{at}
use Rattle.family.proofs.Falling.{holds_high, remove_absent}
use Rattle.family.proofs.Laws.{top_bounds}
use Rattle.words.proofs.Cases.{by_test, by_eq, by_lt, clash}
use Rattle.store.specs.Inner.{Holds}
use Rattle.store.proofs.Held.{at_0, at_1, at_node, within}
use Rattle.query_has.specs.Inner.{Stepped, Memberly}

has_high : (F : Family) (c : List ℕ) → Ordered F → top F < largest c → has F c ≡ false
has_high F c o l = by_test (has F c) (λ e. absurd (omega (arith, top_bounds F c o e))) (λ e. e)

-- a member that holds the top item
has_met : (i : ℕ) (a b : Family) (c : List ℕ) → Ordered (node i a b) → Falling c → holds i c ≡ true → has (node i a b) c ≡ has b (remove i c)
has_met i a b [] o f e = clash e refl
has_met i a b (x ∷ d) o f e =
    by_eq x i
    (λ p q. rw q)
    (λ p q.
    let h : holds i d ≡ true = rw q at e in
    let l : i < x = by_lt (largest d) i (λ m r. clash h (holds_high i d f.1 m)) (λ m r. omega arith) in
    rw q (has_high a (x ∷ d) o.3 (omega arith) ∙ sym (has_high b (x ∷ remove i d) o.4 (omega arith))))

-- one that does not
has_passed : (i : ℕ) (a b : Family) (c : List ℕ) → holds i c ≡ false → has (node i a b) c ≡ has a c
has_passed i a b [] e = refl
has_passed i a b (x ∷ d) e = by_eq x i (λ p q. clash (refl {a = true}) (rw q at e)) (λ p q. rw q)

has_base : (c : List ℕ) → has base c ≡ is_none c
has_base [] = refl
has_base (x ∷ c) = refl

-- on the way down from p: the rest is a member here exactly when the combination is one of p, and the top is at most
-- what is left
pub record Along (nodes : List ℕ) (n p : ℕ) (c : List ℕ) (at' : ℕ) (rest : List ℕ) (left : ℕ) : Type 0 where
  pub same : {limit : ℕ} (B : List Family) (lookup : List ℕ) → Holds limit B n nodes lookup → (at' ≤ n + 1) × (has (at B at') rest ≡ has (at B p) c) × (top (at B at') ≤ left)

module _ (nodes : List ℕ) (n p : ℕ) (c : List ℕ) where
  pub along_start : p ≤ n + 1 → Along nodes n p c p c largest_item
  along_start l = record { same = λ B lookup H. (l, refl, omega (arith, (within H p (omega arith)).low, H.limit_low)) }

  module _ (at' : ℕ) (rest : List ℕ) (left : ℕ) (A : Along nodes n p c at' rest left) where
    -- the way ends at {{}}, where no item may be left
    pub along_base : at' ≡ 1 → (r : Bool) → r ≡ is_none rest → Memberly nodes n p c r
    along_base e r q =
        record { is = λ B lookup H. q ∙ sym (has_base rest) ∙ sym (ap (λ F. has F rest) (ap (λ k. at B k) e ∙ at_1 H)) ∙ (A.same B lookup H).1 }

    -- or at {}
    along_empty : at' ≡ 0 → Memberly nodes n p c false
    along_empty e = record { is = λ B lookup H. sym (ap (λ F. has F rest) (ap (λ k. at B k) e ∙ at_0 H)) ∙ (A.same B lookup H).1 }

    pub along_outside : n + 1 < at' → Memberly nodes n p c false
    along_outside l = record { is = λ B lookup H. absurd (omega (arith, (A.same B lookup H).0)) }

    module _ (h : 2 ≤ at') where
      abbrev i : ℕ
      i = get_or nodes (3 * (at' - 2)) 0

      abbrev z : ℕ
      z = get_or nodes (3 * (at' - 2) + 1) 0

      abbrev o : ℕ
      o = get_or nodes (3 * (at' - 2) + 2) 0

      is_node : {limit : ℕ} {B : List Family} {lookup : List ℕ} → Holds limit B n nodes lookup → at B at' ≡ node i (at B z) (at B o)
      is_node {B} {lookup} H = at_node H at' h (omega (arith, (A.same B lookup H).0))

      falls : {limit : ℕ} {B : List Family} {lookup : List ℕ} → Holds limit B n nodes lookup → Ordered (node i (at B z) (at B o))
      falls {B} {lookup} H = rw (is_node H) at (within H at' (omega (arith, (A.same B lookup H).0))).ordered

      along_end : left ≡ 0 → Memberly nodes n p c false
      along_end e = record { is = λ B lookup H. absurd (let f = falls H in omega (arith, (A.same B lookup H).2, ap top (is_node H), f.0)) }

      pub along_step : Falling rest → (next : ℕ) (rest' : List ℕ) → Stepped nodes (3 * (at' - 2)) rest next rest' → (left' : ℕ) → left ≤ left' + 1 → Along nodes n p c next rest' left'
      along_step fall next rest' S left' down =
          by_test (holds i rest)
          (λ e.
          let q = S.met e in
          record {
            same = λ B lookup H.
                let s = A.same B lookup H in
                let f = falls H in
                let E = H.each (at' - 2) (omega (arith, s.0)) in (
                  omega (arith, q.0, E.one_before, s.0),
                  rw (q.0, q.1) (sym (ap (λ F. has F rest) (is_node H) ∙ has_met i (at B z) (at B o) rest f fall e) ∙ s.1),
                  omega (arith, s.2, ap top (is_node H), f.1, ap (λ k. top (at B k)) q.0),
                );
          })
          (λ e.
          let q = S.passed e in
          record {
            same = λ B lookup H.
                let s = A.same B lookup H in
                let f = falls H in
                let E = H.each (at' - 2) (omega (arith, s.0)) in (
                  omega (arith, q.0, E.zero_before, s.0),
                  rw (q.0, q.1) (sym (ap (λ F. has F rest) (is_node H) ∙ has_passed i (at B z) (at B o) rest e) ∙ s.1),
                  omega (arith, s.2, ap top (is_node H), f.0, ap (λ k. top (at B k)) q.0),
                );
          })

    -- a way that is at its end, or has no step left, and is not at {{}}
    pub along_else : (at' ≡ 1 → ⊥) → (at' < 2) ⊎ (left ≡ 0) → Memberly nodes n p c (eqb at' 1)
    along_else d out =
        rw (ne_eqb at' 1 d) (by_lt at' 2 (λ l e. along_empty (omega arith)) (λ l e. along_end l (⊎_elim (λ m. absurd (omega arith)) (λ z. z) out)))

-- one step, from what taking its item out of the combination says
module _ (nodes : List ℕ) (from : ℕ) (c : List ℕ) (next : ℕ) (rest : List ℕ) {x : Bool} (t : (x ≡ holds (get_or nodes from 0) c) × (rest ≡ remove (get_or nodes from 0) c)) where
  pub step_passed : x ≡ false → next ≡ get_or nodes (from + 1) 0 → Stepped nodes from c next rest
  step_passed d p = record { met = λ m. clash m (sym t.0 ∙ d); passed = λ m. (p, t.1 ∙ remove_absent (get_or nodes from 0) c m) }
