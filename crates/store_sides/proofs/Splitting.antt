-- The sides of a handle at a level: itself and {} where its top is below, else its children; and which words no book
-- has.
-- Where the words hold a book, a node's children have smaller numbers and smaller tops, so no test on the way fails;
-- and the words of a node stay as others are added.
use Prim.Native.Nat.{ℕ, suc, ◌+◌, ◌*◌, ◌-◌, ◌≤◌, ◌<◌}
use mathlib.Core.Path.{◌≡◌, refl, sym, ap, ◌∙◌}
use mathlib.Core.List.{List}
use native.Mathlib.Omega.{arith}
use lib.ListN.{get_or}
use borrow.Author.Tests.{eq-eqb}
use Rattle.family.specs.Family.{Family, node, Within, largest_item}
use Rattle.family.specs.Operation.{lacking, holding}
use Rattle.family.specs.Book.{at}
use Rattle.family.proofs.Diagrams.{lacking_above, holding_above}
use Rattle.words.proofs.Cases.{by_lt}
use Rattle.store.specs.Words.{top_at}
use Rattle.store.specs.Inner.{Holds, Added}
use Rattle.store_sides.specs.Inner.{Low, Halves}
use Rattle.store.proofs.Held.{at_0, top_leaf, top_node, top_at_lem, within, entry, at_node}
use Rattle.store.proofs.Growing.{added_self, added_trans, added_top}

-- what is low now
pub low_now : {limit : ℕ} {B : List Family} {nodes lookup : List ℕ} {n level p : ℕ} → Low nodes n level p → Holds limit B n nodes lookup → top_at nodes p < level
low_now {B = B} {nodes} {lookup} {n} L H = L.falls B n nodes lookup (added_self n nodes) H

-- and after nodes were added
pub low_added : {nodes nodes₁ : List ℕ} {n n₁ level p : ℕ} → Added n nodes n₁ nodes₁ → Low nodes n level p → Low nodes₁ n₁ level p
low_added K L = record { falls = λ B m words lookup M H. L.falls B m words lookup (added_trans K M) H }

-- a handle with a lower top
low_top : {nodes : List ℕ} {n level p : ℕ} → p ≤ n + 1 → top_at nodes p < level → Low nodes n level p
low_top {p = p} h l = record { falls = λ B m words lookup K H. omega (arith, added_top K p h) }

-- a book's items are within its limit, and no limit is above the largest item
pub low_largest : {nodes : List ℕ} {n p : ℕ} → p ≤ n + 1 → Low nodes n (largest_item + 1) p
low_largest {p = p} h = record { falls = λ B m words lookup K H. let l = K.grows in omega (arith, top_at_lem H p (omega arith), (within H p (omega arith)).low, H.limit_low) }

module _ (nodes : List ℕ) (n p level : ℕ) (lp : p ≤ n + 1) (some : 0 < level) where
  below_top : {limit : ℕ} {B : List Family} {lookup : List ℕ} → Holds limit B n nodes lookup → top_at nodes p < level → Within (level - 1) (at B p)
  below_top H l = record { ordered = (within H p (omega arith)).ordered; low = omega (arith, top_at_lem H p (omega arith)) }

  one_level : suc (level - 1) ≡ level
  one_level = omega arith

  pub halves_below : top_at nodes p < level → Halves nodes n p level p 0
  halves_below l =
      record {
        zero_within = lp;
        one_within = omega arith;
        zero_low = low_top lp l;
        one_low = low_top (omega arith) (omega (arith, top_leaf nodes 0 (omega arith)));
        lacks = λ B lookup H. sym (ap (λ k. lacking k (at B p)) (sym one_level) ∙ lacking_above (below_top H l));
        holds = λ B lookup H. at_0 H ∙ sym (ap (λ k. holding k (at B p)) (sym one_level) ∙ holding_above (below_top H l));
      }

  module _ (high : level ≤ top_at nodes p) (fits : top_at nodes p ≤ level) where
    pub is_inner : 2 ≤ p
    is_inner = by_lt p 2 (λ l e. absurd (omega (arith, top_leaf nodes p l))) (λ l e. l)

    -- where the words hold a book, p is the node of the level and these children
    is_node : {limit : ℕ} {B : List Family} {lookup : List ℕ} → Holds limit B n nodes lookup → at B p ≡ node level (at B (get_or nodes (3 * (p - 2) + 1) 0)) (at B (get_or nodes (3 * (p - 2) + 2) 0))
    is_node {B = B} H =
        let e : get_or nodes (3 * (p - 2)) 0 ≡ level = omega (arith, top_node nodes p is_inner) in
        at_node H p is_inner (omega arith) ∙ rw e

    pub zero_inside : {limit : ℕ} {B : List Family} {lookup : List ℕ} → Holds limit B n nodes lookup → get_or nodes (3 * (p - 2) + 1) 0 ≤ n + 1
    zero_inside H = omega (arith, (entry H p is_inner (omega arith)).zero_before, is_inner)

    pub one_inside : {limit : ℕ} {B : List Family} {lookup : List ℕ} → Holds limit B n nodes lookup → get_or nodes (3 * (p - 2) + 2) 0 ≤ n + 1
    one_inside H = omega (arith, (entry H p is_inner (omega arith)).one_before, is_inner)

    children_low : {limit : ℕ} {B : List Family} {lookup : List ℕ} → Holds limit B n nodes lookup
        → (top_at nodes (get_or nodes (3 * (p - 2) + 1) 0) < level) × (top_at nodes (get_or nodes (3 * (p - 2) + 2) 0) < level)
    children_low H =
        let w = rw (is_node H) at (within H p (omega arith)) in
        let l = zero_inside H in
        let m = one_inside H in (
          omega (arith, top_at_lem H (get_or nodes (3 * (p - 2) + 1) 0) (omega arith), w.ordered.0),
          omega (arith, top_at_lem H (get_or nodes (3 * (p - 2) + 2) 0) (omega arith), w.ordered.1),
        )

module _ (nodes : List ℕ) (n p level : ℕ) (lp : p ≤ n + 1) (some : 0 < level) (high : level ≤ top_at nodes p) (fits : top_at nodes p ≤ level) where
  -- the children, after nodes were added
  still_low : {limit : ℕ} {B : List Family} {m : ℕ} {words lookup : List ℕ} → Added n nodes m words → Holds limit B m words lookup
      → (top_at words (get_or nodes (3 * (p - 2) + 1) 0) < level) × (top_at words (get_or nodes (3 * (p - 2) + 2) 0) < level)
  still_low {m = m} {words} K H =
      let e = added_top K p lp in
      let i = is_inner nodes n p level lp some high fits in
      rw (K.below (3 * (p - 2) + 1) (omega arith), K.below (3 * (p - 2) + 2) (omega arith)) at
      (children_low words m p level (omega (arith, K.grows)) some (omega (arith, e)) (omega (arith, e)) H)

  pub halves_here : get_or nodes (3 * (p - 2) + 1) 0 ≤ n + 1 → get_or nodes (3 * (p - 2) + 2) 0 ≤ n + 1
      → Halves nodes n p level (get_or nodes (3 * (p - 2) + 1) 0) (get_or nodes (3 * (p - 2) + 2) 0)
  halves_here lz lo =
      record {
        zero_within = lz;
        one_within = lo;
        zero_low = record { falls = λ B m words lookup K H. (still_low K H).0 };
        one_low = record { falls = λ B m words lookup K H. (still_low K H).1 };
        lacks = λ B lookup H. rw (is_node nodes n p level lp some high fits H, eq-eqb level level refl);
        holds = λ B lookup H. rw (is_node nodes n p level lp some high fits H, eq-eqb level level refl);
      }
