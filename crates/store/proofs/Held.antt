-- Words that hold a book: what a handle's words say is what the book says, and no two handles are the same family.
-- The book's own laws (no family twice, sides before) carry over through the words of each node.
use Prim.Native.Nat.{ℕ, zero, suc, ◌+◌, ◌*◌, ◌-◌, ◌≤◌, ◌<◌}
use mathlib.Core.Path.{◌≡◌, refl, sym, ap, ◌∙◌}
use mathlib.Core.List.{List}
use native.Mathlib.Omega.{arith}
use lib.Dec.{T}
use lib.ListN.{length, get_or}
use borrow.Author.Tests.{lt-ltb, le-ltb}
use Rattle.family.specs.Family.{Family, empty, base, node, top, inhabited, Within}
use Rattle.family.specs.Book.{at, number, Held}
use Rattle.family.proofs.Books.{held_at}
use Rattle.table.proofs.Stops.{Has}
use Rattle.table.proofs.OwnSlots.{Distinct, Items}
use Rattle.store.specs.Words.{top_at}
use Rattle.store.specs.Inner.{Entry, Holds}

pub top_leaf : (nodes : List ℕ) (p : ℕ) → p < 2 → top_at nodes p ≡ 0
unfolding top_at
top_leaf nodes p h = rw (lt-ltb p 2 h)

pub top_node : (nodes : List ℕ) (p : ℕ) → 2 ≤ p → top_at nodes p ≡ get_or nodes (3 * (p - 2)) 0
unfolding top_at
top_node nodes p h = rw (le-ltb p 2 h)

module _ {limit : ℕ} {B : List Family} {n : ℕ} {nodes lookup : List ℕ} (H : Holds limit B n nodes lookup) where
  pub at_0 : at B 0 ≡ empty
  at_0 = ap (λ X. at X 0) H.book.begins.eq

  pub at_1 : at B 1 ≡ base
  at_1 = ap (λ X. at X 1) H.book.begins.eq

  pub inside : (h : ℕ) → h < n + 2 → h < length B
  inside h l = omega (arith, H.size)

  pub held : (h : ℕ) → h < n + 2 → Held B (at B h)
  held h l = held_at B H.book h (inside h l)

  pub handle_of : (h : ℕ) → h < n + 2 → number B (at B h) ≡ h
  handle_of h l = H.book.unique h (inside h l)

  pub at_inj : (j k : ℕ) → j < n + 2 → k < n + 2 → at B j ≡ at B k → j ≡ k
  at_inj j k l m e = sym (handle_of j l) ∙ ap (λ X. number B X) e ∙ handle_of k m

  pub within : (h : ℕ) → h < n + 2 → Within limit (at B h)
  within h l = H.book.within (at B h) (held h l)

  -- a node of the book, from its handle
  pub entry : (p : ℕ) → 2 ≤ p → p < n + 2 → Entry B (p - 2) (get_or nodes (3 * (p - 2)) 0) (get_or nodes (3 * (p - 2) + 1) 0) (get_or nodes (3 * (p - 2) + 2) 0)
  entry p h l = H.each (p - 2) (omega arith)

  pub at_node : (p : ℕ) → 2 ≤ p → p < n + 2 → at B p ≡ node (get_or nodes (3 * (p - 2)) 0) (at B (get_or nodes (3 * (p - 2) + 1) 0)) (at B (get_or nodes (3 * (p - 2) + 2) 0))
  at_node p h l = ap (λ k. at B k) (omega arith) ∙ (entry p h l).is

  pub top_at_lem : (p : ℕ) → p < n + 2 → top_at nodes p ≡ top (at B p)
  top_at_lem zero l = top_leaf nodes 0 (omega arith) ∙ sym (ap top at_0)
  top_at_lem (suc zero) l = top_leaf nodes 1 (omega arith) ∙ sym (ap top at_1)
  top_at_lem (suc (suc p)) l = top_node nodes (suc (suc p)) (omega arith) ∙ sym (ap top (at_node (suc (suc p)) (omega arith) l))

  -- a handle that is a node's is no terminal
  pub node_handle : (h i : ℕ) (a b : Family) → h < n + 2 → at B h ≡ node i a b → 2 ≤ h
  node_handle zero i a b l e = absurd (let d = at_0 in let z : ◌≡◌ {A = ℕ} 0 1 = cc in omega arith)
  node_handle (suc zero) i a b l e = absurd (let d = at_1 in let z : ◌≡◌ {A = ℕ} 0 1 = cc in omega arith)
  node_handle (suc (suc h)) i a b l e = omega arith

  -- the node with these words, and the words of the node
  pub has_node : (k i z o : ℕ) → k < n → Has nodes k i z o → at B (k + 2) ≡ node i (at B z) (at B o)
  has_node k i z o l w = (H.each k l).is ∙ rw (w.item_is, w.zero_is, w.one_is)

  pub node_has : (k i z o : ℕ) → k < n → z < n + 2 → o < n + 2 → at B (k + 2) ≡ node i (at B z) (at B o) → Has nodes k i z o
  node_has k i z o l lz lo e =
      let E = H.each k l in
      let q = E.is in
      let ei : get_or nodes (3 * k) 0 ≡ i = cc in
      let ez : at B (get_or nodes (3 * k + 1) 0) ≡ at B z = cc in
      let eo : at B (get_or nodes (3 * k + 2) 0) ≡ at B o = cc in
      record {
        item_is = ei;
        zero_is = at_inj (get_or nodes (3 * k + 1) 0) z (omega (arith, E.zero_before)) lz ez;
        one_is = at_inj (get_or nodes (3 * k + 2) 0) o (omega (arith, E.one_before)) lo eo;
      }

  -- the one child of a node is not {}
  pub one_positive : (o : ℕ) → o < n + 2 → T (inhabited (at B o)) → 0 < o
  one_positive zero l t = absurd (rw at_0 at t)
  one_positive (suc o) l t = omega arith

  pub positive_one : (o : ℕ) → o < n + 2 → 0 < o → T (inhabited (at B o))
  positive_one o l p = go (at B o) refl
    where
      go : (F : Family) → at B o ≡ F → T (inhabited F)
      go empty e = absurd (omega (arith, at_inj o 0 l (omega arith) (e ∙ sym at_0)))
      go base e = tt
      go (node i a b) e = tt

  -- no two nodes have equal words, and each has an item of the limit
  pub words_apart : Distinct nodes n
  words_apart =
      record {
        apart = λ j k l m w.
            let E = H.each k m in
            let e = at_inj (j + 2) (k + 2) (omega arith) (omega arith) (has_node j _ _ _ (omega arith) w ∙ sym E.is) in
            omega arith;
      }

  node_within : (k : ℕ) → k < n → Within limit (node (get_or nodes (3 * k) 0) (at B (get_or nodes (3 * k + 1) 0)) (at B (get_or nodes (3 * k + 2) 0)))
  node_within k l = rw (H.each k l).is at (within (k + 2) (omega arith))

  pub words_items : Items nodes n
  words_items = record { low = λ k l. let w = node_within k l in omega (arith, w.ordered.0); high = λ k l. let w = node_within k l in omega (arith, w.low, H.limit_low) }

-- a handle whose top is at most t
pub low_at : {limit : ℕ} {B : List Family} {n : ℕ} {nodes lookup : List ℕ} → Holds limit B n nodes lookup → (h t : ℕ) → h ≤ n + 1 → top_at nodes h ≤ t → Within t (at B h)
low_at H h t l m = record { ordered = (within H h (omega arith)).ordered; low = omega (arith, top_at_lem H h (omega arith)) }
