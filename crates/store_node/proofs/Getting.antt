-- Each way out of `made_node`: the zero side itself where the one side is {}, else what `make` gave; and its handle, with
-- a new node counted.
-- Adding the node to the book is what placing the family of the item and the two sides does, once both sides are held.
use Prim.Native.Nat.{ℕ, ◌+◌, ◌≤◌, ◌<◌}
use mathlib.Core.Path.{◌≡◌, refl}
use mathlib.Core.List.{List, [], ◌∷◌, ◌++◌}
use native.Mathlib.Omega.{arith}
use lib.Dec.{T}
use lib.ListN.{length-append}
use Rattle.family.specs.Family.{Family, empty, node, top, inhabited, mk, Within}
use Rattle.family.specs.Book.{at, add, made}
use Rattle.family.proofs.Books.{add_same, add_new}
use Rattle.family.proofs.Diagrams.{mk_node}
use Rattle.store_node.specs.declared.unique.Made.{Made}
use Rattle.store_node.specs.declared.unique.Made.TheVariants.{Found, New}
use Rattle.store.specs.declared.record.Unplaced.{Unplaced}
use Rattle.std.proofs.Common.{Result, Ok, Err}
use Rattle.store.specs.declared.record.Fill.{Fill}
use Rattle.store.specs.Inner.{reached, Holds, Outcome, gave, full}
use Rattle.store_node.specs.Inner.{NodeAsks, held_after, filled_after, answer_by, reached_with, MadeOf, found, new, MadeIt, NodeIt}
use Rattle.store.proofs.Held.{at_0, within, positive_one, held}
use Rattle.store.proofs.Growing.{kept_self}
use Rattle.store.proofs.Answers.{handle_is, not_both}

pub made_inhabited : (B : List Family) (i : ℕ) (a b : Family) → T (inhabited b) → made B i a b ≡ add B (node i a b)
made_inhabited B i a empty t = absurd t
made_inhabited B i a Family.base t = refl
made_inhabited B i a (node j c d) t = refl

module _ (s : Fill) (nodes lookup : List ℕ) (i z o : ℕ) (A : NodeAsks s nodes lookup i z o) where
  -- the one side is {}
  pub node_zero : o ≡ 0 → NodeIt s nodes lookup i z o (reached_with s (Ok (Found z))) nodes lookup
  node_zero e =
      record {
        kept = kept_self s nodes lookup A.roomy.within;
        handle = λ h d. omega (arith, handle_is d, A.zero_held);
        sound = λ B l H tz to. rw (e, at_0 H) (gave {h = z} (record { holds = H; within = omega (arith, A.zero_held); means = refl }));
      }

  module _ (some : o ≡ 0 → ⊥) (m : Result Made Unplaced) {nodes' lookup' : List ℕ} (M : MadeIt s nodes lookup i z o m nodes' lookup') where
    full_one : {limit : ℕ} {B : List Family} → Holds limit B s.count nodes lookup → T (inhabited (at B o))
    full_one H = positive_one H o (omega (arith, A.one_held)) (omega arith)

    is_within : {limit : ℕ} {B : List Family} → i ≤ limit → Holds limit B s.count nodes lookup → top (at B z) < i → top (at B o) < i → Within limit (node i (at B z) (at B o))
    is_within l H tz to =
        record {
          ordered = (tz, to, full_one H, (within H z (omega (arith, A.zero_held))).ordered, (within H o (omega (arith, A.one_held))).ordered);
          low = l;
        }

    -- the family and the book of an inhabited one side
    as_node : {limit : ℕ} {B : List Family} → Holds limit B s.count nodes lookup → (C : List Family) {n : ℕ} {a : Result ℕ Unplaced} → add B (node i (at B z) (at B o)) ≡ C
        → Outcome limit C (node i (at B z) (at B o)) s.capacity n nodes' lookup' a
        → Outcome limit (made B i (at B z) (at B o)) (mk i (at B z) (at B o)) s.capacity n nodes' lookup' a
    as_node {B = B} H C e A = rw (mk_node i (at B z) (at B o) (full_one H), made_inhabited B i (at B z) (at B o) (full_one H), e) A

    outcome : {limit : ℕ} {B : List Family} → Holds limit B s.count nodes lookup → {n : ℕ} {x : Result Made Unplaced} → MadeOf limit B (node i (at B z) (at B o)) s.capacity n nodes' lookup' x
        → Outcome limit (made B i (at B z) (at B o)) (mk i (at B z) (at B o)) s.capacity n nodes' lookup' (answer_by x)
    outcome {B = B} H (found {h = h} G) = as_node H B (add_same B (node i (at B z) (at B o)) (rw G.means at (held G.holds h G.within))) (gave G)
    outcome {B = B} H (new l G) = as_node H (B ++ (node i (at B z) (at B o) ∷ [])) (add_new B (node i (at B z) (at B o)) l) (gave G)
    outcome {B = B} H (MadeOf.full l m K) =
        as_node H (B ++ (node i (at B z) (at B o) ∷ [])) (add_new B (node i (at B z) (at B o)) l) (full B K (rw length-append (omega arith)))

    -- a handle that `make` gave is held
    given : (x : Result Made Unplaced) → m ≡ x → (h : ℕ) → answer_by x ≡ Ok h → h ≤ held_after s.count x + 1
    given (Ok (Found k)) e h d = omega (arith, (M.found_is k e).0, handle_is d)
    given (Ok (New k)) e h d = omega (arith, M.new_is k e, handle_is d)
    given (Err x) e h d = not_both h x d refl

    -- what `make` gave
    pub node_made : NodeIt s nodes lookup i z o (reached_with s m) nodes' lookup'
    node_made =
        record {
          kept = M.kept;
          handle = given m refl;
          sound = λ B l H tz to. outcome H (M.sound B H (is_within l H tz to));
        }

-- the answer handed on, with the count of what is then held
module _ {s : Fill} {nodes lookup : List ℕ} {i z o : ℕ} {m : Result Made Unplaced} {nodes' lookup' : List ℕ} (N : NodeIt s nodes lookup i z o (reached_with s m) nodes' lookup') where
  pub node_answer : (t : Fill) (r : Result ℕ Unplaced) {x : Result Made Unplaced} → m ≡ x → t ≡ filled_after s x → r ≡ answer_by x → NodeIt s nodes lookup i z o (reached t r) nodes' lookup'
  node_answer t r em et er = rw (et, er) (rw em at N)
