-- A call that makes one node of two handles in the book.
-- Placing the family of that node adds that node alone, since both sides are held.
use Prim.Native.Nat.{ℕ, ◌+◌, ◌≤◌, ◌<◌}
use mathlib.Core.Path.{◌≡◌, ap, ◌∙◌}
use mathlib.Core.List.{List}
use native.Mathlib.Omega.{arith}
use Rattle.family.specs.Family.{Family, top, mk}
use Rattle.family.specs.Book.{at, place, made}
use Rattle.family.proofs.Placing.{place_mk}
use Rattle.store_node.specs.Inner.{NodeIt}
use Rattle.store.specs.declared.record.Fill.{Fill}
use Rattle.store.specs.Inner.{Reached, Holds, RanPlain}
use Rattle.store.proofs.Plain.{place_at}

-- placing the node of two held sides
pub place_node : {limit : ℕ} {B : List Family} {n : ℕ} {nodes lookup : List ℕ} → Holds limit B n nodes lookup → (i z o : ℕ) → z < n + 2 → o < n + 2
    → place B (mk i (at B z) (at B o)) ≡ made B i (at B z) (at B o)
place_node {B = B} H i z o lz lo = place_mk B i (at B z) (at B o) ∙ ap (λ C. made C i (at B z) (at B o)) (ap (λ C. place C (at B o)) (place_at H z lz) ∙ place_at H o lo)

module _ (least : ℕ) (F : List Family → Family) (s : Fill) (nodes lookup : List ℕ) where
  -- one node
  pub plain_node : (i z o : ℕ) → i ≤ least → z ≤ s.count + 1 → o ≤ s.count + 1 → (r : Reached) {nodes' lookup' : List ℕ} → NodeIt s nodes lookup i z o r nodes' lookup'
      → ((limit : ℕ) (B : List Family) → Holds limit B s.count nodes lookup → (F B ≡ mk i (at B z) (at B o)) × (top (at B z) < i) × (top (at B o) < i)) → RanPlain least F s nodes lookup r nodes' lookup'
  plain_node i z o low lz lo r N is =
      record {
        kept = N.kept;
        handle = N.handle;
        sound = λ B m H. let q = is _ B H in rw (q.0, place_node H i z o (omega arith) (omega arith)) (N.sound B (omega arith) H q.1 q.2);
      }
