-- Subset1, Subset0 and Change where the item is not below the top: a side at the item, or the node of the sides
-- swapped; above the top the sides are p and {}.
-- Each is the operation's equation at that place, read through the book that the words hold.
use Prim.Native.Nat.{ℕ, ◌≤◌, ◌<◌}
use mathlib.Core.Path.{◌≡◌, sym, ◌∙◌}
use mathlib.Core.List.{List}
use native.Mathlib.Omega.{arith}
use Rattle.family.specs.Family.{Family, top}
use Rattle.family.specs.Book.{at}
use Rattle.std.proofs.Common.{Ok}
use Rattle.store.specs.Words.{top_at}
use Rattle.store.specs.Operations.{restrict, named}
use Rattle.store_node.specs.Inner.{NodeIt}
use Rattle.store.specs.declared.record.Fill.{Fill}
use Rattle.store.specs.Inner.{reached, Reached, Holds, RanPlain}
use Rattle.store_sides.specs.Inner.{Halves}
use Rattle.store_sides.proofs.Splitting.{low_now, halves_below}
use Rattle.store.proofs.Held.{top_at_lem}
use Rattle.op_cache.specs.declared.Call.{Call}
use Rattle.op_terminal.specs.declared.items.ItemOperation.{ItemOperation}
use Rattle.op_terminal.specs.declared.items.ItemOperation.TheVariants.{Subset1, Subset0, Change}
use Rattle.op_terminal.specs.Inner.{OnItem, item_number, ItemCall}
use Rattle.store.proofs.Naming.{named_item, side_subset1, side_subset0, side_change}
use Rattle.store_node.proofs.OneNode.{plain_node}
use Rattle.store.proofs.Plain.{plain_held}

pub on_item : (op : ItemOperation) → OnItem (item_number op)
on_item Subset1 = record { some = omega arith; low = omega arith }
on_item Subset0 = record { some = omega arith; low = omega arith }
on_item Change = record { some = omega arith; low = omega arith }

module _ (call : Call) (s : Fill) (nodes lookup : List ℕ) (I : ItemCall call s nodes lookup) where
  abbrev F : List Family → Family
  F = λ B. named call.op B call.p call.q

  item : (B : List Family) → named call.op B call.p call.q ≡ restrict call.op call.q (at B call.p)
  item B = named_item call.op B call.p call.q (omega arith)

  -- the sides at the item
  module _ (not_below : top_at nodes call.p ≤ call.q) {z o : ℕ} (T : Halves nodes s.count call.p call.q z o) where
    low : {limit : ℕ} {B : List Family} → Holds limit B s.count nodes lookup → top (at B call.p) ≤ call.q
    low H = omega (arith, top_at_lem H call.p (omega arith))

    pub leaf_one : call.op ≡ 1 → RanPlain call.q (λ B. named call.op B call.p call.q) s nodes lookup (reached s (Ok o)) nodes lookup
    leaf_one e =
        plain_held call.q F s nodes lookup I.roomy o T.one_within (λ l B H. T.holds B lookup H ∙ sym (item B ∙ side_subset1 call.op call.q (at B call.p) (low H) e))

    pub leaf_zero : call.op ≡ 2 → RanPlain call.q (λ B. named call.op B call.p call.q) s nodes lookup (reached s (Ok z)) nodes lookup
    leaf_zero e =
        plain_held call.q F s nodes lookup I.roomy z T.zero_within (λ l B H. T.lacks B lookup H ∙ sym (item B ∙ side_subset0 call.op call.q (at B call.p) (low H) e))

    pub leaf_node : (r : Reached) {nodes' lookup' : List ℕ} → (call.op ≡ 1 → ⊥) → (call.op ≡ 2 → ⊥) → NodeIt s nodes lookup call.q o z r nodes' lookup'
        → RanPlain call.q (λ B. named call.op B call.p call.q) s nodes lookup r nodes' lookup'
    leaf_node r n k N =
        plain_node call.q F s nodes lookup call.q o z (omega arith) T.one_within T.zero_within r N
        (λ l B H. (
          item B ∙ side_change call.op call.q (at B call.p) (low H) n k ∙ rw (T.lacks B lookup H, T.holds B lookup H),
          omega (arith, low_now T.one_low H, top_at_lem H o (omega (arith, T.one_within))),
          omega (arith, low_now T.zero_low H, top_at_lem H z (omega (arith, T.zero_within))),
        ))

  -- the item above the top
  module _ (above : top_at nodes call.p < call.q) where
    sides : Halves nodes s.count call.p call.q call.p 0
    sides = halves_below nodes s.count call.p call.q I.held I.item_some above

    pub above_none : call.op ≡ 1 → RanPlain call.q (λ B. named call.op B call.p call.q) s nodes lookup (reached s (Ok 0)) nodes lookup
    above_none e = leaf_one (omega arith) sides e

    pub above_same : call.op ≡ 2 → RanPlain call.q (λ B. named call.op B call.p call.q) s nodes lookup (reached s (Ok call.p)) nodes lookup
    above_same e = leaf_zero (omega arith) sides e
