-- An operation on a family and an item below its top is the node of the operations on the two sides; above the top
-- Subset1 and Subset0 are at hand.
-- The sides that the words give are those of the family, and a restriction goes part by part.
use Prim.Native.Nat.{ℕ, ◌+◌, ◌-◌, ◌≤◌, ◌<◌}
use mathlib.Core.Path.{◌≡◌, sym, ap, ◌∙◌}
use mathlib.Core.List.{List}
use native.Mathlib.Omega.{arith}
use Rattle.family.specs.Family.{top}
use Rattle.family.specs.Book.{at}
use Rattle.store_sides.specs.Inner.{TwoSides}
use Rattle.store.proofs.Held.{top_at_lem, within, low_at}
use Rattle.op_cache.specs.declared.Call.{Call}
use Rattle.store.proofs.Naming.{named_item, restrict_step, restrict_within}
use Rattle.std.proofs.Common.{Ok}
use Rattle.store.specs.declared.record.Fill.{Fill}
use Rattle.store.specs.Inner.{reached, Ran}
use Rattle.store.proofs.Plain.{plain_ran}
use Rattle.op_terminal.specs.Inner.{ItemCall}
use Rattle.op_terminal.proofs.Restricting.{above_none, above_same}
use Rattle.op_items.specs.Inner.{RestrictAsks, ItemStepAsks}
use Rattle.op_step.proofs.Steps.{of, Taken, Split}

-- the item above the top
module _ {call : Call} {level : ℕ} {s : Fill} {nodes lookup : List ℕ} (A : RestrictAsks call level s nodes lookup) (cache : List ℕ) (above : level < call.q) where
  pub ran_none : call.op ≡ 1 → Ran call.q (of call) s nodes lookup cache (reached s (Ok 0)) nodes lookup cache
  ran_none e = plain_ran call.q (of call) s nodes lookup cache (above_none call s nodes lookup A.taken (omega (arith, A.level_is)) e)

  pub ran_whole : call.op ≡ 2 → Ran call.q (of call) s nodes lookup cache (reached s (Ok call.p)) nodes lookup cache
  ran_whole e = plain_ran call.q (of call) s nodes lookup cache (above_same call s nodes lookup A.taken (omega (arith, A.level_is)) e)

-- the item below it
module _ {call : Call} {level : ℕ} {s : Fill} {nodes lookup : List ℕ} (E : ItemStepAsks call level s nodes lookup) where
  I : ItemCall call s nodes lookup
  I = E.asks.taken

  taken_item : (p : ℕ) → p ≤ s.count + 1 → Taken call.q (record { op = call.op; p = p; q = call.q }) s.count
  taken_item p h = record { operation = (omega arith, omega arith); first = omega arith; second = (λ k. (omega arith, omega arith), λ k. absurd (omega arith), λ k. absurd (omega arith)) }

  pub split_item : {z o zt ot : ℕ} → TwoSides nodes s.count call.p level z o zt ot
      → Split call.q call (record { op = call.op; p = z; q = call.q }) (record { op = call.op; p = o; q = call.q }) level s.count nodes lookup
  split_item {z} {o} K =
      record {
        taken = taken_item call.p I.held;
        other = taken_item o K.halves.one_within;
        level_within = λ B H. omega (arith, E.asks.level_is, top_at_lem H call.p (omega arith), (within H call.p (omega arith)).low);
        is = λ B H.
            named_item call.op B call.p call.q (omega arith)
            ∙ restrict_step call.op call.q level (at B call.p) (sym (top_at_lem H call.p (omega arith)) ∙ sym E.asks.level_is) E.below
            ∙ rw (← K.halves.lacks B lookup H, ← K.halves.holds B lookup H, named_item call.op B z call.q (omega arith), named_item call.op B o call.q (omega arith));
        low = λ B H.
            let w = restrict_within call.op call.q (at B z) I.item_some (omega arith) (low_at H z (level - 1) K.halves.zero_within (omega (arith, K.zero_below, K.ztop))) in
            omega (arith, ap top (named_item call.op B z call.q (omega arith)), w.low);
        high = λ B H.
            let w = restrict_within call.op call.q (at B o) I.item_some (omega arith) (low_at H o (level - 1) K.halves.one_within (omega (arith, K.one_below, K.otop))) in
            omega (arith, ap top (named_item call.op B o call.q (omega arith)), w.low);
      }
