-- An operation on two families is the node of the operations on their two sides: the step of its recursion.
-- The sides that the words give are those of the families, and combining goes part by part.
use Prim.Native.Nat.{ℕ, ◌-◌, ◌≤◌}
use mathlib.Core.Path.{ap, ◌∙◌}
use mathlib.Core.List.{List}
use native.Mathlib.Omega.{arith}
use Rattle.family.specs.Family.{top, largest_item}
use Rattle.family.specs.Book.{at}
use Rattle.op_cache.specs.declared.Call.{Call}
use Rattle.op_families.specs.Inner.{Forked}
use Rattle.store.proofs.Naming.{named_families, families_step, families_within}
use Rattle.store.specs.declared.record.Fill.{Fill}
use Rattle.op_families.specs.Inner.{FamilyCall, ApplyAsks}
use Rattle.op_step.proofs.Steps.{Taken, Split}
use Rattle.store.proofs.Held.{top_at_lem, within, low_at}
use Rattle.store_sides.proofs.Splitting.{low_now}

module _ {call : Call} {bound : ℕ} {s : Fill} {nodes lookup : List ℕ} (A : ApplyAsks call bound s nodes lookup) where
  I : FamilyCall call s nodes lookup
  I = A.taken

  l : 4 ≤ call.op
  l = I.operation.some

  m : call.op ≤ 6
  m = I.operation.low

  pub taken_families : Taken 0 call s.count
  taken_families = record { operation = (omega arith, omega arith); first = omega arith; second = (λ k. absurd (omega arith), λ k. omega arith, λ k. absurd (omega arith)) }

  -- the level is an item
  pub level_item : {level p₀ q₀ p₁ q₁ : ℕ} → Forked nodes s.count call bound level p₀ q₀ p₁ q₁ → (1 ≤ level) × (level ≤ largest_item)
  level_item K = (omega (arith, K.some), omega (arith, K.lower, A.bound_low))

  pub split_families : {level p₀ q₀ p₁ q₁ : ℕ} → Forked nodes s.count call bound level p₀ q₀ p₁ q₁
      → Split 0 call (record { op = call.op; p = p₀; q = q₀ }) (record { op = call.op; p = p₁; q = q₁ }) level s.count nodes lookup
  split_families {level} {p₀} {q₀} {p₁} {q₁} K =
      record {
        taken = taken_families;
        other = record { operation = (omega arith, omega arith); first = omega (arith, K.first.one_within); second = (λ k. absurd (omega arith), λ k. omega (arith, K.second.one_within), λ k. absurd (omega arith)) };
        level_within = λ B H.
            omega (arith, K.level_is, top_at_lem H call.p (omega arith), top_at_lem H call.q (omega arith), (within H call.p (omega arith)).low, (within H call.q (omega arith)).low);
        is = λ B H.
            named_families call.op B call.p call.q l m
            ∙ families_step call.op level (at B call.p) (at B call.q) (low_at H call.p level I.first (omega (arith, K.level_is))) (low_at H call.q level I.second (omega (arith, K.level_is))) K.some
            ∙ rw (← K.first.lacks B lookup H, ← K.first.holds B lookup H, ← K.second.lacks B lookup H, ← K.second.holds B lookup H, named_families call.op B p₀ q₀ l m, named_families call.op B p₁ q₁ l m);
        low = λ B H.
            let w = families_within call.op (at B p₀) (at B q₀) (low_at H p₀ (level - 1) K.first.zero_within (omega (arith, low_now K.first.zero_low H)))
            (low_at H q₀ (level - 1) K.second.zero_within (omega (arith, low_now K.second.zero_low H))) in
            omega (arith, ap top (named_families call.op B p₀ q₀ l m), w.low, K.some);
        high = λ B H.
            let w = families_within call.op (at B p₁) (at B q₁) (low_at H p₁ (level - 1) K.first.one_within (omega (arith, low_now K.first.one_low H)))
            (low_at H q₁ (level - 1) K.second.one_within (omega (arith, low_now K.second.one_low H))) in
            omega (arith, ap top (named_families call.op B p₁ q₁ l m), w.low, K.some);
      }
