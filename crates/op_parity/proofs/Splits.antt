-- The even and the odd part of a family, one law for both: at a top of 0 the part is at hand; else it is the node of the
-- same part of the without-side and of the other part of the with-side.
-- The sides that the words give are those of the family, whose parts go side by side.
use Prim.Native.Nat.{ℕ, ◌+◌, ◌-◌, ◌≤◌}
use mathlib.Core.Path.{◌≡◌, refl, sym, ap, ◌∙◌}
use mathlib.Core.Bool.{Bool, true, false, cond, not}
use mathlib.Core.List.{List}
use native.Mathlib.Omega.{arith}
use Rattle.family.specs.Family.{Family, empty, top}
use Rattle.family.specs.Book.{at}
use Rattle.family.proofs.Parity.{within_parity, parity_step, parity_leaf}
use Rattle.std.proofs.Common.{Ok}
use Rattle.store.specs.Operations.{parity_number}
use Rattle.store.specs.declared.record.Fill.{Fill}
use Rattle.store.specs.Inner.{reached, Holds, Kept, Ran}
use Rattle.store.proofs.Held.{at_0, top_at_lem, within, low_at}
use Rattle.store.proofs.Growing.{kept_top, kept_roomy}
use Rattle.store.proofs.Naming.{named_part}
use Rattle.store.proofs.Plain.{plain_held, plain_ran}
use Rattle.store_sides.specs.Inner.{SidesAsks, TwoSides}
use Rattle.op_cache.specs.declared.Call.{Call}
use Rattle.op_cache.specs.Inner.{call_of}
use Rattle.op_step.proofs.Steps.{of, Taken, Split}
use Rattle.op_parity.specs.Inner.{PartAsks, PartStepAsks}

-- the call for a part of a handle
abbrev pub part_of : Bool → ℕ → Call
part_of even p = call_of (parity_number even) p 0

pub part_number : (even : Bool) → (7 ≤ parity_number even) × (parity_number even ≤ 8)
part_number true = (omega arith, omega arith)
part_number false = (omega arith, omega arith)

taken_part : (even : Bool) (n p : ℕ) → p ≤ n + 1 → Taken 0 (part_of even p) n
taken_part even n p h =
    let l = part_number even in
    record { operation = (omega arith, omega arith); first = omega arith; second = (λ k. absurd (omega arith), λ k. omega arith, λ k. refl) }

-- a top of 0: the even part is the family, the odd part is {}
module _ (even : Bool) {p level : ℕ} {s : Fill} {nodes lookup : List ℕ} (A : PartAsks p level s nodes lookup) where
  leaf_held : (even : Bool) → cond even p 0 ≤ s.count + 1
  leaf_held true = A.held
  leaf_held false = omega arith

  leaf_means : level ≡ 0 → (limit : ℕ) (B : List Family) → Holds limit B s.count nodes lookup → at B (cond even p 0) ≡ of (part_of even p) B
  leaf_means none limit B H =
      let l = A.held in
      chosen even
      ∙ sym (named_part even B p 0 ∙ parity_leaf even (at B p) (within H p (omega arith)).ordered (sym (top_at_lem H p (omega arith)) ∙ sym A.level_is ∙ none))
    where
      chosen : (even : Bool) → at B (cond even p 0) ≡ cond even (at B p) empty
      chosen true = refl
      chosen false = at_0 H

  pub ran_leaf : level ≡ 0 → (cache : List ℕ) → Ran 0 (of (part_of even p)) s nodes lookup cache (reached s (Ok (cond even p 0))) nodes lookup cache
  ran_leaf none cache =
      plain_ran 0 (of (part_of even p)) s nodes lookup cache (plain_held 0 (of (part_of even p)) s nodes lookup A.roomy (cond even p 0) (leaf_held even) (leaf_means none))

-- a top that is an item: what the step asks
module _ {p level : ℕ} {s : Fill} {nodes lookup : List ℕ} (E : PartStepAsks p level s nodes lookup) where
  pub sides_asks : SidesAsks nodes s.count p level
  sides_asks =
      let R = E.asks.roomy in
      record {
        held = E.asks.held;
        words = omega (arith, R.within, R.words);
        small = omega (arith, R.within, R.small);
        top_low = omega (arith, E.asks.level_is);
        some = E.some;
      }

  module _ {z o zt ot : ℕ} (K : TwoSides nodes s.count p level z o zt ot) where
    -- the with-side, after nodes were added for the part of the without-side
    pub one_asks : {s₁ : Fill} {nodes₁ lookup₁ : List ℕ} → Kept s nodes lookup s₁ nodes₁ lookup₁ → PartAsks o ot s₁ nodes₁ lookup₁
    one_asks L =
        record {
          roomy = kept_roomy L E.asks.roomy;
          held = omega (arith, K.halves.one_within, L.grows);
          level_is = K.otop ∙ sym (kept_top L o K.halves.one_within);
          level_low = omega (arith, K.one_below, E.asks.level_low);
        }

    -- one step
    pub split_part : (even : Bool) → Split 0 (part_of even p) (part_of even z) (part_of (not even) o) level s.count nodes lookup
    split_part even =
        let l = E.asks.held in
        record {
          taken = taken_part even s.count p l;
          other = taken_part (not even) s.count o K.halves.one_within;
          level_within = λ B H. omega (arith, E.asks.level_is, top_at_lem H p (omega arith), (within H p (omega arith)).low);
          is = λ B H.
              named_part even B p 0 ∙ parity_step even level (at B p)
              ∙ rw (← K.halves.lacks B lookup H, ← K.halves.holds B lookup H, named_part even B z 0, named_part (not even) B o 0);
          low = λ B H.
              let w = within_parity even (at B z) (low_at H z (level - 1) K.halves.zero_within (omega (arith, K.zero_below, K.ztop))) in
              omega (arith, ap top (named_part even B z 0), w.low, E.some);
          high = λ B H.
              let w = within_parity (not even) (at B o) (low_at H o (level - 1) K.halves.one_within (omega (arith, K.one_below, K.otop))) in
              omega (arith, ap top (named_part (not even) B o 0), w.low, E.some);
        }
