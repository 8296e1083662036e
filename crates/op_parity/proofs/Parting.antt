-- Each way out of the step of a part, one law for both parities: recalled, on words that hold no book, with the first or
-- the second result refused, or with their node.
-- Each is the step's law of that way, for the split of the part by the two sides.
use Prim.Native.Nat.{ℕ}
use mathlib.Core.Path.{◌≡◌}
use mathlib.Core.Bool.{Bool, not}
use mathlib.Core.List.{List}
use native.Mathlib.Omega.{arith}
use Rattle.std.proofs.Common.{Option, Some, None, Ok, Err}
use Rattle.store.specs.declared.record.Unplaced.{Unplaced}
use Rattle.store.specs.declared.record.Unplaced.TheVariants.{Damaged}
use Rattle.store.specs.declared.record.Fill.{Fill}
use Rattle.store.specs.Inner.{reached, Reached, Ran}
use Rattle.store_node.specs.Inner.{NodeAsks, NodeIt}
use Rattle.store_sides.specs.declared.Sides.{Sides}
use Rattle.store_sides.specs.Inner.{SidesOf}
use Rattle.store_sides.proofs.Answers.{sides_two, sides_broken}
use Rattle.op_cache.specs.Inner.{RecallOf}
use Rattle.op_step.specs.Inner.{RememberedAnswer}
use Rattle.op_step.proofs.Steps.{of, node_asks, step_first, step_second, step_done}
use Rattle.op_step.proofs.Outcomes.{ran_broken, ran_recalled}
use Rattle.op_parity.specs.Inner.{PartStepAsks}
use Rattle.op_parity.proofs.Splits.{part_of, part_number, split_part}

module _ (even : Bool) {p level : ℕ} {s : Fill} {nodes lookup cache : List ℕ} (E : PartStepAsks p level s nodes lookup) where
  pub part_known : {h : ℕ} {x : Option ℕ} → x ≡ Some h → RecallOf cache s.count (part_of even p) x → Ran 0 (of (part_of even p)) s nodes lookup cache (reached s (Ok h)) nodes lookup cache
  part_known {h} e C = ran_recalled 0 s nodes lookup cache E.asks.roomy (part_of even p) h (omega (arith, part_number even)) e C

  module _ {x : Option Sides} (S : SidesOf nodes s.count p level x) where
    pub part_broken : x ≡ None → Ran 0 (of (part_of even p)) s nodes lookup cache (reached s (Err Damaged)) nodes lookup cache
    part_broken e = ran_broken 0 s nodes lookup cache E.asks.roomy (part_of even p) (λ l B H. sides_broken e S l B lookup H)

    module _ {k : Sides} (e : x ≡ Some k) {m₁ : Reached} {nodes₁ lookup₁ cache₁ : List ℕ} (R : Ran 0 (of (part_of even k.zero)) s nodes lookup cache m₁ nodes₁ lookup₁ cache₁) where
      pub part_first : {y : Unplaced} → m₁.answer ≡ Err y → Ran 0 (of (part_of even p)) s nodes lookup cache m₁ nodes₁ lookup₁ cache₁
      part_first {y} l = step_first (part_of even p) _ _ level s nodes lookup cache (split_part E (sides_two e S) even) R y l

      module _ {zero : ℕ} (zero-given : m₁.answer ≡ Ok zero) {m₂ : Reached} {nodes₂ lookup₂ cache₂ : List ℕ}
          (Q : Ran 0 (of (part_of (not even) k.one)) m₁.store nodes₁ lookup₁ cache₁ m₂ nodes₂ lookup₂ cache₂) where
        pub part_second : {y : Unplaced} → m₂.answer ≡ Err y → Ran 0 (of (part_of even p)) s nodes lookup cache m₂ nodes₂ lookup₂ cache₂
        part_second {y} l = step_second (part_of even p) _ _ level s nodes lookup cache (split_part E (sides_two e S) even) R _ zero-given Q y l

        module _ {one : ℕ} (one-given : m₂.answer ≡ Ok one) where
          pub part_node : NodeAsks m₂.store nodes₂ lookup₂ level zero one
          part_node = node_asks E.asks.roomy R zero-given Q one-given E.some E.asks.level_low

          pub part_made : {r : Reached} {nodes₃ lookup₃ cache₃ : List ℕ} → NodeIt m₂.store nodes₂ lookup₂ level zero one r nodes₃ lookup₃
              → RememberedAnswer cache₂ (part_of even p) r.answer cache₃ → Ran 0 (of (part_of even p)) s nodes lookup cache r nodes₃ lookup₃ cache₃
          part_made N M = step_done (part_of even p) _ _ level s nodes lookup cache (split_part E (sides_two e S) even) R _ zero-given Q _ one-given N M
