-- A terminal case of two families runs as the call that it answers, and so does a call with its operands in order.
-- A terminal case gives a handle that is in the book already; an order that names the same family runs the same.
use Prim.Native.Nat.{ℕ, ◌+◌, ◌≤◌}
use mathlib.Core.Path.{◌≡◌, sym, ◌∙◌}
use mathlib.Core.List.{List}
use mathlib.Core.Logic.{⊎_elim}
use native.Mathlib.Omega.{arith}
use Rattle.std.proofs.Common.{Option, Some, None, Ok}
use Rattle.store.specs.declared.record.Fill.{Fill}
use Rattle.store.specs.Inner.{reached, Reached, Ran}
use Rattle.store.proofs.Held.{at_0, within}
use Rattle.op_cache.specs.declared.Call.{Call}
use Rattle.op_terminal.specs.Inner.{OrderedAs, Shortcut, Proper, ShortcutOf, known, unknown}
use Rattle.op_families.specs.Inner.{ApplyAsks, FamilyStepAsks}
use Rattle.store.proofs.Plain.{plain_held, plain_ran}
use Rattle.op_step.proofs.Steps.{of}
use Rattle.op_step.proofs.Outcomes.{ran_same}

shortcut_known : {call : Call} {h : ℕ} {x : Option ℕ} → x ≡ Some h → ShortcutOf call x → Shortcut call h
shortcut_known e S = out (rw e at S)
  where
    out : {call : Call} {h : ℕ} → ShortcutOf call (Some h) → Shortcut call h
    out (known K) = K

shortcut_proper : {call : Call} {x : Option ℕ} → x ≡ None → ShortcutOf call x → Proper call
shortcut_proper e S = out (rw e at S)
  where
    out : {call : Call} → ShortcutOf call None → Proper call
    out (unknown K) = K

-- a terminal case
module _ {call : Call} {bound : ℕ} {s : Fill} {nodes lookup : List ℕ} (A : ApplyAsks call bound s nodes lookup) (cache : List ℕ) {h : ℕ} {x : Option ℕ} (e : x ≡ Some h) (S : ShortcutOf call x) where
  terminal_held : h ≤ s.count + 1
  terminal_held = ⊎_elim (λ d. omega arith) (λ d. ⊎_elim (λ c. omega (arith, A.taken.first)) (λ c. omega (arith, A.taken.second)) d) (shortcut_known e S).one_of

  pub ran_terminal : Ran 0 (of call) s nodes lookup cache (reached s (Ok h)) nodes lookup cache
  ran_terminal =
      plain_ran 0 (of call) s nodes lookup cache (plain_held 0 (of call) s nodes lookup A.taken.roomy h terminal_held
      (λ l B H. (shortcut_known e S).means B (at_0 H) (within H call.p (omega (arith, A.taken.first))).ordered (within H call.q (omega (arith, A.taken.second))).ordered))

-- a call, and the same with its operands in order
module _ {asked call : Call} (O : OrderedAs asked call) {bound : ℕ} {s : Fill} {nodes lookup : List ℕ} (A : ApplyAsks asked bound s nodes lookup) where
  ordered_asks : ApplyAsks call bound s nodes lookup
  ordered_asks =
      let I = A.taken in
      let e = O.op_is in
      record {
        taken = record {
          roomy = I.roomy;
          operation = record { some = omega (arith, I.operation.some); low = omega (arith, I.operation.low) };
          first = ⊎_elim (λ d. omega (arith, d.0, I.first)) (λ d. omega (arith, d.0, I.second)) O.operands;
          second = ⊎_elim (λ d. omega (arith, d.1, I.second)) (λ d. omega (arith, d.1, I.first)) O.operands;
        };
        first_low = ⊎_elim (λ d. rw d.0 A.first_low) (λ d. rw d.0 A.second_low) O.operands;
        second_low = ⊎_elim (λ d. rw d.1 A.second_low) (λ d. rw d.1 A.first_low) O.operands;
        bound_low = A.bound_low;
      }

  pub ran_ordered : (cache : List ℕ) {r : Reached} {nodes' lookup' cache' : List ℕ} → Ran 0 (of call) s nodes lookup cache r nodes' lookup' cache' → Ran 0 (of asked) s nodes lookup cache r nodes' lookup' cache'
  ran_ordered cache R =
      ran_same 0 s nodes lookup cache
      (λ l B H. sym (O.named_is B (within H asked.p (omega (arith, A.taken.first))).ordered (within H asked.q (omega (arith, A.taken.second))).ordered)) R

  -- no terminal case
  pub ordered_step : {x : Option ℕ} → x ≡ None → ShortcutOf asked x → FamilyStepAsks call bound s nodes lookup
  ordered_step e S =
      let P = shortcut_proper e S in
      record {
        asks = ordered_asks;
        proper = record {
          apart = λ d. ⊎_elim (λ c. P.apart (sym c.0 ∙ d ∙ c.1)) (λ c. P.apart (sym c.1 ∙ sym d ∙ c.0)) O.operands;
          first = λ d. ⊎_elim (λ c. P.first (sym c.0 ∙ d)) (λ c. P.second (sym c.0 ∙ d)) O.operands;
          second = λ d. ⊎_elim (λ c. P.second (sym c.1 ∙ d)) (λ c. P.first (sym c.1 ∙ d)) O.operands;
        };
      }
