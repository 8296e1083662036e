-- The ways out of `finish`: a handle with the number added, or a refusal with all that was made taken back; and a call
-- that answers with a handle held ends in the same way.
-- An answer is a handle or a refusal, never both.
use Prim.Native.Nat.{ℕ, ◌*◌, ◌-◌, ◌/◌}
use mathlib.Core.Path.{◌≡◌, refl, sym, ap, ◌∙◌}
use mathlib.Core.List.{List}
use native.Mathlib.Omega.{arith}
use lib.ListN.{length}
use Rattle.words.specs.Words.{zeroed}
use Rattle.store.specs.declared.record.Store.{Store}
use Rattle.store.specs.declared.record.Unplaced.{Unplaced}
use Rattle.store.specs.declared.record.Placement.{Placement}
use Rattle.store.specs.declared.record.Answered.{Answered}
use Rattle.std.proofs.Common.{Result, Ok, Err}
use Rattle.store.specs.Capacity.{counting}
use Rattle.store.specs.Inner.{refusal_of}
use Rattle.store.proofs.Answers.{handle_is, not_both, refused_same}
use Rattle.store_undo.specs.Inner.{RolledBack, Finished}

module _ (s : Store) (held : ℕ) (answer : Result ℕ Unplaced) (nodes lookup cache : List ℕ) (r : Answered Placement) where
  pub finished_gave : {h n : ℕ} → answer ≡ Ok h → n ≡ held - s.count → r.store ≡ counting s held → r.answer ≡ Ok (record { handle = h; added = n }) → Finished s held answer nodes lookup cache r nodes lookup cache
  finished_gave {h} {n} e en es ea =
      record {
        gave = λ g d. let same : h ≡ g = handle_is (sym e ∙ d) in (es, rw (← same, ← en) ea, refl, refl, refl);
        undone = λ x d. not_both h x e d;
      }

  pub finished_undone : {x : Unplaced} {nodes' lookup' cache' : List ℕ} → answer ≡ Err x → RolledBack (counting s held) nodes lookup s.count nodes' lookup' → cache' ≡ zeroed 0 (length cache / 4 * 4) cache
      → r.store ≡ s → r.answer ≡ Err (refusal_of x) → Finished s held answer nodes lookup cache r nodes' lookup' cache'
  finished_undone {x} e U ec es ea =
      record {
        gave = λ h d. not_both h x d e;
        undone = λ y d. (es, ea ∙ ap (λ z. Err (refusal_of z)) (refused_same x y e d), U, ec);
      }

-- a handle that is held already, and no node added
pub finished_held : (s : Store) (h : ℕ) (nodes lookup cache : List ℕ) (r : Answered Placement) → r.store ≡ s → r.answer ≡ Ok (record { handle = h; added = 0 }) → Finished s s.count (Ok h) nodes lookup cache r nodes lookup cache
finished_held s h nodes lookup cache r es ea = finished_gave s s.count (Ok h) nodes lookup cache r refl (omega arith) es ea
