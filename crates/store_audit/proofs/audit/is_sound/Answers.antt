-- `is_sound` decides whether the store is sound, its cache aside.
-- A test that fails is one that every sound store passes; the tests passed and the nodes' own are what soundness says.
use Rattle.std.proofs.Common.{arith}
use borrow.Author.Tests.{not-true, not-false}
use Rattle.words.proofs.Cases.{clash}
use Rattle.store.proofs.Fitting.{test_refused, test_passed}
use Rattle.store.proofs.Calls.{sound_fits, fits_roomy}
use Rattle.store_audit.proofs.Verdict.{tells_no, tells_last, sound_used, sound_blank}
use Rattle.store_audit.proofs.audit.is_sound.Goals as goal
use Rattle.store_audit.proofs.audit.is_sound.Goals.{then-not-fits-via-then-not-fits, then-not-fits-via-else-not-fits+then-used_slots-store, then-not-fits-via-else-not-fits+else-used_slots-store+then-not-are_zero}

pub are_zero-requires : goal.are_zero-requires
are_zero-requires c =
    let a = c.args in
    let R = fits_roomy a.store a.nodes.now a.lookup.now (test_passed c.fits.ensures (rw c.if-not-fits.false)) in
    record { rising = omega (arith, R.within); within = R.words }

pub returns-then-not-fits : goal.returns-then-not-fits
returns-then-not-fits c =
    elim c.then-not-fits.branch [
      | then-not-fits-via-then-not-fits w ↦ tells_no _ _ _ (λ cache S. clash (sound_fits S) (test_refused c.fits.ensures (rw w.if-not-fits.true)))
      | then-not-fits-via-else-not-fits+then-used_slots-store w ↦ tells_no _ _ _ (λ cache S. omega (arith, w.if-used_slots-store.true, w.used_slots.ensures, sound_used _ _ _ S))
      | then-not-fits-via-else-not-fits+else-used_slots-store+then-not-are_zero w ↦ tells_no _ _ _ (λ cache S. w.are_zero.ensures.says_no (not-true _ (rw w.if-not-are_zero.true)) (sound_blank _ _ _ S))
    ]

pub all_obey-requires : goal.all_obey-requires
all_obey-requires c =
    let a = c.args in
    let R = fits_roomy a.store a.nodes.now a.lookup.now (test_passed c.fits.ensures (rw c.if-not-fits.false)) in
    record { words = omega (arith, R.within, R.words); few = omega (arith, R.within, R.small); slots = omega (arith, R.longer) }

pub returns : goal.returns
returns c =
    tells_last _ _ _ _ (test_passed c.fits.ensures (rw c.if-not-fits.false))
    (omega (arith, c.used_slots.ensures, c.if-used_slots-store.false))
    (c.are_zero.ensures.says_yes (not-false _ (rw c.if-not-are_zero.false))) c.all_obey.ensures
