-- `tested` finds what refuses a call in document 01's order: 10, 4 for each handle, the call's own test, 7.
-- Each way out decides one more test of the definition.
use mathlib.Core.Path.{sym, ap, ◌∙◌}
use native.Mathlib.Omega.{arith}
use Rattle.store.specs.Tests.{test_number}
use Rattle.store.proofs.Answers.{passed_on}
use Rattle.store.proofs.Fitting.{test_refused, test_passed, handle_refused, handle_passed}
use Rattle.store.proofs.Testing.{tests_first, tests_second, tests_own, tests_short, tests_clear, found_misfit, found_number, refuses_some}
use Rattle.store.proofs.tests.tested.Goals as goal

pub returns-then-not-fits : goal.returns-then-not-fits
returns-then-not-fits c = found_misfit _ _ _ _ _ _ _ _ (test_refused c.fits.ensures (rw c.if-not-fits.true))

pub returns-then-not-holds : goal.returns-then-not-holds
returns-then-not-holds c =
    let fit = test_passed c.fits.ensures (rw c.if-not-fits.false) in
    found_number _ _ _ _ _ _ _ _ _ fit (tests_first _ _ _ _ _ _ (handle_refused _ _ c.holds.ensures (rw c.if-not-holds.true)))

pub returns-then-not-holds-2 : goal.returns-then-not-holds-2
returns-then-not-holds-2 c =
    let fit = test_passed c.fits.ensures (rw c.if-not-fits.false) in
    let first = handle_passed _ _ c.holds.ensures (rw c.if-not-holds.false) in
    found_number _ _ _ _ _ _ _ _ _ fit (tests_second _ _ _ _ _ _ first (handle_refused _ _ c.holds-2.ensures (rw c.if-not-holds-2.true)))

pub returns-in_err-own : goal.returns-in_err-own
returns-in_err-own c =
    let fit = test_passed c.fits.ensures (rw c.if-not-fits.false) in
    let first = handle_passed _ _ c.holds.ensures (rw c.if-not-holds.false) in
    let second = handle_passed _ _ c.holds-2.ensures (rw c.if-not-holds-2.false) in
    let own = ap test_number c.in_err-own.was in
    let some = refuses_some _ c.in_err-own.was in
    found_number _ _ _ _ _ _ _ _ _ fit (tests_own _ _ _ _ _ _ first second some ∙ (own ∙ ap test_number (sym (passed_on _ c.from_residual.ensures.1))))

pub returns-then-scratch-need : goal.returns-then-scratch-need
returns-then-scratch-need c =
    let fit = test_passed c.fits.ensures (rw c.if-not-fits.false) in
    let first = handle_passed _ _ c.holds.ensures (rw c.if-not-holds.false) in
    let second = handle_passed _ _ c.holds-2.ensures (rw c.if-not-holds-2.false) in
    let none = ap test_number c.in_ok-own.was in
    found_number _ _ _ _ _ _ _ _ _ fit (tests_short _ _ _ _ _ _ first second none c.if-scratch-need.true)

pub returns : goal.returns
returns c =
    let fit = test_passed c.fits.ensures (rw c.if-not-fits.false) in
    let first = handle_passed _ _ c.holds.ensures (rw c.if-not-holds.false) in
    let second = handle_passed _ _ c.holds-2.ensures (rw c.if-not-holds-2.false) in
    let none = ap test_number c.in_ok-own.was in
    found_number _ _ _ _ _ _ _ _ _ fit (tests_clear _ _ _ _ _ _ first second none (omega (arith, c.if-scratch-need.false)))
