-- `saved` tests in document 01's order, then writes the file of a leaf or of a node.
-- Each way out is one law of saving.
use native.Mathlib.Omega.{arith}
use Rattle.store.proofs.Answers.{passed_on}
use Rattle.store.proofs.Fitting.{fits_true}
use Rattle.store.proofs.Testing.{tested_clear}
use Rattle.file_save.proofs.Saves.{save_refused, saved_leaf, saved_parts}
use Rattle.file_save.proofs.saved.Goals as goal

pub returns-in_err-tested : goal.returns-in_err-tested
returns-in_err-tested c =
    let a = c.args in
    rw (passed_on _ c.from_residual.ensures.1) (save_refused a.store a.nodes.now a.lookup.now a.p a.links.now a.out.now c.tested.ensures c.in_err-tested.was)

pub returns-then-p-lt2 : goal.returns-then-p-lt2
returns-then-p-lt2 c =
    let a = c.args in
    let P = tested_clear a.nodes.now a.lookup.now c.tested.ensures c.in_ok-tested.was in
    search saved_leaf

pub save_parts-requires : goal.save_parts-requires
save_parts-requires c =
    let a = c.args in
    let P = tested_clear a.nodes.now a.lookup.now c.tested.ensures c.in_ok-tested.was in
    record {
      lent = record { words = omega (arith, P.roomy.within, P.roomy.words); few = omega (arith, P.roomy.within, P.roomy.small); linkable = P.passed.room };
      two = c.if-p-lt2.false;
      inside = P.passed.first;
      limit_low = (fits_true a.store _ _ P.fits).limit_is.1;
    }

pub returns : goal.returns
returns c =
    let a = c.args in
    let P = tested_clear a.nodes.now a.lookup.now c.tested.ensures c.in_ok-tested.was in
    search saved_parts
