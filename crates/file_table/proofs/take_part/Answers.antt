-- `take_part` takes a part that can come next and whose words are new.
-- Both ways out are laws of the definition's test.
use mathlib.Core.Path.{sym, ◌∙◌}
use native.Mathlib.Omega.{arith}
use borrow.Author.Tests.{not-true, not-false}
use Rattle.file_table.proofs.Accepting.{follows_is, take_unfit, take_entered}
use Rattle.std.proofs.Common.{ap, not}
use Rattle.file_table.proofs.take_part.Goals as goal

pub returns-then-not-is_next : goal.returns-then-not-is_next
returns-then-not-is_next c =
    let a = c.args in take_unfit a.nodes.now a.lookup.now a.k a.part (sym c.is_next.ensures ∙ not-true _ (ap not c.if-not-is_next.true))

pub enter-requires : goal.enter-requires
enter-requires c =
    let a = c.args in
    let p = c.requires in
    let f = follows_is a.nodes.now a.k a.part.item a.part.zero a.part.one (sym c.is_next.ensures ∙ not-false _ (ap not c.if-not-is_next.false)) in
    record { table = p; item_some = omega (arith, f.zero_low); item_low = f.item }

pub returns : goal.returns
returns c =
    let a = c.args in
    take_entered a.nodes.now a.lookup.now a.k a.part (sym c.is_next.ensures ∙ not-false _ (ap not c.if-not-is_next.false)) _ c.enter.ensures
