-- What a read brought is taken: nothing where it failed or the input is at its end, else so many bytes of the buffer.
-- The arms are the three cases of the reader's answer.
use mathlib.Core.Path.{sym, ap, ◌∙◌}
use Rattle.std.specs.Prelude.{Some}
use Rattle.report_read.proofs.Feedings.{read_failed, read_ended, read_brought}
use Rattle.report_read.proofs.take_read.Goals as goal

pub returns-in-None : goal.returns-in-None
returns-in-None c = read_failed c.in-None.is

pub returns-in-Some-eq0 : goal.returns-in-Some-eq0
returns-in-Some-eq0 c = read_ended (c.in-Some-eq0.is ∙ ap Some (sym c.in-Some-eq0.field-0-is ∙ c.in-Some-eq0.field-0-test))

pub returns-in-Some : goal.returns-in-Some
returns-in-Some c =
    read_brought c.in-Some.is (rw c.in-Some.is at c.in-Some.n-test).1 c.min.ensures c.take_piece-tally.ensures c.input_behind-input.ensures
