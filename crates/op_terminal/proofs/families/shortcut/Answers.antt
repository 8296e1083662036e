-- `shortcut` answers document 001's terminal cases; each is a law of the operation.
-- Where none applies it says nothing.
use mathlib.Core.Path.{ap}
use Rattle.op_terminal.specs.Inner.{set_number, known, unknown}
use Rattle.op_terminal.proofs.Orders.{on_families, four, five, six, same_none, same_same, empty_second, empty_none, none_second, first_second}
use Rattle.op_terminal.proofs.families.shortcut.Goals as goal

pub returns-in-Diff : goal.returns-in-Diff
returns-in-Diff c = known (same_none _ (on_families c.args.op) c.if-p-q.true (ap set_number c.in-Diff.is))

pub returns-in_default : goal.returns-in_default
returns-in_default c = known (same_same _ (on_families c.args.op) c.if-p-q.true (λ e. c.in_default.not-Diff (six _ e)))

pub returns-in-Union : goal.returns-in-Union
returns-in-Union c = known (empty_second _ (on_families c.args.op) c.if-p-eq0.true (ap set_number c.in-Union.is))

pub returns-in_default-op : goal.returns-in_default-op
returns-in_default-op c = known (empty_none _ (on_families c.args.op) c.if-p-eq0.true (λ e. c.in_default-op.not-Union (four _ e)))

pub returns-in-Intsec : goal.returns-in-Intsec
returns-in-Intsec c = known (none_second _ (on_families c.args.op) c.if-q-eq0.true (ap set_number c.in-Intsec.is))

pub returns-in_default-op-2 : goal.returns-in_default-op-2
returns-in_default-op-2 c = known (first_second _ (on_families c.args.op) c.if-q-eq0.true (λ e. c.in_default-op-2.not-Intsec (five _ e)))

pub returns : goal.returns
returns c =
    unknown (record { apart = c.if-p-q.false; first = c.if-p-eq0.false; second = c.if-q-eq0.false })
