-- `ordered` keeps the operands or swaps them; Union and Intsec name the same family either way.
-- Diff is left as it is.
use Rattle.op_terminal.proofs.Orders.{on_families, six, as_asked, as_swapped}
use Rattle.op_terminal.proofs.families.ordered.Goals as goal

pub returns-in-Diff : goal.returns-in-Diff
returns-in-Diff c = as_asked _ (on_families c.args.op)

pub returns-then-p-q : goal.returns-then-p-q
returns-then-p-q c = as_asked _ (on_families c.args.op)

pub returns-else-p-q : goal.returns-else-p-q
returns-else-p-q c = as_swapped _ (on_families c.args.op) (λ e. c.in_default.not-Diff (six _ e))
