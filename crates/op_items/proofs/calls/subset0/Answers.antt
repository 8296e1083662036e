-- `subset0` keeps the promise of its operation.
-- `of_item` keeps that of the operation whose number it is handed.
use Rattle.op_items.proofs.calls.subset0.Goals as goal

pub returns : goal.returns
returns c = c.of_item.ensures
