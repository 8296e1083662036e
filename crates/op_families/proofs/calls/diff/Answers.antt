-- `diff` keeps the promise of its operation.
-- `of_families` keeps that of the operation whose number it is handed, on the two handles as they are handed.
use Rattle.op_families.proofs.calls.diff.Goals as goal

pub returns : goal.returns
returns c = c.of_families.ensures
