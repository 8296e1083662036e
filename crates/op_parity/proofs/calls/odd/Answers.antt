-- `odd` keeps its promise.
-- `of_parity` keeps that of the parity which it is handed.
use Rattle.op_parity.proofs.calls.odd.Goals as goal

pub returns : goal.returns
returns c = c.of_parity.ensures
