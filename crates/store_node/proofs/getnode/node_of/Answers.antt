-- `node_of` hands on what `made_node` gave, with a new node counted.
-- What `made_node` ensures carries over to its handle.
use mathlib.Core.Path.{refl, ap}
use Rattle.std.proofs.Common.{Ok, Err}
use Rattle.store.proofs.Answers.{passed_on}
use Rattle.store_node.proofs.Getting.{node_answer}
use Rattle.store_node.proofs.getnode.node_of.Goals as goal

pub returns-in_err-handle : goal.returns-in_err-handle
returns-in_err-handle c = node_answer {m = Err c.in_err-handle.field-0.0} c.in_err-handle.ensures _ _ refl refl (passed_on _ c.from_residual.ensures.1)

pub returns-in-Found : goal.returns-in-Found
returns-in-Found c = node_answer c.in_ok-handle.ensures _ _ (ap Ok c.in-Found.is) refl refl

pub returns-in-New : goal.returns-in-New
returns-in-New c = node_answer c.in_ok-handle.ensures _ _ (ap Ok c.in-New.is) refl refl
