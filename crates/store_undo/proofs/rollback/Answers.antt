-- `rollback` takes the newest nodes back: their slots are emptied and their words zeroed.
-- Each of the two calls ensures one of these.
use Rattle.store_undo.proofs.rollback.Goals as goal

pub returns : goal.returns
returns c =
    record {
      nodes_are = c.zero.ensures;
      lookup_is = c.clear_newest.ensures;
    }
