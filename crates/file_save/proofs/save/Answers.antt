-- `save` hands the record back with the answer.
-- What it is was said of the answer.
use Rattle.file_save.proofs.Saves.{answered_as}
use Rattle.file_save.proofs.save.Goals as goal

pub returns : goal.returns
returns c = answered_as _ c.answered.ensures c.saved.ensures
