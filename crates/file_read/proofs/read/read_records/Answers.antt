-- `read_records` takes record after record from the rest of the bytes.
-- Each turn is one turn of the definition.
use Rattle.file_parse.proofs.Taking.{part_from}
use Rattle.file_read.proofs.Recording.{taken_step}
use Rattle.file_read.proofs.read.read_records.Goals as goal

pub loop-k-preserved : goal.loop-k-preserved
loop-k-preserved c = taken_step c.loop-k.invariant c.loop-k-test.true c.in_ok-part.ensures c.in_ok-take_part.ensures (part_from c.loop-k.rest.now _)
