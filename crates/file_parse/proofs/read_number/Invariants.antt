-- `read_number` gives the number of the first bytes, low byte first.
-- Each turn puts one more byte before those read, and the number of so many bytes stays within 32 bits.
use Rattle.file_parse.proofs.Taking.{BytesRead}
use Rattle.file_parse.proofs.read_number.Given as goal

abbrev pub invariant-loop-at : goal.invariant-loop-at
invariant-loop-at l = BytesRead l.bytes l.width l.at l.value
