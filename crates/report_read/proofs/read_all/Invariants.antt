-- Pieces are read and taken until the input or the log ends.
-- Before each turn the reads so far left more to read.
use Rattle.report_read.proofs.Feedings.{Onward}
use Rattle.report_read.proofs.read_all.Given as goal

abbrev pub invariant-loop : goal.invariant-loop
invariant-loop g l = Onward l.initial.fed.tally l.initial.nodes l.initial.lookup l.initial.cache l.nodes l.lookup l.cache l.fed l.counter
