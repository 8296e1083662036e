-- `write_parts` writes record after record.
-- After so many turns so many parts are written.
use Rattle.file_write.proofs.Writes.{Written}
use Rattle.file_write.proofs.write_parts.Given as goal

abbrev pub invariant-loop : goal.invariant-loop
invariant-loop l = Written l.first l.parts l.nodes l.count l.initial.links l.initial.out l.cursor l.counter l.links l.out
