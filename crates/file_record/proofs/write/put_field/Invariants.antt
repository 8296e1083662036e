-- `put_field` lays a field of so many bytes where it stands.
-- Each turn lays one byte, and what is left to be laid makes the run of the field's bytes whole.
use Rattle.file_record.proofs.Laying.{Laid}
use Rattle.file_record.proofs.write.put_field.Given as goal

abbrev pub invariant-loop-place : goal.invariant-loop-place
invariant-loop-place l = Laid l.initial.out l.at l.width l.value l.place l.left l.out
