-- `length` adds the widths of the fields that stand to the bit map byte.
-- The definition has the same sum.
use Rattle.file_record.proofs.Laying.{widths_is}
use Rattle.file_record.proofs.field.Standing.length.Goals as goal

pub returns-clause-value : goal.returns-clause-value
returns-clause-value c = let s = c.args.self in widths_is s.item s.zero s.one c.from.ensures c.from-2.ensures c.from-3.ensures
