-- `map` adds the bits of the fields that stand.
-- The definition has the same sum, in each of eight cases.
use Rattle.file_record.proofs.Laying.{map_is}
use Rattle.file_record.proofs.field.Standing.map.Goals as goal

pub returns : goal.returns
returns c = let s = c.args.self in map_is s.item s.zero s.one c.from.ensures c.from-2.ensures c.from-3.ensures
