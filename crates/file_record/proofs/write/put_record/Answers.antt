-- `put_record` lays the bit map byte and the three fields, each behind the one before.
-- Together they are the run of the record's bytes.
use mathlib.Core.Path.{◌∙◌}
use lib.ListN.{length-set}
use Rattle.file_record.proofs.Laying.{room_map, room_item, room_zero, room_one, record_place, record_laid}
use Rattle.file_record.proofs.write.put_record.Goals as goal

pub bounds-out-0 : goal.bounds-out-0
bounds-out-0 c = search room_map

pub put_field-after_item-requires : goal.put_field-after_item-requires
put_field-after_item-requires c = search room_item

pub put_field-after_zero-requires : goal.put_field-after_zero-requires
put_field-after_zero-requires c =
    let a = c.args in
    room_zero a.part a.last c.standing-standing.ensures a.out.now c.requires.one_in_bounds _
    (c.put_field-after_item.auto.out ∙ length-set a.out.now 0 _) c.put_field-after_item.ensures.value

pub put_field-requires : goal.put_field-requires
put_field-requires c =
    let a = c.args in
    room_one a.part a.last c.standing-standing.ensures a.out.now c.requires.one_in_bounds _ _
    (c.put_field-after_zero.auto.out ∙ c.put_field-after_item.auto.out ∙ length-set a.out.now 0 _)
    c.put_field-after_item.ensures.value c.put_field-after_zero.ensures.value

pub returns-clause-value : goal.returns-clause-value
returns-clause-value c =
    let a = c.args in
    record_place a.part a.last c.standing-standing.ensures a.out.now _ _ _ _ c.map.ensures
    (c.put_field-after_item.ensures.value, c.put_field-after_item.ensures.out_after) (c.put_field-after_zero.ensures.value, c.put_field-after_zero.ensures.out_after) (c.put_field.ensures.value, c.put_field.ensures.out_after)

pub returns-clause-out_after : goal.returns-clause-out_after
returns-clause-out_after c =
    let a = c.args in
    record_laid a.part a.last c.standing-standing.ensures a.out.now _ _ _ _ c.map.ensures
    (c.put_field-after_item.ensures.value, c.put_field-after_item.ensures.out_after) (c.put_field-after_zero.ensures.value, c.put_field-after_zero.ensures.out_after) (c.put_field.ensures.value, c.put_field.ensures.out_after)
