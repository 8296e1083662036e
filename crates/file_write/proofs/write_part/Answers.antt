-- `write_part` writes the record of the part at the cursor into what remains of the output.
-- Each way out is one law of a turn.
use native.Mathlib.Omega.{arith}
use Rattle.file_write.proofs.Cursors.{turn_low, turn_high, turn_item, turn_full, turn_done}
use Rattle.file_record.proofs.Laying.{record_length}
use Rattle.file_write.proofs.write_part.Goals as goal

pub returns-then-at-lt2 : goal.returns-then-at-lt2
returns-then-at-lt2 c = search turn_low

pub overflow_add-count : goal.overflow_add-count
overflow_add-count c = omega (arith, c.requires.lent.few)

pub returns-then-count-at : goal.returns-then-count-at
returns-then-count-at c = search turn_high

pub overflow_cast-j : goal.overflow_cast-j
overflow_cast-j c = omega (arith, c.requires.lent.few, c.if-count-at.false)

pub overflow_mul-j : goal.overflow_mul-j
overflow_mul-j c = omega (arith, c.requires.lent.few, c.if-at-lt2.false, c.if-count-at.false)

pub part_at-part-requires : goal.part_at-part-requires
part_at-part-requires c = omega (arith, c.requires.lent.words, c.requires.lent.few, c.if-at-lt2.false, c.if-count-at.false)

pub returns-then-part-gt512 : goal.returns-then-part-gt512
returns-then-part-gt512 c = search turn_item

pub standing-requires : goal.standing-requires
standing-requires c = omega (arith, c.requires.cursor_fits.item_low)

pub overflow_sub-out : goal.overflow_sub-out
overflow_sub-out c = c.requires.cursor_fits.within

pub returns-then-out-place : goal.returns-then-out-place
returns-then-out-place c = search (turn_full, record_length)

pub slice_bounds-put_record-count : goal.slice_bounds-put_record-count
slice_bounds-put_record-count c = c.requires.cursor_fits.within

pub put_record-requires : goal.put_record-requires
put_record-requires c =
    let a = c.args in record {
      item_bound = omega (arith, c.requires.cursor_fits.item_low);
      one_in_bounds = omega (
        arith,
        record_length _ a.cursor.last c.standing.ensures c.length-length.ensures.value,
        c.if-out-place.false,
        c.requires.cursor_fits.within,
      );
    }

pub bounds-links-j : goal.bounds-links-j
bounds-links-j c = omega (arith, c.requires.lent.linkable, c.if-at-lt2.false, c.if-count-at.false)

pub overflow_add-number : goal.overflow_add-number
overflow_add-number c = omega (arith, c.requires.cursor_fits.number_low)

pub offset_bounds-links-j-2 : goal.offset_bounds-links-j-2
offset_bounds-links-j-2 c = omega (arith, c.requires.lent.few, c.if-at-lt2.false, c.if-count-at.false)

pub bounds-links-j-2 : goal.bounds-links-j-2
bounds-links-j-2 c = omega (arith, c.requires.lent.linkable, c.if-at-lt2.false, c.if-count-at.false)

pub overflow_add-result : goal.overflow_add-result
overflow_add-result c =
    omega (arith, c.requires.cursor_fits.short, c.requires.cursor_fits.number_low, c.length-length.ensures.short)

pub returns : goal.returns
returns c =
    let a = c.args in
    turn_done a.cursor a.nodes.now a.count a.links.now a.out.now _ c.part_at-part.ensures _ (record_length _ a.cursor.last c.standing.ensures c.length-length.ensures.value)
    c.requires.lent.linkable c.requires.cursor_fits c.if-at-lt2.false c.if-count-at.false
    c.if-part-gt512.false c.length-length.ensures.short
    (omega (arith, c.if-out-place.false, c.requires.cursor_fits.within)) c.put_record.ensures.out_after
