-- `write_parts` writes record after record.
-- After so many turns so many parts are written.
use native.Mathlib.Omega.{arith}
use Rattle.file_write.proofs.Writes.{written_start, written_fits, written_broken, written_step, written_done}
use Rattle.file_write.proofs.write_parts.Goals as goal

pub loop-init : goal.loop-init
loop-init c = search written_start

pub write_part-requires : goal.write_part-requires
write_part-requires c =
    let a = c.args in
    let l = c.loop in record {
      lent = record { words = c.requires.lent.words; few = c.requires.lent.few; linkable = omega (arith, c.requires.lent.linkable, l.invariant.long) };
      cursor_fits = written_fits a.first a.parts
          a.nodes.now a.count a.links.now a.out.now l.cursor l.counter l.invariant c.requires.head_room.few;
    }

pub returns-in_err-cursor : goal.returns-in_err-cursor
returns-in_err-cursor c =
    let a = c.args in
    let l = c.loop in
    rw c.from_residual.ensures (written_broken a.first a.parts a.nodes.now a.count a.links.now a.out.now l.cursor l.counter l.invariant c.loop-test.true c.in_err-cursor.ensures)

pub loop-preserved : goal.loop-preserved
loop-preserved c =
    let a = c.args in
    let l = c.loop in
    written_step a.first a.parts a.nodes.now a.count a.links.now a.out.now l.cursor l.counter l.invariant c.loop-test.true c.in_ok-cursor.ensures

pub returns : goal.returns
returns c =
    let a = c.args in
    let l = c.loop in
    written_done a.first a.parts a.nodes.now a.count a.links.now a.out.now l.cursor l.counter l.invariant c.loop-test.false
