-- `read_number` gives the number of the first bytes, low byte first.
-- Each turn puts one more byte before those read, and the number of so many bytes stays within 32 bits.
use native.Mathlib.Omega.{arith}
use Rattle.file_parse.proofs.Taking.{number_room, number_step}
use Rattle.std.proofs.Common.{rules}
use Rattle.file_parse.proofs.read_number.Goals as goal

pub overflow_mul-value : goal.overflow_mul-value
overflow_mul-value c =
    let small = number_room c.requires.width_bound (omega (arith, c.loop-at-test.true)) c.loop-at.invariant in
    search rules

pub overflow_add-value : goal.overflow_add-value
overflow_add-value c =
    let small = number_room c.requires.width_bound (omega (arith, c.loop-at-test.true)) c.loop-at.invariant in
    search rules

pub loop-at-preserved : goal.loop-at-preserved
loop-at-preserved c =
    number_step (omega (arith, c.loop-at-test.true)) c.requires.width_in_bounds c.loop-at.invariant c.from.ensures (omega arith)
