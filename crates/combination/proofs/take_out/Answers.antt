-- `take_out` says whether the words hold the item, and takes its bit off; where it is off they stay as they are.
-- The bit is the one at the item's place, and what has no place is in no combination of words.
use mathlib.Core.Path.{◌≡◌}
use Rattle.std.proofs.Common.{ℕ, ◌/◌, ◌%◌, ◌^◌, sym, arith, get_or}
use Rattle.family.proofs.Falling.{remove_absent}
use Rattle.combination.proofs.Places.{outside, stays_out, held_at, out_at}
use Rattle.combination.proofs.take_out.Goals as goal

pub returns-in_default : goal.returns-in_default
returns-in_default c = (sym (outside _ _ c.in_default.ensures), stays_out _ _ c.in_default.ensures)

pub returns-then-word-place-eq0 : goal.returns-then-word-place-eq0
returns-then-word-place-eq0 c =
    let e = rw c.if-word-place-eq0.true at (held_at _ c.args.words.now _ _ c.in-Some.ensures) in
    (e, sym (remove_absent _ _ (sym e)))

pub returns : goal.returns
returns c =
    let one : get_or c.args.words.now c.in-Some.place.word 0 / 2 ^ c.in-Some.place.bit % 2 ≡ 1 = omega (arith, c.if-word-place-eq0.false) in
    (rw one at (held_at _ c.args.words.now _ _ c.in-Some.ensures), out_at _ _ _ _ c.in-Some.ensures (c.fits-words _))
