-- `go_down` goes through the window from the asked handle down.
-- Before each turn the ways in the words left, with the total, come to the size of the asked family.
use Prim.Native.Nat.{◌-◌}
use mathlib.Core.Path.{◌≡◌, refl}
use native.Mathlib.Omega.{arith}
use Rattle.query_ways.specs.declared.hand.Passage.{Passage}
use Rattle.query_ways.proofs.Going.{goes_begin, goes_skip, goes_on, goes_end}
use Rattle.query_ways.proofs.window.go_down.Goals as goal

pub loop-left-init : goal.loop-left-init
loop-left-init c = goes_begin _ _ _ _ _ c.requires refl

pub loop-left-preserved-then-ways-eq0 : goal.loop-left-preserved-then-ways-eq0
loop-left-preserved-then-ways-eq0 c =
    let q = c.loop-left.passage in
    let w : Passage = record { window = q.window; low = q.low; left = c.loop-left.left - 1; parts = q.parts; total = q.total } in
    goes_skip _ _ _ _ w (omega arith) c.loop-left.invariant c.if-ways-eq0.true

pub loop-left-preserved : goal.loop-left-preserved
loop-left-preserved c =
    goes_on _ _ _ _ _ (omega arith) c.loop-left.invariant c.if-ways-eq0.false c.requires.handle.held c.in_ok-hand_both.ensures

pub returns : goal.returns
returns c =
    let l = c.loop-left in
    let z : l.left ≡ 0 = omega arith in
    goes_end _ _ _ _ c.requires.handle.held (rw z at l.invariant) c.if-most-passed.false
