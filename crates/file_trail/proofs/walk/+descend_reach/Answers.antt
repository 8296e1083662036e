-- `descend` and `reach` meet the parts of p: the top falls from `descend` to each `reach`, and `reach` comes just above
-- `descend` of its top.
-- Each way out is one law of walking.
use mathlib.Core.Path.{sym, ◌∙◌}
use native.Mathlib.Omega.{arith}
use Rattle.file_trail.proofs.Walking.{zero_child, one_child, child_side, walked_lent, zero_asks, one_asks, walk_met, walk_no_children, walk_first_broken, walk_second_broken, walk_many, walk_done}
use Rattle.file_trail.proofs.walk.+descend_reach.Goals as goal

pub descend-returns-in_err-zero : goal.descend-returns-in_err-zero
descend-returns-in_err-zero t c =
    let a = c.args in
    let q = c.requires.asks in
    rw c.from_residual.ensures (walk_no_children a.trail.now a.p a.nodes.now a.count a.links.now c.requires.unmet q.inside a.top q.level_is c.in_err-zero.ensures)

pub descend-reach-requires : goal.descend-reach-requires
descend-reach-requires t c =
    let q = c.requires.asks in
    let K = c.in_ok-zero.ensures.sides in
    (omega (arith, c.decreases, K.zero_below, K.one_below), search (zero_asks K q.level_low q.lent q.trail_fits, one_asks K q.level_low q.lent q.trail_fits))

pub descend-returns-in_err-reach : goal.descend-returns-in_err-reach
descend-returns-in_err-reach t c =
    let a = c.args in
    rw c.from_residual-in_err-reach.ensures (walk_first_broken a.trail.now a.p a.nodes.now a.count a.links.now c.in_err-reach.ensures)

pub descend-reach-requires-2 : goal.descend-reach-requires-2
descend-reach-requires-2 t c =
    let q = c.requires.asks in
    let K = c.in_ok-zero.ensures.sides in
    let R = c.in_ok-reach.ensures in
    let L = walked_lent q.lent R in
    (omega (arith, c.decreases, K.zero_below, K.one_below), search (zero_asks K q.level_low L R.trail_fits, one_asks K q.level_low L R.trail_fits))

pub descend-returns-in_err-reach-2 : goal.descend-returns-in_err-reach-2
descend-returns-in_err-reach-2 t c =
    let a = c.args in
    rw c.from_residual-in_err-reach-2.ensures (walk_second_broken a.trail.now a.p a.nodes.now a.count a.links.now c.in_ok-reach.ensures c.in_err-reach-2.ensures)

pub descend-returns-then-trail-ge1000000 : goal.descend-returns-then-trail-ge1000000
descend-returns-then-trail-ge1000000 t c =
    let a = c.args in
    let q = c.requires.asks in
    let K = c.in_ok-zero.ensures.sides in
    walk_many a.trail.now a.p a.nodes.now a.count a.links.now c.in_ok-reach.ensures c.in_ok-reach-2.ensures c.requires.unmet q.inside q.level_is
    (child_side K zero_child) (child_side K one_child) q.lent.few c.if-trail-ge1000000.true

pub descend-visit-requires : goal.descend-visit-requires
descend-visit-requires t c =
    let q = c.requires.asks in
    let R = c.in_ok-reach.ensures in
    let S = c.in_ok-reach-2.ensures in
    let F = S.trail_fits in
    record {
      inside = omega (arith, q.inside, q.lent.linkable, R.long, S.long);
      last_inside = omega (arith, F.last_held, q.lent.linkable, R.long, S.long);
      item_low = F.item_low;
      few = omega (arith, c.if-trail-ge1000000.false);
      short = F.short;
    }

pub descend-returns : goal.descend-returns
descend-returns t c =
    let a = c.args in
    let q = c.requires.asks in
    walk_done a.trail.now a.p a.nodes.now a.count a.links.now c.requires.unmet q.inside a.top
    q.level_is c.in_ok-zero.ensures c.in_ok-reach.ensures c.in_ok-reach-2.ensures q.level_low
    (omega (arith, c.if-trail-ge1000000.false)) q.lent.linkable c.visit.ensures

pub reach-returns-then-is_met : goal.reach-returns-then-is_met
reach-returns-then-is_met t c =
    let a = c.args in
    walk_met a.trail.now a.p a.nodes.now a.count a.links.now c.requires.inside c.requires.trail_fits c.is_met.ensures c.if-is_met.true

pub reach-descend-requires : goal.reach-descend-requires
reach-descend-requires t c =
    (omega (arith, c.decreases), record { asks = c.requires; unmet = sym c.is_met.ensures ∙ c.if-is_met.false })
