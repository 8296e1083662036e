-- `in_order` walks from a part to its children, whose numbers are smaller: the measure is the part's number.
-- Each way out is one law of the definition's walk.
use native.Mathlib.Omega.{arith}
use Rattle.file_read.proofs.Walks.{walk_first, walk_second, walk_other, walk_next}
use Rattle.file_read.proofs.order.+in_order.Goals as goal

pub returns-in_err-first : goal.returns-in_err-first
returns-in_err-first t c =
    let a = c.args in
    let q = c.requires in
    rw c.from_residual.ensures (walk_first a.nodes.now a.count a.p a.last q.inside q.some_placed c.if-p-last.false c.in_err-first.ensures)

pub returns-in_err-second : goal.returns-in_err-second
returns-in_err-second t c =
    let a = c.args in
    let q = c.requires in
    rw c.from_residual-in_err-second.ensures (walk_second a.nodes.now a.count a.p a.last q.inside q.some_placed c.if-p-last.false c.in_ok-first.ensures c.in_err-second.ensures)

pub returns-then-p-second : goal.returns-then-p-second
returns-then-p-second t c =
    let a = c.args in
    let q = c.requires in
    walk_other a.nodes.now a.count a.p a.last q.inside q.some_placed c.if-p-last.false c.in_ok-first.ensures c.in_ok-second.ensures (λ e. omega (arith, e, c.if-p-second.true))

pub returns : goal.returns
returns t c =
    let a = c.args in
    let q = c.requires in
    walk_next a.nodes.now a.count a.p a.last q.inside q.some_placed c.if-p-last.false c.in_ok-first.ensures c.in_ok-second.ensures (omega (arith, c.if-p-second.false))
