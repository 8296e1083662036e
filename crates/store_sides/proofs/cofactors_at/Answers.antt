-- `cofactors_at` hands on the sides of p at the level, each child tested for being held; where a test fails, the words
-- hold no book.
-- Every way out is one law of splitting.
use Rattle.std.proofs.Common.{◌≤◌, ℕ, List}
use native.Mathlib.Omega.{arith}
use Rattle.store.specs.Words.{top_at}
use Rattle.store_sides.specs.Inner.{split, none, CofactorsAsks}
use Rattle.store_sides.proofs.Splitting.{halves_below, is_inner, zero_inside, one_inside, halves_here}
use Rattle.store_sides.proofs.cofactors_at.Goals as goal

-- p is a node of the level
record Here (nodes : List ℕ) (p level : ℕ) : Type 0 where
  high : level ≤ top_at nodes p
  fits : top_at nodes p ≤ level
  inner : 2 ≤ p

here : {nodes : List ℕ} {count p top level : ℕ} → CofactorsAsks nodes count p top level → level ≤ top → Here nodes p level
here {nodes = nodes} {count = count} {p = p} {level = level} pre g =
    let h : level ≤ top_at nodes p = omega (arith, pre.top_is, g) in
    let m : top_at nodes p ≤ level = omega (arith, pre.top_is, pre.top_low) in
    record { high = h; fits = m; inner = is_inner nodes count p level pre.held pre.some h m }

pub returns-then-top-level : goal.returns-then-top-level
returns-then-top-level c =
    let a = c.args in
    let pre = c.requires in
    split (halves_below a.nodes.now a.count a.p a.level pre.held pre.some (omega (arith, pre.top_is, c.if-top-level.true)))

pub overflow_sub-base : goal.overflow_sub-base
overflow_sub-base c = (here c.requires c.if-top-level.false).inner

pub bounds-nodes-base : goal.bounds-nodes-base
bounds-nodes-base c =
    omega (arith, (here c.requires c.if-top-level.false).inner)

pub bounds-nodes-base-2 : goal.bounds-nodes-base-2
bounds-nodes-base-2 c =
    omega (arith, (here c.requires c.if-top-level.false).inner)

pub returns-then-count-zero : goal.returns-then-count-zero
returns-then-count-zero c =
    let a = c.args in
    let pre = c.requires in
    none (λ l B lookup H. omega (arith, zero_inside a.nodes.now a.count a.p a.level pre.held pre.some (here c.requires c.if-top-level.false).high (here c.requires c.if-top-level.false).fits H))

pub returns-then-count-one : goal.returns-then-count-one
returns-then-count-one c =
    let a = c.args in
    let pre = c.requires in
    none (λ l B lookup H. omega (arith, one_inside a.nodes.now a.count a.p a.level pre.held pre.some (here c.requires c.if-top-level.false).high (here c.requires c.if-top-level.false).fits H))

pub returns : goal.returns
returns c =
    let a = c.args in
    let pre = c.requires in
    split (halves_here a.nodes.now a.count a.p a.level pre.held pre.some (here c.requires c.if-top-level.false).high (here c.requires c.if-top-level.false).fits c.if-count-zero.false c.if-count-one.false)
