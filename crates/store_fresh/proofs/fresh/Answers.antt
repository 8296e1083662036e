-- `fresh` leaves what the definition says; each way out is one of its branches.
-- What is zeroed is what `zero` and `zero_groups` ensure.
use Prim.Native.Nat.{◌*◌}
use mathlib.Core.Path.{ap, ◌∙◌}
use native.Mathlib.Omega.{arith}
use Rattle.words.specs.Words.{zeroed}
use Rattle.store.proofs.Fitting.{test_refused, test_passed}
use Rattle.store_fresh.proofs.Freshly.{fresh_tiny, fresh_short, fresh_no_limit, fresh_done_lem}
use Rattle.store_fresh.proofs.fresh.Goals as goal

pub returns-then-nodes-lt3 : goal.returns-then-nodes-lt3
returns-then-nodes-lt3 c =
    let a = c.args in
    fresh_tiny a.limit a.nodes.now a.lookup.now a.cache.now c.refuse.result c.refuse.ensures.0 c.refuse.ensures.1 c.if-nodes-lt3.true

pub returns-then-lookup-capacity : goal.returns-then-lookup-capacity
returns-then-lookup-capacity c =
    let a = c.args in
    fresh_short a.limit a.nodes.now a.lookup.now a.cache.now c.refuse-then-lookup-capacity.result c.refuse-then-lookup-capacity.ensures.0 c.if-nodes-lt3.false c.refuse-then-lookup-capacity.ensures.1
    (omega (arith, c.capacity_of-capacity.ensures, c.if-lookup-capacity.true))

pub returns-then-not-is_limit : goal.returns-then-not-is_limit
returns-then-not-is_limit c =
    let a = c.args in
    fresh_no_limit a.limit a.nodes.now a.lookup.now a.cache.now c.refuse-then-not-is_limit.result c.refuse-then-not-is_limit.ensures.0 c.if-nodes-lt3.false c.refuse-then-not-is_limit.ensures.1
    (omega (arith, c.capacity_of-capacity.ensures, c.if-lookup-capacity.false)) (test_refused c.is_limit.ensures (rw c.if-not-is_limit.true))

pub returns : goal.returns
returns c =
    let a = c.args in
    let e = c.capacity_of-capacity.ensures in
    fresh_done_lem a.limit a.nodes.now a.lookup.now a.cache.now
    (record { some = c.if-nodes-lt3.false; longer = omega (arith, e, c.if-lookup-capacity.false); limit_is = test_passed c.is_limit.ensures (rw c.if-not-is_limit.false) })
    c.answered.result c.new.result c.zero.new.words c.zero-2.new.words c.zero_groups.new.words
    c.answered.ensures.0 c.answered.ensures.1 (c.new.ensures.0 ∙ e) c.new.ensures.1 c.new.ensures.2
    (c.zero.ensures ∙ ap (λ k. zeroed 0 (3 * k) a.nodes.now) e) c.zero-2.ensures c.zero_groups.ensures
