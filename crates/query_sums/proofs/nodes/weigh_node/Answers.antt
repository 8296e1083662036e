-- `weigh_node` puts the numbers of a node.
-- Those of small children are worked out as they stand, others as kept numbers.
use native.Mathlib.Omega.{arith}
use Rattle.query_sums.proofs.Putting.{put_small_lem}
use Rattle.query_sums.proofs.nodes.weigh_node.Goals as goal

pub put_small-requires : goal.put_small-requires
put_small-requires c =
    let q = c.requires in
    record {
      inside = omega (arith, q.words.long, q.inside);
      few = omega (arith, q.words.small, q.inside);
      light = q.light;
      without_small = c.is_small.ensures c.if-is_small.true;
      with_small = c.is_small-then-is_small.ensures c.if-is_small-2.true;
    }

pub returns-then-is_small-2 : goal.returns-then-is_small-2
returns-then-is_small-2 c =
    let a = c.args in
    let q = c.requires in
    put_small_lem a.words.now a.count a.j q.words.long q.inside a.weight a.zero a.one q.light _ _ c.pair_at-without.ensures c.pair_at-with.ensures
    (c.is_small.ensures c.if-is_small.true) (c.is_small-then-is_small.ensures c.if-is_small-2.true) _ c.put_small.ensures
