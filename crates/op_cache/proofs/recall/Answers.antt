-- `recall` hands on a result only where all three words before it are the call's, and it is a handle held.
-- Any other way out says nothing.
use native.Mathlib.Omega.{arith}
use Rattle.op_cache.specs.Inner.{hit, miss}
use Rattle.op_cache.proofs.recall.Goals as goal

pub returns-then-cache-group : goal.returns-then-cache-group
returns-then-cache-group c = miss

pub returns-then-cache-at : goal.returns-then-cache-at
returns-then-cache-at c = miss

pub returns-then-cache-at-2 : goal.returns-then-cache-at-2
returns-then-cache-at-2 c = miss

pub returns-then-cache-at-3 : goal.returns-then-cache-at-3
returns-then-cache-at-3 c = miss

pub returns-then-count-result : goal.returns-then-count-result
returns-then-count-result c = miss

pub returns : goal.returns
returns c =
    hit {g = c.args.group} record {
      within = omega (arith, c.if-cache-group.false);
      op_is = c.if-cache-at-3.false;
      first_is = c.if-cache-at.false;
      second_is = c.if-cache-at-2.false;
      result_is = mathlib.Core.Path.refl;
    } c.if-count-result.false
