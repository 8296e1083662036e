-- `fork_at` hands on the larger top and the sides of both operands at it.
-- Where a test or a split fails, the words hold no book.
use mathlib.Core.Path.{◌≡◌, refl}
use Prim.Native.Nat.{max}
use native.Mathlib.Omega.{arith}
use Rattle.store.specs.Words.{top_at}
use Rattle.op_families.specs.Inner.{two, broken}
use Rattle.store_sides.proofs.Answers.{halves_two, halves_none}
use Rattle.op_families.proofs.Forks.{no_level, past_bound}
use Rattle.op_families.proofs.recursion.fork_at.Goals as goal

pub returns-then-level-eq0 : goal.returns-then-level-eq0
returns-then-level-eq0 c =
    let level_is : c.max-level.result ≡ max (top_at c.args.nodes.now c.args.call.p) (top_at c.args.nodes.now c.args.call.q) = omega (arith, c.top_of-ptop.ensures, c.top_of-qtop.ensures, c.max-level.ensures) in
    no_level c.requires level_is c.if-level-eq0.true

pub returns-then-bound-level : goal.returns-then-bound-level
returns-then-bound-level c =
    let level_is : c.max-level.result ≡ max (top_at c.args.nodes.now c.args.call.p) (top_at c.args.nodes.now c.args.call.q) = omega (arith, c.top_of-ptop.ensures, c.top_of-qtop.ensures, c.max-level.ensures) in
    past_bound c.requires level_is (omega (arith, c.if-bound-level.true))

pub returns-in_err-p0 : goal.returns-in_err-p0
returns-in_err-p0 c = rw c.from_residual.ensures (broken (halves_none refl c.in_err-p0.ensures))

pub returns-in_err-q0 : goal.returns-in_err-q0
returns-in_err-q0 c = rw c.from_residual-in_err-q0.ensures (broken (halves_none refl c.in_err-q0.ensures))

pub returns : goal.returns
returns c =
    let level_is : c.max-level.result ≡ max (top_at c.args.nodes.now c.args.call.p) (top_at c.args.nodes.now c.args.call.q) = omega (arith, c.top_of-ptop.ensures, c.top_of-qtop.ensures, c.max-level.ensures) in
    two record {
      some = omega (arith, c.if-level-eq0.false);
      lower = omega (arith, c.if-bound-level.false);
      level_is = level_is;
      first = halves_two c.in_ok-p0.was c.cofactors_at.ensures;
      second = halves_two c.in_ok-q0.was c.cofactors_at-2.ensures;
    }
