-- `sides_at` hands on the two sides with their tops, each tested before; where a test fails, the words hold no book.
-- The sides are those of `cofactors_at`, and low in every book.
use mathlib.Core.Path.{refl}
use native.Mathlib.Omega.{arith}
use Rattle.store_sides.specs.Inner.{two, broken}
use Rattle.store_sides.proofs.Splitting.{low_now}
use Rattle.store_sides.proofs.Answers.{halves_two, halves_none}
use Rattle.std.proofs.Common.{rules}
use Rattle.store_sides.proofs.sides_at.Goals as goal

pub returns-in_err-zero : goal.returns-in_err-zero
returns-in_err-zero c = rw c.from_residual.ensures (broken (halves_none refl c.in_err-zero.ensures))

pub top_of-ztop-requires : goal.top_of-ztop-requires
top_of-ztop-requires c =
    let K = halves_two c.in_ok-zero.was c.cofactors_at.ensures in
    search rules

pub returns-then-level-ztop : goal.returns-then-level-ztop
returns-then-level-ztop c =
    let K = halves_two c.in_ok-zero.was c.cofactors_at.ensures in
    broken (λ l B lookup H. omega (arith, low_now K.zero_low H, c.top_of-ztop.ensures))

pub top_of-otop-requires : goal.top_of-otop-requires
top_of-otop-requires c =
    let K = halves_two c.in_ok-zero.was c.cofactors_at.ensures in
    search rules

pub returns-then-level-otop : goal.returns-then-level-otop
returns-then-level-otop c =
    let K = halves_two c.in_ok-zero.was c.cofactors_at.ensures in
    broken (λ l B lookup H. omega (arith, low_now K.one_low H, c.top_of-otop.ensures))

pub returns : goal.returns
returns c =
    let K = halves_two c.in_ok-zero.was c.cofactors_at.ensures in
    two record { halves = K; ztop = c.top_of-ztop.ensures; otop = c.top_of-otop.ensures; zero_below = c.if-level-ztop.false; one_below = c.if-level-otop.false }
