-- `finish` gives a handle with the difference of the two counts, and undoes what a refused call made.
-- What `rollback` and `zero_groups` ensure is the definition's own, and an answer is one of the two.
use mathlib.Core.Path.{refl, ◌∙◌}
use native.Mathlib.Omega.{arith}
use Rattle.store_undo.proofs.Finishing.{finished_gave, finished_undone}
use Rattle.store_undo.proofs.finish.Goals as goal

pub returns-in-Ok : goal.returns-in-Ok
returns-in-Ok c =
    let a = c.args in
    finished_gave a.store a.held a.answer a.nodes.now a.lookup.now a.cache.now c.placed.result c.in-Ok.is refl
    (c.placed.ensures.0 ∙ c.with_count-after.ensures) c.placed.ensures.1

pub rollback-requires : goal.rollback-requires
rollback-requires c =
    rw c.with_count-after.ensures (record { roomy = c.requires.roomy; fewer = omega (arith, c.requires.fewer) })

pub returns-in-Err : goal.returns-in-Err
returns-in-Err c =
    let a = c.args in
    finished_undone a.store a.held a.answer a.nodes.now a.lookup.now a.cache.now c.refused.result c.in-Err.is
    (rw c.with_count-after.ensures at c.rollback.ensures) c.zero_groups.ensures c.refused.ensures.0 (rw c.into.ensures at c.refused.ensures.1)
