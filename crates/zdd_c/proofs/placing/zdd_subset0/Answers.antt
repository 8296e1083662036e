-- `zdd_subset0` keeps the promise of `subset0`.
-- Why: it hands its record and its words to that call, and that call's result on to C.
use Rattle.zdd_c.proofs.placing.zdd_subset0.Goals as goal

pub returns : goal.returns
returns c =
    let b = c.subset0 in
    record { behind = b.result; keeps = b.ensures; given_is = c.into.ensures }
