-- `zdd_odd` keeps the promise of `odd`.
-- Why: it hands its record and its words to that call, and that call's result on to C.
use Rattle.zdd_c.proofs.placing.zdd_odd.Goals as goal

pub returns : goal.returns
returns c =
    let b = c.odd in
    record { behind = b.result; keeps = b.ensures; given_is = c.into.ensures }
