-- `zdd_has` keeps the promise of `has`.
-- Why: it hands its record and its words to that call, and that call's result on to C.
use Rattle.zdd_c.proofs.asking.zdd_has.Goals as goal

pub returns : goal.returns
returns c =
    let b = c.has in
    record { behind = b.result; keeps = b.ensures; given_is = c.into.ensures }
