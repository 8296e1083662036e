-- `zdd_intsec` keeps the promise of `intsec`.
-- Why: it hands its record and its words to that call, and that call's result on to C.
use Rattle.zdd_c.proofs.placing.zdd_intsec.Goals as goal

pub returns : goal.returns
returns c =
    let b = c.intsec in
    record { behind = b.result; keeps = b.ensures; given_is = c.into.ensures }
