-- `zdd_save` keeps the promise of `save`.
-- Why: it hands its record and its words to that call, and that call's result on to C.
use Rattle.zdd_c.proofs.filing.zdd_save.Goals as goal

pub returns : goal.returns
returns c =
    let b = c.save in
    record { behind = b.result; keeps = b.ensures; given_is = c.into.ensures }
