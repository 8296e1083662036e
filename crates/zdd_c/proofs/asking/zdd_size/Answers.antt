-- `zdd_size` keeps the promise of `size`.
-- Why: it hands its record and its words to that call, and that call's result on to C.
use Rattle.zdd_c.proofs.asking.zdd_size.Goals as goal

pub returns : goal.returns
returns c =
    let b = c.size in
    record { behind = b.result; keeps = b.ensures; given_is = c.into.ensures }
