-- `zdd_fresh` keeps the promise of `fresh`.
-- Why: it hands its words to that call, and that call's result on to C.
use Rattle.zdd_c.proofs.making.zdd_fresh.Goals as goal

pub returns : goal.returns
returns c =
    let b = c.fresh in
    record { behind = b.result; keeps = b.ensures; given_is = c.into.ensures }
