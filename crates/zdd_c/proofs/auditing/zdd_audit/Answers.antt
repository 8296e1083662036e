-- `zdd_audit` keeps the promise of `audit`.
-- Why: it hands its record and its words to that call, and that call's result on to C.
use Rattle.zdd_c.proofs.auditing.zdd_audit.Goals as goal

pub returns : goal.returns
returns c =
    let b = c.audit in
    record { behind = b.result; keeps = b.ensures; given_is = c.into.ensures }
