-- `operate` keeps the promise of the operation that it is given.
-- Each way out is the call of one operation, whose number is that operation's.
use mathlib.Core.Path.{ap}
use Rattle.op_promise.specs.Promise.{number_of}
use Rattle.op_calls.proofs.operate.Goals as goal

pub returns-in-Subset1 : goal.returns-in-Subset1
returns-in-Subset1 c = rw (ap number_of c.in-Subset1.is) c.subset1.ensures

pub returns-in-Subset0 : goal.returns-in-Subset0
returns-in-Subset0 c = rw (ap number_of c.in-Subset0.is) c.subset0.ensures

pub returns-in-Change : goal.returns-in-Change
returns-in-Change c = rw (ap number_of c.in-Change.is) c.change.ensures

pub returns-in-Union : goal.returns-in-Union
returns-in-Union c = rw (ap number_of c.in-Union.is) c.union.ensures

pub returns-in-Intsec : goal.returns-in-Intsec
returns-in-Intsec c = rw (ap number_of c.in-Intsec.is) c.intsec.ensures

pub returns-in-Diff : goal.returns-in-Diff
returns-in-Diff c = rw (ap number_of c.in-Diff.is) c.diff.ensures
