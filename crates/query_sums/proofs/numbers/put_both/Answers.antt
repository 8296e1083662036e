-- `put_both` puts the three words of a node: the definition's own stores.
-- No store changes a length.
use native.Mathlib.Omega.{arith}
use lib.ListN.{length-set}
use Rattle.query_sums.proofs.Putting.{put_is}
use Rattle.query_sums.proofs.numbers.put_both.Goals as goal

pub bounds-words-k-2 : goal.bounds-words-k-2
bounds-words-k-2 c = simp length-set (omega arith)

pub bounds-words-count : goal.bounds-words-count
bounds-words-count c = simp length-set (omega arith)

pub returns : goal.returns
returns c = search put_is
