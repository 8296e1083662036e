-- `leaf_byte` is 00 for {} and 02 for {{}}.
-- The test decides the definition's own.
use borrow.Author.Tests.{eq-eqb, ne_eqb}
use Rattle.file_save.proofs.leaf_byte.Goals as goal

pub returns-then-p-eq0 : goal.returns-then-p-eq0
returns-then-p-eq0 c = search eq-eqb

pub returns-else-p-eq0 : goal.returns-else-p-eq0
returns-else-p-eq0 c = search ne_eqb
