-- A log so far, and a number as it is kept of it: document 01, 'Report program'.
use Rattle.std.specs.Prelude.{ℕ, min, List}
use Rattle.family.specs.Family.{Family, empty}
use Rattle.family.specs.Book.{start}
use Rattle.words.specs.Words.{most}
use Rattle.report_tally.specs.declared.Ending.{Ending}
use Rattle.report_tally.specs.declared.Ending.TheVariants.{Going}
use Rattle.report_line.specs.Line.{LineState, begin}

-- the book of the store, and "the passed family P, the returned R"
pub record Lot : Type 0 where
  pub book : List Family
  pub passed : Family
  pub returned : Family

-- A log: the lot, the number of lines taken, the line begun, and whether it goes on.
pub record Log : Type 0 where
  pub lot : Lot
  pub lines : ℕ
  pub line : LineState
  pub ending : Ending

-- the log of no byte
abbrev pub opening : Log
opening = record { lot = record { book = start; passed = empty; returned = empty }; lines = 0; line = begin; ending = Going }

-- a number as 64 bits hold it. Of an input of at most 18,446,744,073,709,551,615 lines every number is at most that,
-- and so exact.
abbrev pub capped : ℕ → ℕ
capped n = min n most
