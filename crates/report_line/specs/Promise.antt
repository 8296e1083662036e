-- What reading a line promises.
use Rattle.std.specs.Prelude.{ℕ, ◌≡◌}
use Rattle.report_line.specs.declared.Reading.{Reading}
use Rattle.report_line.specs.Line.{begin, next_byte, state_of}

-- `Reading::new`: a line of which nothing is read.
abbrev pub NewLine : Reading → Type 0
NewLine r = state_of r ≡ begin

-- `Reading::take`: the line with one byte more, as the grammar has it.
abbrev pub ByteTaken : Reading → ℕ → Reading → Type 0
ByteTaken line b r = state_of r ≡ next_byte (state_of line) b
