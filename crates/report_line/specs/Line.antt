-- The grammar of one line of a log: document 01, 'Report program'.
use Rattle.std.specs.Prelude.{ℕ, ◌+◌, ◌-◌, ◌*◌, Bool, cond, ◌&&◌, eqb, leb}
use mathlib.Core.List.{List, [], foldl}
use Rattle.family.specs.Combination.{insert, is_free, items_of}
use Rattle.report_line.specs.declared.Side.{Side}
use Rattle.report_line.specs.declared.Side.TheVariants.{Passed, Returned}
use Rattle.report_line.specs.declared.Panel.{Panel}
use Rattle.report_line.specs.declared.Stage.{Stage}
use Rattle.report_line.specs.declared.Stage.TheVariants.{Blank, Letter, Space, Number, Whole, Malformed}
use Rattle.report_line.specs.declared.Reading.{Reading}

-- How far a line is read: no byte; behind the letter or an item that is taken; behind a space; within an item, with
-- its number so far; behind the newline. The combination is that of the items taken.
pub data Progress : Type 0 where
  blank : Progress
  letter space : Side → List ℕ → Progress
  numeral : Side → List ℕ → ℕ → Progress
  whole : Side → List ℕ → Progress
  malformed : Progress

-- "A line is P (passed) or R (returned)": bytes 80 and 82
abbrev pub first_byte : ℕ → Progress
first_byte b = cond (eqb b 80) (letter Passed []) (cond (eqb b 82) (letter Returned []) malformed)

-- "then items .. each after one space": byte 32; "every line ends with a newline": byte 10
abbrev pub gap : Side → List ℕ → ℕ → Progress
gap s c b = cond (eqb b 32) (space s c) (cond (eqb b 10) (whole s c) malformed)

-- "items without leading zeros": the first digit is one of 1 to 9, bytes 49 to 57
abbrev pub opened : Side → List ℕ → ℕ → Progress
opened s c b = cond (leb 49 b && leb b 57) (numeral s c (b - 48)) malformed

abbrev pub is_digit : ℕ → Bool
is_digit b = leb 48 b && leb b 57

-- "An item outside 1 to 512 .. counts as malformed": with the next digit
abbrev pub grown : Side → List ℕ → ℕ → Progress
grown s c n = cond (leb n 512) (numeral s c n) malformed

-- "A malformed line or repeated item": an item is taken where it is one of 1 to 512 and is not yet held
abbrev pub closed : Side → List ℕ → ℕ → ℕ → Progress
closed s c n b = cond (is_free 512 n c) (gap s (insert n c) b) malformed

-- the next byte
abbrev pub advance : Progress → ℕ → Progress
advance blank b = first_byte b
advance (letter s c) b = gap s c b
advance (space s c) b = opened s c b
advance (numeral s c n) b = cond (is_digit b) (grown s c (10 * n + (b - 48))) (closed s c n b)
advance (whole s c) b = malformed
advance malformed b = malformed

-- the line so far, and how many bytes it may still have
pub record LineState : Type 0 where
  pub progress : Progress
  pub left : ℕ

-- "and has at most 2,048 bytes with it"
abbrev pub begin : LineState
begin = record { progress = blank; left = 2048 }

abbrev pub next_byte : LineState → ℕ → LineState
next_byte s b = record { progress = cond (eqb s.left 0) malformed (advance s.progress b); left = s.left - 1 }

-- What a line of bytes is: `whole` with the letter's side and the combination of its items, its newline the last byte;
-- whatever else it is, it is malformed.
unfoldable pub line_of : List ℕ → Progress
line_of bytes = (foldl next_byte begin bytes).progress

-- the state that a reading stands for
abbrev pub progress_of : Stage → Panel → Progress
progress_of Blank panel = blank
progress_of Letter panel = letter panel.side (items_of panel.items.words)
progress_of Space panel = space panel.side (items_of panel.items.words)
progress_of (Number item) panel = numeral panel.side (items_of panel.items.words) item
progress_of Whole panel = whole panel.side (items_of panel.items.words)
progress_of Malformed panel = malformed

abbrev pub state_of : Reading → LineState
state_of r = record { progress = progress_of r.stage r.panel; left = r.left }
