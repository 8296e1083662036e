-- A log taken byte by byte, and what the program prints at its end: document 01, 'Report program'.
use Rattle.std.specs.Prelude.{ℕ, suc, Bool, cond}
use mathlib.Core.List.{List, foldl}
use Rattle.family.specs.Family.{Family, size}
use Rattle.family.specs.Operation.{intsec, diff}
use Rattle.report_line.specs.declared.Side.{Side}
use Rattle.report_line.specs.declared.Side.TheVariants.{Passed, Returned}
use Rattle.report_tally.specs.declared.Ending.{Ending}
use Rattle.report_tally.specs.declared.Ending.TheVariants.{Going, Refused, Full}
use Rattle.report_line.specs.Line.{Progress, blank, letter, space, numeral, whole, malformed, LineState, begin, next_byte}
use Rattle.report_tally.specs.Log.{Lot, Log, capped}
use Rattle.report_add.specs.Promise.{Added, called, added}
use Rattle.report_text.specs.Text.{line_text, refused_word, full_word, report_full, sums_text}

-- a lot after one more line, or after a line that found the store full
pub record LineTaken : Type 0 where
  pub full : Bool
  pub lot : Lot

-- the family of a side, and the lot with another book and another family there
abbrev pub of_side : Side → Lot → Family
of_side Passed l = l.passed
of_side Returned l = l.returned

abbrev pub put_side : Side → Lot → List Family → Family → Lot
put_side Passed l B F = record { book = B; passed = F; returned = l.returned }
put_side Returned l B F = record { book = B; passed = l.passed; returned = F }

-- the lot behind a line of a side, by what adding it left; a full store leaves the families
abbrev pub lot_after : Side → Lot → Added → LineTaken
lot_after d l a = record { full = a.full; lot = put_side d l a.book (cond a.full (of_side d l) a.family) }

abbrev pub take_line : ℕ → Lot → Side → List ℕ → LineTaken
take_line capacity l d c = lot_after d l (added capacity l.book (of_side d l) c)

-- the log after a whole line
abbrev pub counted : Log → LineTaken → Log
counted g t = record { lot = t.lot; lines = cond t.full g.lines (suc g.lines); line = begin; ending = cond t.full Full Going }

-- the log with its line read on: a whole line is taken, a malformed one ends the log
abbrev pub read_on : ℕ → Log → LineState → Progress → Log
read_on capacity g s (whole d c) = counted g (take_line capacity g.lot d c)
read_on capacity g s malformed = record { lot = g.lot; lines = g.lines; line = s; ending = Refused }
read_on capacity g s blank = record { lot = g.lot; lines = g.lines; line = s; ending = Going }
read_on capacity g s (letter d c) = record { lot = g.lot; lines = g.lines; line = s; ending = Going }
read_on capacity g s (space d c) = record { lot = g.lot; lines = g.lines; line = s; ending = Going }
read_on capacity g s (numeral d c n) = record { lot = g.lot; lines = g.lines; line = s; ending = Going }

abbrev pub while_going : Ending → Log → Log → Log
while_going Going a b = a
while_going Refused a b = b
while_going Full a b = b

-- one byte; "then it stops": a log that ended takes no more
unfoldable pub log_byte : ℕ → Log → ℕ → Log
log_byte capacity g b = while_going g.ending (read_on capacity g (next_byte g.line b) (next_byte g.line b).progress) g

abbrev pub feed : ℕ → Log → List ℕ → Log
feed capacity g bytes = foldl (log_byte capacity) g bytes

-- "the size of the passed family P, the returned R, Intsec(P, R) and Diff(R, P)", or "`report full` in the closing
-- sums"
unfoldable pub closing : ℕ → Lot → List ℕ
closing capacity l =
    let both = called capacity l.book (intsec l.passed l.returned) in
    let only = called capacity both.book (diff l.returned l.passed) in
    cond both.full report_full
    (cond only.full report_full
    (sums_text (capped (size l.passed)) (capped (size l.returned)) (capped (size (intsec l.passed l.returned))) (capped (size (diff l.returned l.passed)))))

-- "a last line without newline counts as malformed"
abbrev pub last_line : ℕ → Log → Progress → List ℕ
last_line capacity g blank = closing capacity g.lot
last_line capacity g (letter d c) = line_text (capped (suc g.lines)) refused_word
last_line capacity g (space d c) = line_text (capped (suc g.lines)) refused_word
last_line capacity g (numeral d c n) = line_text (capped (suc g.lines)) refused_word
last_line capacity g (whole d c) = line_text (capped (suc g.lines)) refused_word
last_line capacity g malformed = line_text (capped (suc g.lines)) refused_word

-- what is printed of a log at its end: the sums, or one line alone
abbrev pub end_of : ℕ → Log → Ending → List ℕ
end_of capacity g Going = last_line capacity g g.line.progress
end_of capacity g Refused = line_text (capped (suc g.lines)) refused_word
end_of capacity g Full = line_text (capped (suc g.lines)) full_word

unfoldable pub output_of : ℕ → Log → List ℕ
output_of capacity g = end_of capacity g g.ending
