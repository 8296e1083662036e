-- What `gatecount` prints for an input, line by line: document 01, 'Report program'.
use Rattle.std.specs.Prelude.{ℕ, suc, cond, List, [], ◌∷◌, eqb}
use Rattle.family.specs.Family.{empty}
use Rattle.family.specs.Book.{start}
use Rattle.report_line.specs.Line.{Progress, blank, letter, space, numeral, whole, malformed, line_of}
use Rattle.report_text.specs.Text.{line_text, refused_word, full_word}
use Rattle.report_tally.specs.Log.{Lot, capped}
use Rattle.report_log.specs.Log.{LineTaken, take_line, closing}

-- The lines of an input, each with its newline; what stands behind the last newline, where anything does, is a line
-- too.
abbrev pub onto : ℕ → List (List ℕ) → List (List ℕ)
onto b [] = (b ∷ []) ∷ []
onto b (l ∷ ls) = (b ∷ l) ∷ ls

abbrev pub lines_of : List ℕ → List (List ℕ)
lines_of [] = []
lines_of (b ∷ bs) = cond (eqb b 10) ((b ∷ []) ∷ lines_of bs) (onto b (lines_of bs))

-- "a full store `line 3 full`": what is printed where line n is added, and what the lines behind it come to else
abbrev pub next_line : ℕ → LineTaken → (Lot → List ℕ) → List ℕ
next_line n t rest = cond t.full (line_text (capped n) full_word) (rest t.lot)

-- "A malformed line or repeated item prints only `line 3 refused`"
abbrev pub on_line : ℕ → ℕ → Lot → Progress → (Lot → List ℕ) → List ℕ
on_line capacity n l (whole d c) rest = next_line n (take_line capacity l d c) rest
on_line capacity n l blank rest = line_text (capped n) refused_word
on_line capacity n l (letter d c) rest = line_text (capped n) refused_word
on_line capacity n l (space d c) rest = line_text (capped n) refused_word
on_line capacity n l (numeral d c k) rest = line_text (capped n) refused_word
on_line capacity n l malformed rest = line_text (capped n) refused_word

-- the lines from number n on
abbrev pub report_from : ℕ → ℕ → Lot → List (List ℕ) → List ℕ
report_from capacity n l [] = closing capacity l
report_from capacity n l (x ∷ xs) = on_line capacity n l (line_of x) (λ m. report_from capacity (suc n) m xs)

-- The report on an input, on a store of this capacity; "with its number counted from 1".
unfoldable pub report_of : ℕ → List ℕ → List ℕ
report_of capacity input = report_from capacity 1 (record { book = start; passed = empty; returned = empty }) (lines_of input)
