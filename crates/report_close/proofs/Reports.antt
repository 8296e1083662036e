-- A log taken byte by byte prints what its lines say: the report on the whole input.
-- By induction on the bytes: a newline makes a line whole or malformed, any other byte leaves it open or spoils it,
-- and a spoiled line stays so.
use Prim.Native.Nat.{ℕ, suc, ◌+◌, ◌-◌, ◌*◌}
use mathlib.Core.Path.{◌≡◌, refl, sym, ap, ◌∙◌}
use mathlib.Core.Bool.{Bool, true, false, cond, ◌&&◌}
use mathlib.Core.List.{List, [], ◌∷◌, foldl}
use lib.Dec.{eqb, leb}
use borrow.Author.Tests.{ne_eqb}
use Rattle.words.proofs.Cases.{by_test, by_eq}
use Rattle.family.specs.Combination.{insert, is_free}
use Rattle.report_line.specs.declared.Side.{Side}
use Rattle.report_tally.specs.declared.Ending.{Ending}
use Rattle.report_tally.specs.declared.Ending.TheVariants.{Going, Refused, Full}
use Rattle.report_line.specs.Line.{Progress, blank, letter, space, numeral, whole, malformed, gap, is_digit, advance, LineState, begin, next_byte, line_of}
use Rattle.report_text.specs.Text.{line_text, refused_word}
use Rattle.report_tally.specs.Log.{Log, opening, capped}
use Rattle.report_log.specs.Log.{LineTaken, take_line, counted, read_on, while_going, log_byte, feed, last_line, end_of, output_of}
use Rattle.report_close.specs.Report.{onto, lines_of, next_line, on_line, report_from, report_of}

-- a newline ends a line
data Ended : Progress → Type 0 where
  is_whole : {d : Side} {c : List ℕ} → Ended (whole d c)
  is_malformed : Ended malformed

-- any other byte leaves it open, or spoils it
data Open : Progress → Type 0 where
  at_letter : {d : Side} {c : List ℕ} → Open (letter d c)
  at_space : {d : Side} {c : List ℕ} → Open (space d c)
  at_number : {d : Side} {c : List ℕ} {n : ℕ} → Open (numeral d c n)
  at_malformed : Open malformed

ends : (t : Bool) {p q : Progress} → Ended p → Ended q → Ended (cond t p q)
ends true x y = x
ends false x y = y

opens : (t : Bool) {p q : Progress} → Open p → Open q → Open (cond t p q)
opens true x y = x
opens false x y = y

advance_ends : (p : Progress) → Ended (advance p 10)
advance_ends blank = is_malformed
advance_ends (letter d c) = is_whole
advance_ends (space d c) = is_malformed
advance_ends (numeral d c n) = ends (is_free 512 n c) is_whole is_malformed
advance_ends (whole d c) = is_malformed
advance_ends malformed = is_malformed

step_ends : (s : LineState) → Ended (next_byte s 10).progress
step_ends s = ends (eqb s.left 0) is_malformed (advance_ends s.progress)

module _ (b : ℕ) (n : b ≡ 10 → ⊥) where
  gap_open : (d : Side) (c : List ℕ) → Open (gap d c b)
  gap_open d c = rw (ne_eqb b 10 n) (opens (eqb b 32) at_space at_malformed)

  advance_open : (p : Progress) → Open (advance p b)
  advance_open blank = opens (eqb b 80) at_letter (opens (eqb b 82) at_letter at_malformed)
  advance_open (letter d c) = gap_open d c
  advance_open (space d c) = opens (leb 49 b && leb b 57) at_number at_malformed
  advance_open (numeral d c k) =
      opens (is_digit b) (opens (leb (10 * k + (b - 48)) 512) at_number at_malformed) (opens (is_free 512 k c) (gap_open d (insert k c)) at_malformed)
  advance_open (whole d c) = at_malformed
  advance_open malformed = at_malformed

  step_open : (s : LineState) → Open (next_byte s b).progress
  step_open s = opens (eqb s.left 0) at_malformed (advance_open s.progress)

-- a spoiled line stays so
step_spoiled : (s : LineState) (b : ℕ) → s.progress ≡ malformed → (next_byte s b).progress ≡ malformed
step_spoiled s b e = by_test (eqb s.left 0) (λ t. rw t) (λ t. rw t (ap (λ p. advance p b) e))

pub spoiled : (s : LineState) (x : List ℕ) → s.progress ≡ malformed → (foldl next_byte s x).progress ≡ malformed
spoiled s [] e = e
spoiled s (b ∷ x) e = spoiled (next_byte s b) x (step_spoiled s b e)

-- a log that ended stays so
ended : (capacity : ℕ) (g : Log) (bs : List ℕ) → ((u w : Log) → while_going g.ending u w ≡ w) → feed capacity g bs ≡ g
unfolding log_byte
ended capacity g [] f = refl
ended capacity g (b ∷ bs) f = ap (λ x. feed capacity x bs) (f _ g) ∙ ended capacity g bs f

-- the lines behind the state of the one begun
abbrev mid_report : ℕ → Log → List (List ℕ) → List ℕ
mid_report capacity g [] = last_line capacity g g.line.progress
mid_report capacity g (x ∷ xs) = on_line capacity (suc g.lines) g.lot (foldl next_byte g.line x).progress (λ m. report_from capacity (suc (suc g.lines)) m xs)

from_begin : (capacity : ℕ) (g : Log) → g.line ≡ begin → (ls : List (List ℕ)) → mid_report capacity g ls ≡ report_from capacity (suc g.lines) g.lot ls
unfolding line_of
from_begin capacity g e [] = ap (λ s. last_line capacity g s.progress) e
from_begin capacity g e (x ∷ xs) = ap (λ s. on_line capacity (suc g.lines) g.lot (foldl next_byte s x).progress (λ m. report_from capacity (suc (suc g.lines)) m xs)) e

-- where the log ended with this byte, all that follows is passed over
stopped : (capacity : ℕ) (g : Log) (e : Ending) → g.ending ≡ e → ((u w : Log) → while_going e u w ≡ w) → (bs : List ℕ) → output_of capacity (feed capacity g bs) ≡ end_of capacity g e
unfolding output_of
stopped capacity g e d f bs =
    ap (λ x. end_of capacity x x.ending) (ended capacity g bs (λ u w. ap (λ y. while_going y u w) d ∙ f u w)) ∙ ap (λ y. end_of capacity g y) d

abbrev Goes : ℕ → List ℕ → Type 0
Goes capacity bs = (g : Log) → g.ending ≡ Going → output_of capacity (feed capacity g bs) ≡ mid_report capacity g (lines_of bs)

-- after a newline
module _ (capacity : ℕ) (bs : List ℕ) (rec : Goes capacity bs) (g : Log) where
  after_line : (t : LineTaken) → output_of capacity (feed capacity (counted g t) bs) ≡ next_line (suc g.lines) t (λ m. report_from capacity (suc (suc g.lines)) m (lines_of bs))
  after_line t =
      by_test t.full
      (λ e. rw e (stopped capacity (record { lot = t.lot; lines = g.lines; line = begin; ending = Full }) Full refl (λ u w. refl) bs))
      (λ e. rw e (rec (record { lot = t.lot; lines = suc g.lines; line = begin; ending = Going }) refl
      ∙ from_begin capacity (record { lot = t.lot; lines = suc g.lines; line = begin; ending = Going }) refl (lines_of bs)))

  after_newline : (s : LineState) (p : Progress) → Ended p
      → output_of capacity (feed capacity (read_on capacity g s p) bs) ≡ on_line capacity (suc g.lines) g.lot p (λ m. report_from capacity (suc (suc g.lines)) m (lines_of bs))
  after_newline s blank x = elim x [ ]
  after_newline s (letter _ _) x = elim x [ ]
  after_newline s (space _ _) x = elim x [ ]
  after_newline s (numeral _ _ _) x = elim x [ ]
  after_newline s (whole d c) is_whole = after_line (take_line capacity g.lot d c)
  after_newline s malformed is_malformed = stopped capacity (record { lot = g.lot; lines = g.lines; line = s; ending = Refused }) Refused refl (λ u w. refl) bs

  -- after another byte
  spoiled_lines : (s : LineState) (b : ℕ) → next_byte g.line b ≡ s → s.progress ≡ malformed → (ls : List (List ℕ)) → line_text (capped (suc g.lines)) refused_word ≡ mid_report capacity g (onto b ls)
  spoiled_lines s b e m [] = sym (ap (λ p. on_line capacity (suc g.lines) g.lot p (λ l. report_from capacity (suc (suc g.lines)) l [])) (ap (λ x. x.progress) e ∙ m))
  spoiled_lines s b e m (l ∷ ls) =
      sym (ap (λ p. on_line capacity (suc g.lines) g.lot p (λ k. report_from capacity (suc (suc g.lines)) k ls)) (ap (λ x. (foldl next_byte x l).progress) e ∙ spoiled s l m))

  -- a line that is open: what is read of it next is read behind the byte
  open_lines : (s : LineState) (b : ℕ) → next_byte g.line b ≡ s
      → (k : Log) → k.lot ≡ g.lot → k.lines ≡ g.lines → k.line ≡ s
      → last_line capacity k s.progress ≡ on_line capacity (suc g.lines) g.lot s.progress (λ l. report_from capacity (suc (suc g.lines)) l [])
      → (ls : List (List ℕ)) → mid_report capacity k ls ≡ mid_report capacity g (onto b ls)
  open_lines s b e k a n d h [] = ap (λ x. last_line capacity k x.progress) d ∙ h ∙ sym (ap (λ x. on_line capacity (suc g.lines) g.lot x.progress (λ l. report_from capacity (suc (suc g.lines)) l [])) e)
  open_lines s b e k a n d h (l ∷ ls) =
      (λ i. on_line capacity (suc (n i)) (a i) (foldl next_byte ((d ∙ sym e) i) l).progress (λ x. report_from capacity (suc (suc (n i))) x ls))

  after_other : (b : ℕ) (s : LineState) → next_byte g.line b ≡ s → (p : Progress) → s.progress ≡ p → Open p
      → output_of capacity (feed capacity (read_on capacity g s p) bs) ≡ mid_report capacity g (onto b (lines_of bs))
  after_other b s e blank m x = elim x [ ]
  after_other b s e (whole _ _) m x = elim x [ ]
  after_other b s e (letter d c) m at_letter =
      let k : Log = record { lot = g.lot; lines = g.lines; line = s; ending = Going } in
      rec k refl ∙ open_lines s b e k refl refl refl (rw m) (lines_of bs)
  after_other b s e (space d c) m at_space =
      let k : Log = record { lot = g.lot; lines = g.lines; line = s; ending = Going } in
      rec k refl ∙ open_lines s b e k refl refl refl (rw m) (lines_of bs)
  after_other b s e (numeral d c n) m at_number =
      let k : Log = record { lot = g.lot; lines = g.lines; line = s; ending = Going } in
      rec k refl ∙ open_lines s b e k refl refl refl (rw m) (lines_of bs)
  after_other b s e malformed m at_malformed =
      stopped capacity (record { lot = g.lot; lines = g.lines; line = s; ending = Refused }) Refused refl (λ u w. refl) bs ∙ spoiled_lines s b e m (lines_of bs)

  at_newline : (b : ℕ) → b ≡ 10
      → output_of capacity (feed capacity (read_on capacity g (next_byte g.line b) (next_byte g.line b).progress) bs)
      ≡ on_line capacity (suc g.lines) g.lot (next_byte g.line b).progress (λ m. report_from capacity (suc (suc g.lines)) m (lines_of bs))
  at_newline b n = after_newline (next_byte g.line b) (next_byte g.line b).progress (rw n (step_ends g.line))

goes : (capacity : ℕ) (bs : List ℕ) → Goes capacity bs
unfolding output_of log_byte
goes capacity [] g e = ap (λ y. end_of capacity g y) e
goes capacity (b ∷ bs) g e =
    ap (λ y. output_of capacity (feed capacity (while_going y (read_on capacity g (next_byte g.line b) (next_byte g.line b).progress) g) bs)) e
    ∙ by_eq b 10
    (λ n t. rw t (at_newline capacity bs (goes capacity bs) g b n))
    (λ n t. rw t (after_other capacity bs (goes capacity bs) g b (next_byte g.line b) refl (next_byte g.line b).progress refl (step_open b n g.line)))

-- the report on an input, in whatever pieces it came
pub log_report : (capacity : ℕ) (input : List ℕ) → output_of capacity (feed capacity opening input) ≡ report_of capacity input
unfolding report_of
log_report capacity input = goes capacity input opening refl ∙ from_begin capacity opening refl (lines_of input)
