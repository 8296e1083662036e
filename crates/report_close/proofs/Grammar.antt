-- The grammar, against the text that a line is written as: a line is read as a side and items exactly where it is the
-- letter, each item in decimal after one space, and a newline.
-- Both ways by induction: on the items that are written, and on the bytes that are read.
use Prim.Native.Nat.{ℕ, zero, suc, ◌+◌, ◌-◌, ◌*◌, ◌/◌, ◌%◌, ◌≤◌, ◌<◌}
use mathlib.Core.Path.{◌≡◌, refl, sym, ap, ◌∙◌}
use mathlib.Core.Bool.{Bool, true, false, cond, ◌&&◌}
use mathlib.Core.Logic.{◌⊎◌, inl, inr, ⊎_elim}
use mathlib.Core.List.{List, [], ◌∷◌, ◌++◌, foldl, foldl-append, append_assoc, append-nil}
use native.Mathlib.Omega.{arith}
use lib.Dec.{eqb, ltb, leb}
use lib.ListN.{length, length-append}
use borrow.Author.Tests.{ne_eqb, leb-true}
use Rattle.words.proofs.Cases.{by_test, by_eq, by_lt, clash}
use Rattle.family.specs.Combination.{insert, is_free}
use Rattle.report_line.specs.declared.Side.{Side}
use Rattle.report_line.specs.declared.Side.TheVariants.{Passed, Returned}
use Rattle.report_line.specs.Line.{Progress, letter, space, numeral, whole, malformed, first_byte, gap, opened, grown, closed, advance, LineState, begin, next_byte, line_of}
use Rattle.report_text.specs.Text.{decimal_of}
use Rattle.report_line.proofs.States.{first_passed, first_returned, first_other, opened_digit, opened_low, opened_high, number_digit, number_low, number_high, grown_low, grown_high, closed_not, gap_space, gap_newline, gap_other}
use Rattle.report_text.proofs.Writings.{decimal_small, decimal_more}
use Rattle.report_close.proofs.Reports.{spoiled}

-- the text of a line: the letter, each item after one space, the newline
abbrev pub items_text : List ℕ → List ℕ
items_text [] = 10 ∷ []
items_text (v ∷ vs) = 32 ∷ (decimal_of v ++ items_text vs)

abbrev pub letter_of : Side → ℕ
letter_of Passed = 80
letter_of Returned = 82

abbrev pub text_of : Side → List ℕ → List ℕ
text_of d vs = letter_of d ∷ items_text vs

-- the combination of items, and that each is one of 1 to 512 that was not there before
abbrev pub gathered : List ℕ → List ℕ → List ℕ
gathered c [] = c
gathered c (v ∷ vs) = gathered (insert v c) vs

abbrev pub Differ : List ℕ → List ℕ → Type 0
Differ c [] = Unit {0}
Differ c (v ∷ vs) = (is_free 512 v c ≡ true) × Differ (insert v c) vs

abbrev at : Progress → ℕ → LineState
at p l = record { progress = p; left = l }

step_some : (p : Progress) (l b : ℕ) → 0 < l → next_byte (at p l) b ≡ at (advance p b) (l - 1)
step_some p l b h = rw (ne_eqb l 0 (omega arith))

-- an item that is free is one of 1 to 512
module _ (v : ℕ) (c : List ℕ) (e : is_free 512 v c ≡ true) where
  pub free_low : 1 ≤ v
  unfolding is_free
  free_low = by_lt 0 v (λ l t. l) (λ l t. clash e (rw t))

  pub free_high : v ≤ 512
  unfolding is_free
  free_high = by_test (leb v 512) (λ t. leb-true v 512 t) (λ t. clash e (rw t (both (ltb 0 v))))
    where
      both : (t : Bool) → t && false ≡ false
      both true = refl
      both false = refl

-- what is written is read
module _ (d : Side) (c : List ℕ) where
  digits_read : (k v : ℕ) → v ≤ k → 1 ≤ v → v ≤ 512 → (l : ℕ) → length (decimal_of v) ≤ l → foldl next_byte (at (space d c) l) (decimal_of v) ≡ at (numeral d c v) (l - length (decimal_of v))
  digits_read zero v h n m l w = absurd (omega arith)
  digits_read (suc k) v h n m l w =
      by_lt v 10
      (λ p t.
      let one : length (decimal_of v) ≡ 1 = ap length (decimal_small v p) in
      let s : l - length (decimal_of v) ≡ l - 1 = omega arith in
      rw s (ap (λ x. foldl next_byte (at (space d c) l) x) (decimal_small v p) ∙ step_some (space d c) l (48 + v) (omega arith)
      ∙ ap (λ q. at q (l - 1)) (opened_digit d c (48 + v) v (omega arith) (omega arith) (omega arith))))
      (λ p t.
      let more : length (decimal_of v) ≡ length (decimal_of (v / 10)) + 1 = ap length (decimal_more v p) ∙ length-append (decimal_of (v / 10)) ((48 + v % 10) ∷ []) in
      let r = digits_read k (v / 10) (omega arith) (omega arith) (omega arith) l (omega arith) in
      let s : l - length (decimal_of v) ≡ l - length (decimal_of (v / 10)) - 1 = omega arith in
      let ten : 10 * (v / 10) + v % 10 ≡ v = omega arith in
      rw s (ap (λ x. foldl next_byte (at (space d c) l) x) (decimal_more v p) ∙ foldl-append next_byte (at (space d c) l) (decimal_of (v / 10)) ((48 + v % 10) ∷ [])
      ∙ ap (λ x. next_byte x (48 + v % 10)) r ∙ step_some (numeral d c (v / 10)) (l - length (decimal_of (v / 10))) (48 + v % 10) (omega arith)
      ∙ ap (λ q. at q (l - length (decimal_of (v / 10)) - 1)) (number_digit d c (48 + v % 10) (v / 10) (v % 10) (omega arith) (omega arith) (omega arith) ∙ ap (λ n. grown d c n) ten ∙ grown_low d c v m)))

  -- behind an item that is free, a space or a newline is read as behind the letter
  closed_step : (v l b : ℕ) → is_free 512 v c ≡ true → (b ≡ 32) ⊎ (b ≡ 10) → next_byte (at (numeral d c v) l) b ≡ next_byte (at (letter d (insert v c)) l) b
  closed_step v l b e w = ap (λ p. at (cond (eqb l 0) malformed p) (l - 1)) (number_low d c b v (⊎_elim (λ p. omega arith) (λ p. omega arith) w) ∙ rw e)

  closed_items : (v l : ℕ) → is_free 512 v c ≡ true → (vs : List ℕ) → foldl next_byte (at (numeral d c v) l) (items_text vs) ≡ foldl next_byte (at (letter d (insert v c)) l) (items_text vs)
  closed_items v l e [] = closed_step v l 10 e (inr refl)
  closed_items v l e (u ∷ vs) = ap (λ s. foldl next_byte s (decimal_of u ++ items_text vs)) (closed_step v l 32 e (inl refl))

items_read : (d : Side) (vs c : List ℕ) (l : ℕ) → Differ c vs → length (items_text vs) ≤ l → (foldl next_byte (at (letter d c) l) (items_text vs)).progress ≡ whole d (gathered c vs)
items_read d [] c l f w = ap (λ s. s.progress) (step_some (letter d c) l 10 w)
items_read d (v ∷ vs) c l f w =
    let n = length-append (decimal_of v) (items_text vs) in
    ap (λ s. (foldl next_byte s (decimal_of v ++ items_text vs)).progress) (step_some (letter d c) l 32 (omega arith))
    ∙ ap (λ s. s.progress) (foldl-append next_byte (at (space d c) (l - 1)) (decimal_of v) (items_text vs))
    ∙ ap (λ s. (foldl next_byte s (items_text vs)).progress) (digits_read d c v v (omega arith) (free_low v c f.0) (free_high v c f.0) (l - 1) (omega arith))
    ∙ ap (λ s. s.progress) (closed_items d c v (l - 1 - length (decimal_of v)) f.0 vs)
    ∙ items_read d vs (insert v c) (l - 1 - length (decimal_of v)) f.1 (omega arith)

pub line_written : (d : Side) (vs : List ℕ) → Differ [] vs → length (text_of d vs) ≤ 2048 → line_of (text_of d vs) ≡ whole d (gathered [] vs)
unfolding line_of
line_written Passed vs f w = items_read Passed vs [] 2047 f (omega arith)
line_written Returned vs f w = items_read Returned vs [] 2047 f (omega arith)

-- what is read was written
record Items (d : Side) (c x : List ℕ) (e : Side) (f : List ℕ) : Type 0 where
  items : List ℕ
  text : x ≡ items_text items
  differ : Differ c items
  side : d ≡ e
  all : gathered c items ≡ f

-- within an item, with the digits n before
record Number (d : Side) (c : List ℕ) (n : ℕ) (x : List ℕ) (e : Side) (f : List ℕ) : Type 0 where
  value : ℕ
  digits : List ℕ
  rest : List ℕ
  split : x ≡ digits ++ rest
  spelled : decimal_of value ≡ decimal_of n ++ digits
  free : is_free 512 value c ≡ true
  behind : Items d (insert value c) rest e f

record Space (d : Side) (c x : List ℕ) (e : Side) (f : List ℕ) : Type 0 where
  value : ℕ
  rest : List ℕ
  split : x ≡ decimal_of value ++ rest
  free : is_free 512 value c ≡ true
  behind : Items d (insert value c) rest e f

no_line {ℓ} : {A : Type ℓ} (s : LineState) (x : List ℕ) {e : Side} {f : List ℕ} → s.progress ≡ malformed → (foldl next_byte s x).progress ≡ whole e f → A
no_line s x m h = absurd (let k = spoiled s x m in let z : ◌≡◌ {A = ℕ} 0 1 = cc in omega arith)

whole_last : (d : Side) (c : List ℕ) (l : ℕ) (x : List ℕ) (e : Side) (f : List ℕ) → (foldl next_byte (at (whole d c) l) x).progress ≡ whole e f → (x ≡ []) × (d ≡ e) × (c ≡ f)
whole_last d c l [] e f h = (refl, cc, cc)
whole_last d c l (b ∷ x) e f h = no_line (next_byte (at (whole d c) l) b) x (by_test (eqb l 0) (λ t. rw t) (λ t. rw t)) h

record Reads (x : List ℕ) : Type 0 where
  letter_reads : (d : Side) (c : List ℕ) (l : ℕ) (e : Side) (f : List ℕ) → (foldl next_byte (at (letter d c) l) x).progress ≡ whole e f → Items d c x e f
  space_reads : (d : Side) (c : List ℕ) (l : ℕ) (e : Side) (f : List ℕ) → (foldl next_byte (at (space d c) l) x).progress ≡ whole e f → Space d c x e f
  number_reads : (d : Side) (c : List ℕ) (n l : ℕ) → 1 ≤ n → (e : Side) (f : List ℕ) → (foldl next_byte (at (numeral d c n) l) x).progress ≡ whole e f → Number d c n x e f

-- the next byte, where one is left; with none left no line comes of it
stepped {ℓ} : {A : Type ℓ} (p : Progress) (l b : ℕ) (x : List ℕ) {e : Side} {f : List ℕ} → (foldl next_byte (at p l) (b ∷ x)).progress ≡ whole e f → ((foldl next_byte (at (advance p b) (l - 1)) x).progress ≡ whole e f → A) → A
stepped p l b x h k =
    by_eq l 0
    (λ z t. no_line (next_byte (at p l) b) x (rw t) h)
    (λ z t. k (ap (λ s. (foldl next_byte s x).progress) (sym (step_some p l b (omega arith))) ∙ h))

module _ (x : List ℕ) (R : Reads x) (b : ℕ) where
  gap_reads : (d : Side) (c : List ℕ) (l : ℕ) (e : Side) (f : List ℕ) → (foldl next_byte (at (gap d c b) l) x).progress ≡ whole e f → Items d c (b ∷ x) e f
  gap_reads d c l e f h =
      by_eq b 32
      (λ p t.
      let S = R.space_reads d c l e f (ap (λ q. (foldl next_byte (at q l) x).progress) (sym (gap_space d c b p)) ∙ h) in
      let I = S.behind in
      record { items = S.value ∷ I.items; text = λ i. p i ∷ (S.split ∙ ap (λ y. decimal_of S.value ++ y) I.text) i; differ = (S.free, I.differ); side = I.side; all = I.all })
      (λ p t. by_eq b 10
      (λ q u.
      let w = whole_last d c l x e f (ap (λ r. (foldl next_byte (at r l) x).progress) (sym (gap_newline d c b p q)) ∙ h) in
      record { items = []; text = λ i. q i ∷ w.0 i; differ = tt; side = w.1; all = w.2 })
      (λ q u. no_line (at (gap d c b) l) x (gap_other d c b p q) h))

  opened_reads : (d : Side) (c : List ℕ) (l : ℕ) (e : Side) (f : List ℕ) → (foldl next_byte (at (opened d c b) l) x).progress ≡ whole e f → Space d c (b ∷ x) e f
  opened_reads d c l e f h =
      by_lt b 49
      (λ p t. no_line (at (opened d c b) l) x (opened_low d c b p) h)
      (λ p t. by_lt 57 b
      (λ q u. no_line (at (opened d c b) l) x (opened_high d c b q) h)
      (λ q u.
      let N = R.number_reads d c (b - 48) l (omega arith) e f (ap (λ r. (foldl next_byte (at r l) x).progress) (sym (opened_digit d c b (b - 48) p q refl)) ∙ h) in
      let one : 48 + (b - 48) ≡ b = omega arith in
      record {
        value = N.value;
        rest = N.rest;
        split = ap (λ y. b ∷ y) N.split ∙ sym (ap (λ y. y ++ N.rest) (N.spelled ∙ ap (λ y. y ++ N.digits) (decimal_small (b - 48) (omega arith) ∙ ap (λ k. k ∷ []) one)));
        free = N.free;
        behind = N.behind;
      }))

  closed_reads : (d : Side) (c : List ℕ) (n l : ℕ) (e : Side) (f : List ℕ) → (foldl next_byte (at (closed d c n b) l) x).progress ≡ whole e f → Number d c n (b ∷ x) e f
  closed_reads d c n l e f h =
      by_test (is_free 512 n c)
      (λ t. record { value = n; digits = []; rest = b ∷ x; split = refl; spelled = sym (append-nil (decimal_of n)); free = t; behind = gap_reads d (insert n c) l e f (rw t at h) })
      (λ t. no_line (at (closed d c n b) l) x (closed_not d c b n t) h)

  digit_reads : (d : Side) (c : List ℕ) (n l : ℕ) → 1 ≤ n → 48 ≤ b → b ≤ 57 → (e : Side) (f : List ℕ) → (foldl next_byte (at (grown d c (10 * n + (b - 48))) l) x).progress ≡ whole e f → Number d c n (b ∷ x) e f
  digit_reads d c n l o p q e f h =
      by_lt 512 (10 * n + (b - 48))
      (λ m t. no_line (at (grown d c (10 * n + (b - 48))) l) x (grown_high d c (10 * n + (b - 48)) m) h)
      (λ m t.
      let N = R.number_reads d c (10 * n + (b - 48)) l (omega arith) e f (ap (λ r. (foldl next_byte (at r l) x).progress) (sym (grown_low d c (10 * n + (b - 48)) m)) ∙ h) in
      let tenth : (10 * n + (b - 48)) / 10 ≡ n = omega arith in
      let last : 48 + (10 * n + (b - 48)) % 10 ≡ b = omega arith in
      record {
        value = N.value;
        digits = b ∷ N.digits;
        rest = N.rest;
        split = ap (λ y. b ∷ y) N.split;
        spelled =
            N.spelled ∙ ap (λ y. y ++ N.digits) (decimal_more (10 * n + (b - 48)) (omega arith) ∙ (λ i. decimal_of (tenth i) ++ (last i ∷ [])))
            ∙ append_assoc (decimal_of n) (b ∷ []) N.digits;
        free = N.free;
        behind = N.behind;
      })

  within_reads : (d : Side) (c : List ℕ) (n l : ℕ) → 1 ≤ n → (e : Side) (f : List ℕ) → (foldl next_byte (at (advance (numeral d c n) b) l) x).progress ≡ whole e f → Number d c n (b ∷ x) e f
  within_reads d c n l o e f h =
      by_lt b 48
      (λ p t. closed_reads d c n l e f (ap (λ r. (foldl next_byte (at r l) x).progress) (sym (number_low d c b n p)) ∙ h))
      (λ p t. by_lt 57 b
      (λ q u. closed_reads d c n l e f (ap (λ r. (foldl next_byte (at r l) x).progress) (sym (number_high d c b n q)) ∙ h))
      (λ q u. digit_reads d c n l o p q e f (ap (λ r. (foldl next_byte (at r l) x).progress) (sym (number_digit d c b n (b - 48) p q refl)) ∙ h)))

reads : (x : List ℕ) → Reads x
reads [] =
    record {
      letter_reads = λ d c l e f h. absurd (let z : ◌≡◌ {A = ℕ} 0 1 = cc in omega arith);
      space_reads = λ d c l e f h. absurd (let z : ◌≡◌ {A = ℕ} 0 1 = cc in omega arith);
      number_reads = λ d c n l o e f h. absurd (let z : ◌≡◌ {A = ℕ} 0 1 = cc in omega arith);
    }
reads (b ∷ x) =
    let R = reads x in
    record {
      letter_reads = λ d c l e f h. stepped (letter d c) l b x h (gap_reads x R b d c (l - 1) e f);
      space_reads = λ d c l e f h. stepped (space d c) l b x h (opened_reads x R b d c (l - 1) e f);
      number_reads = λ d c n l o e f h. stepped (numeral d c n) l b x h (within_reads x R b d c n (l - 1) o e f);
    }

-- a line has at most the bytes that it may have
bounded : (s : LineState) (x : List ℕ) (e : Side) (f : List ℕ) → (foldl next_byte s x).progress ≡ whole e f → length x ≤ s.left
bounded s [] e f h = omega arith
bounded s (b ∷ x) e f h = by_eq s.left 0 (λ z t. no_line (next_byte s b) x (rw t) h) (λ z t. omega (arith, bounded (next_byte s b) x e f h))

-- a line that is whole is the text of its side and of its items
pub record Written (x : List ℕ) (d : Side) (c : List ℕ) : Type 0 where
  pub short : length x ≤ 2048
  pub items : List ℕ
  pub text : x ≡ text_of d items
  pub differ : Differ [] items
  pub all : gathered [] items ≡ c

pub line_read : (x : List ℕ) (d : Side) (c : List ℕ) → line_of x ≡ whole d c → Written x d c
unfolding line_of
line_read [] d c h = absurd (let z : ◌≡◌ {A = ℕ} 0 1 = cc in omega arith)
line_read (b ∷ x) d c h =
    by_eq b 80
    (λ p t. of Passed p ((reads x).letter_reads Passed [] 2047 d c (ap (λ q. (foldl next_byte (at q 2047) x).progress) (sym (first_passed b p)) ∙ h)))
    (λ p t. by_eq b 82
    (λ q u. of Returned q ((reads x).letter_reads Returned [] 2047 d c (ap (λ r. (foldl next_byte (at r 2047) x).progress) (sym (first_returned b p q)) ∙ h)))
    (λ q u. no_line (at (first_byte b) 2047) x (first_other b p q) h))
  where
    of : (s : Side) → b ≡ letter_of s → Items s [] x d c → Written (b ∷ x) d c
    of s p I = record { short = bounded begin (b ∷ x) d c h; items = I.items; text = λ i. ((p ∙ ap letter_of I.side) i) ∷ I.text i; differ = I.differ; all = I.all }
