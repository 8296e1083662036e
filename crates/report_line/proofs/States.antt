-- Reading a line: the progress that each test of a byte or an item leads to is the one that the grammar names.
-- Each law is one test, or two, of the grammar's definition decided by what was tested.
use Prim.Native.Nat.{ℕ, ◌+◌, ◌-◌, ◌*◌, ◌≤◌, ◌<◌}
use mathlib.Core.Path.{◌≡◌, sym, ◌∙◌}
use mathlib.Core.Bool.{Bool, true, false}
use mathlib.Core.List.{List, []}
use native.Mathlib.Omega.{arith}
use lib.ListN.{replicate}
use borrow.Author.Tests.{eq-eqb, ne_eqb, le-leb, lt-leb}
use Rattle.family.specs.Combination.{holds, is_free, including, items_of}
use Rattle.family.proofs.Words.{one_record, free_zero, free_high, free_held, free_item, is_including}
use Rattle.report_line.specs.declared.Side.{Side}
use Rattle.report_line.specs.declared.Side.TheVariants.{Passed, Returned}
use Rattle.report_line.specs.Line.{Progress, letter, space, numeral, whole, malformed, first_byte, gap, opened, grown, closed, advance}

pub no_items : items_of (replicate 16 0) ≡ []
no_items = (one_record [] (record { falling = tt; low = omega arith })).means

module _ (b : ℕ) where
  pub first_passed : b ≡ 80 → first_byte b ≡ letter Passed []
  first_passed e = rw (eq-eqb b 80 e)

  pub first_returned : (b ≡ 80 → ⊥) → b ≡ 82 → first_byte b ≡ letter Returned []
  first_returned d e = rw (ne_eqb b 80 d, eq-eqb b 82 e)

  pub first_other : (b ≡ 80 → ⊥) → (b ≡ 82 → ⊥) → first_byte b ≡ malformed
  first_other d e = rw (ne_eqb b 80 d, ne_eqb b 82 e)

module _ (s : Side) (c : List ℕ) (b : ℕ) where
  pub gap_space : b ≡ 32 → gap s c b ≡ space s c
  gap_space e = rw (eq-eqb b 32 e)

  pub gap_newline : (b ≡ 32 → ⊥) → b ≡ 10 → gap s c b ≡ whole s c
  gap_newline d e = rw (ne_eqb b 32 d, eq-eqb b 10 e)

  pub gap_other : (b ≡ 32 → ⊥) → (b ≡ 10 → ⊥) → gap s c b ≡ malformed
  gap_other d e = rw (ne_eqb b 32 d, ne_eqb b 10 e)

  pub opened_low : b < 49 → opened s c b ≡ malformed
  opened_low l = rw (lt-leb 49 b l)

  pub opened_high : 57 < b → opened s c b ≡ malformed
  opened_high l = rw (le-leb 49 b (omega arith), lt-leb b 57 l)

  pub opened_digit : (n : ℕ) → 49 ≤ b → b ≤ 57 → n ≡ b - 48 → opened s c b ≡ numeral s c n
  opened_digit n l h e = rw (le-leb 49 b l, le-leb b 57 h, e)

  module _ (n : ℕ) where
    pub number_low : b < 48 → advance (numeral s c n) b ≡ closed s c n b
    number_low l = rw (lt-leb 48 b l)

    pub number_high : 57 < b → advance (numeral s c n) b ≡ closed s c n b
    number_high l = rw (le-leb 48 b (omega arith), lt-leb b 57 l)

    pub number_digit : (d : ℕ) → 48 ≤ b → b ≤ 57 → d ≡ b - 48 → advance (numeral s c n) b ≡ grown s c (10 * n + d)
    number_digit d l h e = rw (le-leb 48 b l, le-leb b 57 h, e)

    pub closed_not : is_free 512 n c ≡ false → closed s c n b ≡ malformed
    closed_not e = rw e

    -- the tests of an item in the order of the code, and what each leads to
    pub closed_low : n < 1 → malformed ≡ closed s c n b
    closed_low l = sym (closed_not (free_zero n c (omega arith)))

    pub closed_high : 513 ≤ n → malformed ≡ closed s c n b
    closed_high l = sym (closed_not (free_high n c l))

    pub closed_held : {t : Bool} → t ≡ holds n c → t ≡ true → malformed ≡ closed s c n b
    closed_held e h = sym (closed_not (free_held n c (sym e ∙ h)))

    pub closed_free : {t : Bool} {p : Progress} {d : List ℕ} → 1 ≤ n → n < 513 → t ≡ holds n c → t ≡ false → d ≡ including 512 n c → p ≡ gap s d b → p ≡ closed s c n b
    closed_free l h e f i g = let t : is_free 512 n c ≡ true = free_item n c l (omega arith) (sym e ∙ f) in rw (t, ← is_including n c t, ← i) g

module _ (s : Side) (c : List ℕ) (n : ℕ) where
  pub grown_high : 512 < n → grown s c n ≡ malformed
  grown_high l = rw (lt-leb n 512 l)

  pub grown_low : n ≤ 512 → grown s c n ≡ numeral s c n
  grown_low l = rw (le-leb n 512 l)
