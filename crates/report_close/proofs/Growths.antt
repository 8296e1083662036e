-- The families of a log are in canonical form and have no more members than lines were taken, so of at most 2^64 - 1
-- lines every number printed is exact. A line adds one combination, which is a falling list of items from 1 to 512.
use Prim.Native.Nat.{ℕ, suc, ◌+◌, ◌-◌, ◌*◌, ◌≤◌, max}
use mathlib.Core.Path.{◌≡◌, refl, sym, subst}
use mathlib.Core.Bool.{Bool, true, false, cond, not, ◌&&◌}
use mathlib.Core.List.{List, [], ◌∷◌, foldl}
use native.Mathlib.Omega.{arith}
use lib.Dec.{eqb, ltb, leb}
use borrow.Author.Tests.{ltb-true, leb-true}
use Rattle.words.proofs.Cases.{by_test, and_inv}
use Rattle.family.specs.Family.{Family, empty, top, Ordered, size}
use Rattle.family.specs.Operation.{intsec, diff}
use Rattle.family.specs.Combination.{Combined, holds, insert, is_free}
use Rattle.family.specs.Finite.{single}
use Rattle.family.proofs.Falling.{insert_falling}
use Rattle.family.proofs.Laws.{union_within}
use Rattle.family.proofs.Finite.{single_falls, single_size}
use Rattle.words.specs.Words.{most}
use Rattle.report_line.specs.declared.Side.{Side}
use Rattle.report_line.specs.declared.Side.TheVariants.{Passed, Returned}
use Rattle.report_tally.specs.declared.Ending.{Ending}
use Rattle.report_tally.specs.declared.Ending.TheVariants.{Going, Refused, Full}
use Rattle.report_line.specs.Line.{Progress, blank, letter, space, numeral, whole, malformed, gap, is_digit, closed, advance, LineState, begin, next_byte, line_of}
use Rattle.report_add.specs.Promise.{Added, added}
use Rattle.report_tally.specs.Log.{Log, opening, capped}
use Rattle.report_log.specs.Log.{of_side, put_side, lot_after, take_line, counted, read_on, while_going, log_byte, feed}
use Rattle.report_log.proofs.Logs.{side_full, side_more}
use Rattle.report_close.proofs.Meanings.{added_single, union_size, intsec_size, diff_size}

-- the items taken of a line are a combination
pub data Good : Progress → Type 0 where
  of_blank : Good blank
  of_letter : {d : Side} {c : List ℕ} → Combined 512 c → Good (letter d c)
  of_space : {d : Side} {c : List ℕ} → Combined 512 c → Good (space d c)
  of_number : {d : Side} {c : List ℕ} {n : ℕ} → Combined 512 c → Good (numeral d c n)
  of_whole : {d : Side} {c : List ℕ} → Combined 512 c → Good (whole d c)
  of_malformed : Good malformed

none : Combined 512 []
none = record { falling = tt; low = omega arith }

either : (t : Bool) {p q : Progress} → Good p → Good q → Good (cond t p q)
either true x y = x
either false x y = y

more : (n : ℕ) (c : List ℕ) → Combined 512 c → is_free 512 n c ≡ true → Combined 512 (insert n c)
unfolding is_free
more n c h e =
    and_inv (ltb 0 n) (leb n 512 && not (holds n c)) e (λ a f. and_inv (leb n 512) (not (holds n c)) f (λ b d.
    let q = insert_falling n c (ltb-true 0 n a) h.falling (absent (holds n c) d) in
    record { falling = q.0; low = omega (arith, q.1, leb-true n 512 b, h.low) }))
  where
    absent : (t : Bool) → not t ≡ true → t ≡ false
    absent true e = sym e
    absent false e = refl

good_gap : (d : Side) (c : List ℕ) (b : ℕ) → Combined 512 c → Good (gap d c b)
good_gap d c b h = either (eqb b 32) (of_space h) (either (eqb b 10) (of_whole h) of_malformed)

good_closed : (d : Side) (c : List ℕ) (n b : ℕ) → Combined 512 c → Good (closed d c n b)
good_closed d c n b h = by_test (is_free 512 n c) (λ t. rw t (good_gap d (insert n c) b (more n c h t))) (λ t. rw t of_malformed)

good_advance : (p : Progress) (b : ℕ) → Good p → Good (advance p b)
good_advance blank b of_blank = either (eqb b 80) (of_letter none) (either (eqb b 82) (of_letter none) of_malformed)
good_advance (letter d c) b (of_letter h) = good_gap d c b h
good_advance (space d c) b (of_space h) = either (leb 49 b && leb b 57) (of_number h) of_malformed
good_advance (numeral d c n) b (of_number h) = either (is_digit b) (either (leb (10 * n + (b - 48)) 512) (of_number h) of_malformed) (good_closed d c n b h)
good_advance (whole d c) b (of_whole h) = of_malformed
good_advance malformed b of_malformed = of_malformed

good_step : (s : LineState) (b : ℕ) → Good s.progress → Good (next_byte s b).progress
good_step s b h = either (eqb s.left 0) of_malformed (good_advance s.progress b h)

-- a whole line's items
pub line_combined : (x : List ℕ) (d : Side) (c : List ℕ) → line_of x ≡ whole d c → Combined 512 c
unfolding line_of
line_combined x d c e = out d c (subst Good e (go begin x of_blank))
  where
    out : (d : Side) (c : List ℕ) → Good (whole d c) → Combined 512 c
    out d c (of_whole h) = h

    go : (s : LineState) (y : List ℕ) → Good s.progress → Good (foldl next_byte s y).progress
    go s [] h = h
    go s (b ∷ y) h = go (next_byte s b) y (good_step s b h)

-- a family with at most n members
pub record Few (n : ℕ) (F : Family) : Type 0 where
  pub ordered : Ordered F
  pub low : size F ≤ n

few_more : {n : ℕ} {F : Family} → Few n F → Few (suc n) F
few_more h = record { ordered = h.ordered; low = omega (arith, h.low) }

few_added : {n : ℕ} (capacity : ℕ) (B : List Family) (F : Family) (c : List ℕ) → Combined 512 c → Few n F → (added capacity B F c).full ≡ false → Few (suc n) (added capacity B F c).family
few_added {n} capacity B F c k h e =
    let s = single_falls c k.falling in
    rw (added_single capacity B F c k.falling e) record {
      ordered = (union_within {limit = max (top F) (top (single c))} F (single c) (record { ordered = h.ordered; low = omega arith }) (record { ordered = s.0; low = omega arith })).ordered;
      low = omega (arith, union_size F (single c) h.ordered s.0, single_size c, h.low);
    }

-- what every log obeys
pub record Sane (g : Log) : Type 0 where
  pub line : Good g.line.progress
  pub passed : Few g.lines g.lot.passed
  pub returned : Few g.lines g.lot.returned

module _ (capacity : ℕ) (g : Log) (h : Sane g) where
  sane_side : (d : Side) (a : Added) → (a.full ≡ false → Few (suc g.lines) a.family) → Sane (counted g (lot_after d g.lot a))
  sane_side d a f =
      by_test a.full
      (λ t. subst Sane (side_full g a d t) (record { line = of_blank; passed = h.passed; returned = h.returned }))
      (λ t. subst Sane (side_more g a d t) (more_sane d (f t)))
    where
      more_sane : (d : Side) → Few (suc g.lines) a.family → Sane (record { lot = put_side d g.lot a.book a.family; lines = suc g.lines; line = begin; ending = Going })
      more_sane Passed x = record { line = of_blank; passed = x; returned = few_more h.returned }
      more_sane Returned x = record { line = of_blank; passed = few_more h.passed; returned = x }

  sane_line : (d : Side) (c : List ℕ) → Combined 512 c → Sane (counted g (take_line capacity g.lot d c))
  sane_line d c k = sane_side d (added capacity g.lot.book (of_side d g.lot) c) (few_added capacity g.lot.book (of_side d g.lot) c k (few d))
    where
      few : (d : Side) → Few g.lines (of_side d g.lot)
      few Passed = h.passed
      few Returned = h.returned

  sane_read : (s : LineState) (p : Progress) → s.progress ≡ p → Good p → Sane (read_on capacity g s p)
  sane_read s (whole d c) e (of_whole k) = sane_line d c k
  sane_read s malformed e k = record { line = rw e k; passed = h.passed; returned = h.returned }
  sane_read s blank e k = record { line = rw e k; passed = h.passed; returned = h.returned }
  sane_read s (letter d c) e k = record { line = rw e k; passed = h.passed; returned = h.returned }
  sane_read s (space d c) e k = record { line = rw e k; passed = h.passed; returned = h.returned }
  sane_read s (numeral d c n) e k = record { line = rw e k; passed = h.passed; returned = h.returned }

  sane_byte : (b : ℕ) → Sane (log_byte capacity g b)
  unfolding log_byte
  sane_byte b = go g.ending
    where
      go : (e : Ending) → Sane (while_going e (read_on capacity g (next_byte g.line b) (next_byte g.line b).progress) g)
      go Going = sane_read (next_byte g.line b) (next_byte g.line b).progress refl (good_step g.line b h.line)
      go Refused = h
      go Full = h

sane_feed : (capacity : ℕ) (g : Log) (bs : List ℕ) → Sane g → Sane (feed capacity g bs)
sane_feed capacity g [] h = h
sane_feed capacity g (b ∷ bs) h = sane_feed capacity (log_byte capacity g b) bs (sane_byte capacity g h b)

-- of any input
pub sane : (capacity : ℕ) (input : List ℕ) → Sane (feed capacity opening input)
sane capacity input =
    let e : Few 0 empty = record { ordered = tt; low = omega arith } in
    sane_feed capacity opening input (record { line = of_blank; passed = e; returned = e })

-- and so the four sizes are exact where the lines are at most 2^64 - 1
module _ (g : Log) (h : Sane g) (l : g.lines ≤ most) where
  pub passed_exact : capped (size g.lot.passed) ≡ size g.lot.passed
  passed_exact = omega (arith, h.passed.low)

  pub returned_exact : capped (size g.lot.returned) ≡ size g.lot.returned
  returned_exact = omega (arith, h.returned.low)

  pub both_exact : capped (size (intsec g.lot.passed g.lot.returned)) ≡ size (intsec g.lot.passed g.lot.returned)
  both_exact = omega (arith, h.passed.low, intsec_size g.lot.passed g.lot.returned h.passed.ordered h.returned.ordered)

  pub only_exact : capped (size (diff g.lot.returned g.lot.passed)) ≡ size (diff g.lot.returned g.lot.passed)
  only_exact = omega (arith, h.returned.low, diff_size g.lot.returned g.lot.passed h.returned.ordered h.passed.ordered)
