-- A lookup in which number k + 2 stands at a slot that is given for it, for each of n numbers, and that holds n
-- numbers, is the one in which they are entered at these slots.
-- A slot given for one number is empty before that number is entered, since it holds a larger one; so the entered
-- ones are a part of the lookup that holds as many.
use Prim.Native.Nat.{ℕ, zero, suc, ◌+◌, ◌≤◌, ◌<◌}
use mathlib.Core.Path.{◌≡◌, sym, ap, ◌∙◌}
use mathlib.Core.List.{List}
use mathlib.Core.Logic.{◌⊎◌, inl, inr, ⊎_elim}
use native.Mathlib.Omega.{arith}
use lib.ListN.{length, get_or, set, replicate, length-set, get_or-eq_default}
use lib.Seq.{get_or-set_same, get_or-set_other}
use Rattle.words.proofs.Cases.{by_eq, by_lt}
use Rattle.words.proofs.Zeroed.{zeros_length, zero_get_d}
use Rattle.table.specs.Entered.{used}
use Rattle.table.proofs.Used.{used_none, used_set}
use Rattle.store_audit.proofs.Counting.{part_whole}

-- the first m numbers entered at the slots that r gives
unfoldable pub rows : (ℕ → ℕ) → ℕ → ℕ → List ℕ
rows r len zero = replicate len 0
rows r len (suc m) = set (rows r len m) (r m) (m + 2)

pub rows_length : (r : ℕ → ℕ) (len m : ℕ) → length (rows r len m) ≡ len
unfolding rows
rows_length r len zero = zeros_length len
rows_length r len (suc m) = length-set (rows r len m) (r m) (m + 2) ∙ rows_length r len m

module _ (r : ℕ → ℕ) (l : List ℕ) (n : ℕ) (own : (k : ℕ) → k < n → get_or l (r k) 0 ≡ k + 2) where
  slot_in : (k : ℕ) → k < n → r k < length l
  slot_in k h = by_lt (r k) (length l) (λ i e. i) (λ i e. absurd (omega (arith, own k h, get_or-eq_default l 0 {n = r k} i)))

  abbrev row : ℕ → List ℕ
  row m = rows r (length l) m

  row_here : (m x : ℕ) → m < n → x ≡ r m → get_or (row (suc m)) x 0 ≡ m + 2
  unfolding rows
  row_here m x h p = rw p (get_or-set_same (rows r (length l) m) (r m) (m + 2) 0 (rw rows_length (slot_in m h)))

  row_else : (m x : ℕ) → (x ≡ r m → ⊥) → get_or (row (suc m)) x 0 ≡ get_or (row m) x 0
  unfolding rows
  row_else m x p = get_or-set_other (rows r (length l) m) (r m) x (m + 2) 0 p

  row_none : (x : ℕ) → get_or (row 0) x 0 ≡ 0
  unfolding rows
  row_none x = zero_get_d (length l) x

  -- a number entered is small, and stands in the lookup
  row_small : (m x : ℕ) → m ≤ n → get_or (row m) x 0 < m + 2
  row_small zero x h = omega (arith, row_none x)
  row_small (suc m) x h = by_eq x (r m) (λ p e. omega (arith, row_here m x h p)) (λ p e. omega (arith, row_else m x p, row_small m x (omega arith)))

  row_stands : (m x : ℕ) → m ≤ n → (get_or (row m) x 0 ≡ 0 → ⊥) → get_or l x 0 ≡ get_or (row m) x 0
  row_stands zero x h d = absurd (d (row_none x))
  row_stands (suc m) x h d =
      by_eq x (r m)
      (λ p e. ap (λ y. get_or l y 0) p ∙ own m h ∙ sym (row_here m x h p))
      (λ p e. row_stands m x (omega arith) (λ z. d (row_else m x p ∙ z)) ∙ sym (row_else m x p))

  -- the next slot is empty
  pub row_free : (m : ℕ) → m < n → get_or (row m) (r m) 0 ≡ 0
  row_free m h =
      by_eq (get_or (row m) (r m) 0) 0 (λ p e. p)
      (λ p e. absurd (omega (arith, own m h, row_stands m (r m) (omega arith) p, row_small m (r m) (omega arith))))

  row_used : (m : ℕ) → m ≤ n → used (row m) ≡ m
  unfolding rows
  row_used zero h = used_none (length l)
  row_used (suc m) h =
      used_set (rows r (length l) m) (r m) (m + 2) (rw rows_length (slot_in m h)) (row_free m h) (omega arith) ∙ ap suc (row_used m (omega arith))

  -- what is entered later is larger
  row_later : (m k x : ℕ) → m ≤ k → k ≤ n → get_or (row m) x 0 ≡ 0 → (get_or (row k) x 0 ≡ 0) ⊎ (m + 2 ≤ get_or (row k) x 0)
  row_later m zero x h g e = inl (row_none x)
  row_later m (suc k) x h g e =
      by_eq m (suc k)
      (λ p d. inl (ap (λ j. get_or (row j) x 0) (sym p) ∙ e))
      (λ p d. by_eq x (r k)
      (λ q c. inr (omega (arith, row_here k x g q)))
      (λ q c. ⊎_elim (λ z. inl (row_else k x q ∙ z)) (λ z. inr (omega (arith, row_else k x q))) (row_later m k x (omega arith) (omega arith) e)))

  module _ (many : used l ≡ n) where
    pub row_all : rows r (length l) n ≡ l
    row_all =
        part_whole (row n) l (record { long = rows_length r (length l) n; stands = λ x d. row_stands n x (omega arith) d })
        (omega (arith, row_used n (omega arith)))

    -- a slot that is empty before number m + 2 is entered is empty, or holds that number or a larger one
    pub row_past : (m x : ℕ) → m ≤ n → get_or (row m) x 0 ≡ 0 → (get_or l x 0 ≡ 0) ⊎ (m + 2 ≤ get_or l x 0)
    row_past m x h e = rw row_all at (row_later m n x h (omega arith) e)
