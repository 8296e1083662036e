-- The record of sixteen words: every combination of items up to 512 is the meaning of exactly one record.
-- Which items a record's combination holds is read off its bits, and a combination and a record are both decided by
-- that.
use Prim.Native.Nat.{ℕ, zero, suc, max, ◌+◌, ◌-◌, ◌*◌, ◌/◌, ◌%◌, ◌^◌, ◌≤◌, ◌<◌}
use mathlib.Core.Path.{◌≡◌, refl, sym, ap, ap₂, ◌∙◌}
use mathlib.Core.Bool.{true, false, ◌&&◌, ◌||◌}
use mathlib.Core.List.{List, [], ◌∷◌}
use native.Mathlib.Nat.{zero-div}
use native.Mathlib.Omega.{arith}
use lib.Dec.{eqb, ltb, leb, eqb-suc-suc}
use lib.ListN.{length, get_or, set, replicate, length-set, get_or-replicate, get_or-eq_default}
use lib.Seq.{get_or-set_same, get_or-set_other, set-set, set-get_or, ext_get_or}
use lib.Pow.{shl_exact}
use borrow.Author.Tests.{eq-eqb, ne_eqb, lt-ltb, le-ltb, le-leb, lt-leb, eqb-true, eqb-false}
use Rattle.family.specs.Combination.{largest, Falling, Combined, holds, insert, is_free, including, remove, is_none, Words, bit_at, items_to, items_of}
use Rattle.words.proofs.Cases.{by_test, by_eq, by_lt, clash}
use Rattle.family.proofs.Falling.{holds_high, holds_zero, falling_ext, remove_falling, holds_remove, insert_falling, holds_insert}
use Rattle.family.proofs.Bits.{set_bit, set_bit_fits, clear_bit, bits_equal}

-- the combination of a record
items_falling : (n : ℕ) (w : List ℕ) → Falling (items_to n w) × (largest (items_to n w) ≤ n)
items_falling zero w = (tt, omega arith)
items_falling (suc n) w =
    let q = items_falling n w in
    by_test (bit_at w n) (λ e. rw e ((omega arith, q.0), omega arith)) (λ e. rw e (q.0, omega arith))

pub items_combined : (w : List ℕ) → Combined 512 (items_of w)
unfolding items_of
items_combined w = let q = items_falling 512 w in record { falling = q.0; low = q.1 }

holds_to : (n m : ℕ) (w : List ℕ) → holds (suc m) (items_to n w) ≡ ltb m n && bit_at w m
holds_to zero m w = rw (le-ltb m 0 (omega arith))
holds_to (suc n) m w =
    by_eq n m
    (λ p e. rw (← p, lt-ltb n (suc n) (omega arith)) (by_test (bit_at w n)
    (λ d. rw (d, eq-eqb (suc n) (suc n) refl))
    (λ d. rw d (holds_high (suc n) (items_to n w) (items_falling n w).0 (omega (arith, (items_falling n w).1))))))
    (λ p e.
    let same : ltb m (suc n) ≡ ltb m n = by_lt m n (λ l d. lt-ltb m (suc n) (omega arith) ∙ sym d) (λ l d. le-ltb m (suc n) (omega arith) ∙ sym d) in
    rw same (by_test (bit_at w n)
    (λ d. rw (d, ne_eqb (suc n) (suc m) (omega arith)) (holds_to n m w))
    (λ d. rw d (holds_to n m w))))

-- what a record holds, item by item
pub holds_items : (m : ℕ) (w : List ℕ) → m < 512 → holds (suc m) (items_of w) ≡ bit_at w m
unfolding items_of
holds_items m w l = holds_to 512 m w ∙ rw (lt-ltb m 512 l)

pub holds_outside : (v : ℕ) (w : List ℕ) → 512 < v → holds v (items_of w) ≡ false
holds_outside v w l = holds_high v (items_of w) (items_combined w).falling (omega (arith, (items_combined w).low))

pub holds_none : (w : List ℕ) → holds 0 (items_of w) ≡ false
holds_none w = holds_zero (items_of w) (items_combined w).falling

-- a record whose bits are those of a combination means it
pub items_are : (w c : List ℕ) → Combined 512 c → ((m : ℕ) → m < 512 → bit_at w m ≡ holds (suc m) c) → items_of w ≡ c
items_are w c k f = falling_ext (items_of w) c (items_combined w).falling k.falling agree
  where
    agree : (v : ℕ) → holds v (items_of w) ≡ holds v c
    agree zero = holds_none w ∙ sym (holds_zero c k.falling)
    agree (suc m) =
        by_lt m 512 (λ l e. holds_items m w l ∙ f m l)
        (λ l e. holds_outside (suc m) w (omega arith) ∙ sym (holds_high (suc m) c k.falling (omega arith)))

-- one bit of a record set, and one taken off
abbrev pub put : List ℕ → ℕ → List ℕ
put w n = set w (n / 32) (get_or w (n / 32) 0 + 2 ^ (n % 32))

abbrev pub cut : List ℕ → ℕ → List ℕ
cut w n = set w (n / 32) (get_or w (n / 32) 0 - 2 ^ (n % 32))

words_set : (w : List ℕ) (k x : ℕ) → Words w → x < 2 ^ 32 → Words (set w k x)
words_set w k x h l = record { sixteen = length-set w k x ∙ h.sixteen; wide = wide }
  where
    wide : (j : ℕ) → get_or (set w k x) j 0 < 2 ^ 32
    wide j =
        by_eq j k
        (λ p e. by_lt k (length w)
        (λ q d. rw (p, get_or-set_same w k x 0 q) l)
        (λ q d. rw (p, get_or-eq_default (set w k x) 0 {n = k} (omega (arith, length-set w k x))) (omega arith)))
        (λ p e. rw (get_or-set_other w k j x 0 p) (h.wide j))

-- two places with the same word and bit are one place
place_eq : (n m : ℕ) → n / 32 ≡ m / 32 → eqb (n % 32) (m % 32) ≡ eqb n m
place_eq n m p = by_eq n m (λ q e. rw e (eq-eqb (n % 32) (m % 32) (ap (λ x. x % 32) q))) (λ q e. rw e (ne_eqb (n % 32) (m % 32) (omega arith)))

bit_number : (x : ℕ) → eqb (x % 2) 1 ≡ false → x % 2 ≡ 0
bit_number x e = omega (arith, eqb-false (x % 2) 1 e)

pub bit_put : (w : List ℕ) (n m : ℕ) → n / 32 < length w → bit_at w n ≡ false → bit_at (put w n) m ≡ eqb n m || bit_at w m
unfolding bit_at
bit_put w n m l h =
    by_eq (m / 32) (n / 32)
    (λ p e. rw (p, get_or-set_same w (n / 32) (get_or w (n / 32) 0 + 2 ^ (n % 32)) 0 l, set_bit (n % 32) (m % 32) (get_or w (n / 32) 0) (bit_number _ h), place_eq n m (sym p))
    (by_test (eqb n m) (λ d. rw d) (λ d. rw d)))
    (λ p e. rw (get_or-set_other w (n / 32) (m / 32) (get_or w (n / 32) 0 + 2 ^ (n % 32)) 0 p, ne_eqb n m (λ q. p (ap (λ x. x / 32) (sym q)))))

pub words_put : (w : List ℕ) (n : ℕ) → Words w → bit_at w n ≡ false → Words (put w n)
unfolding bit_at
words_put w n h e = words_set w (n / 32) _ h (set_bit_fits 32 (n % 32) (get_or w (n / 32) 0) (omega arith) (h.wide (n / 32)) (bit_number _ e))

-- the record of a combination
abbrev pub record_of : List ℕ → List ℕ
record_of [] = replicate 16 0
record_of (x ∷ c) = put (record_of c) (x - 1)

record Means (w c : List ℕ) : Type 0 where
  words : Words w
  bits : (m : ℕ) → bit_at w m ≡ holds (suc m) c

blank : (k : ℕ) → ◌≡◌ {A = ℕ} (get_or (replicate 16 0) k 0) 0
blank k = by_lt k 16 (λ l e. get_or-replicate 16 k 0 0 l) (λ l e. get_or-eq_default (replicate 16 0) 0 l)

record_means : (c : List ℕ) → Combined 512 c → Means (record_of c) c
unfolding bit_at
record_means [] k = record { words = record { sixteen = refl; wide = λ j. rw (blank j) (omega arith) }; bits = λ m. rw (blank (m / 32), zero-div (2 ^ (m % 32))) }
record_means (x ∷ c) k =
    let q = record_means c (record { falling = k.falling.1; low = omega arith }) in
    let one : suc (x - 1) ≡ x = omega arith in
    let free : bit_at (record_of c) (x - 1) ≡ false = q.bits (x - 1) ∙ ap (λ v. holds v c) one ∙ holds_high x c k.falling.1 k.falling.0 in
    record {
      words = words_put (record_of c) (x - 1) q.words free;
      bits = λ m. bit_put (record_of c) (x - 1) m (omega (arith, q.words.sixteen)) free ∙ ap₂ ◌||◌ (sames m one) (q.bits m);
    }
  where
    sames : (m : ℕ) → suc (x - 1) ≡ x → eqb (x - 1) m ≡ eqb x (suc m)
    sames m e = sym (eqb-suc-suc (x - 1) m) ∙ ap (λ y. eqb y (suc m)) e

-- two records with the same combination are equal
record_unique : (w v : List ℕ) → Words w → Words v → items_of w ≡ items_of v → w ≡ v
unfolding bit_at
record_unique w v hw hv e = ext_get_or 0 w v (hw.sixteen ∙ sym hv.sixteen) word
  where
    bit : (k j : ℕ) → k < 16 → j < 32 → get_or w k 0 / 2 ^ j % 2 ≡ get_or v k 0 / 2 ^ j % 2
    bit k j l m =
        let q : (32 * k + j) / 32 ≡ k = omega arith in
        let r : (32 * k + j) % 32 ≡ j = omega arith in
        let b : bit_at w (32 * k + j) ≡ bit_at v (32 * k + j) =
        sym (holds_items (32 * k + j) w (omega arith)) ∙ ap (λ c. holds (suc (32 * k + j)) c) e ∙ holds_items (32 * k + j) v (omega arith) in
        same_bit (get_or w k 0 / 2 ^ j) (get_or v k 0 / 2 ^ j) (rw (q, r) at b)
      where
        same_bit : (x y : ℕ) → eqb (x % 2) 1 ≡ eqb (y % 2) 1 → x % 2 ≡ y % 2
        same_bit x y e =
            by_eq (x % 2) 1
            (λ p d. p ∙ sym (eqb-true (y % 2) 1 (sym e ∙ d)))
            (λ p d. bit_number x d ∙ sym (bit_number y (sym e ∙ d)))

    word : (k : ℕ) → k < length w → get_or w k 0 ≡ get_or v k 0
    word k l = bits_equal 32 (get_or w k 0) (get_or v k 0) (hw.wide k) (hv.wide k) (λ j m. bit k j (omega (arith, hw.sixteen)) m)

-- the one record of a combination
pub record One (c w : List ℕ) : Type 0 where
  pub words : Words w
  pub means : items_of w ≡ c
  pub only : (v : List ℕ) → Words v → items_of v ≡ c → v ≡ w

pub one_record : (c : List ℕ) → Combined 512 c → One c (record_of c)
one_record c k =
    let q = record_means c k in
    let e = items_are (record_of c) c k (λ m l. q.bits m) in
    record { words = q.words; means = e; only = λ v h d. record_unique v (record_of c) h q.words (d ∙ sym e) }

-- taking an item out of a record
cut_put : (w : List ℕ) (n : ℕ) → n / 32 < length w → 2 ^ (n % 32) ≤ get_or w (n / 32) 0 → put (cut w n) n ≡ w
cut_put w n l h =
    rw (get_or-set_same w (n / 32) (get_or w (n / 32) 0 - 2 ^ (n % 32)) 0 l, set-set) (ap (λ x. set w (n / 32) x) (omega arith) ∙ set-get_or w (n / 32) 0)

-- a bit that stands lies in a word of the list
bit_inside : (w : List ℕ) (n : ℕ) → bit_at w n ≡ true → n / 32 < length w
unfolding bit_at
bit_inside w n e =
    by_lt (n / 32) (length w)
    (λ l d. l)
    (λ l d. clash e (rw (get_or-eq_default w 0 {n = n / 32} l, zero-div (2 ^ (n % 32)))))

pub items_cut : (w : List ℕ) (n : ℕ) → bit_at w n ≡ true → items_of (cut w n) ≡ remove (suc n) (items_of w)
unfolding bit_at
items_cut w n e =
    items_are (cut w n) (remove (suc n) (items_of w)) (record { falling = r.0; low = omega (arith, r.1, (items_combined w).low) }) agree
  where
    r : Falling (remove (suc n) (items_of w)) × (largest (remove (suc n) (items_of w)) ≤ largest (items_of w))
    r = remove_falling (suc n) (items_of w) (items_combined w).falling

    q : (2 ^ (n % 32) ≤ get_or w (n / 32) 0) × ((get_or w (n / 32) 0 - 2 ^ (n % 32)) / 2 ^ (n % 32) % 2 ≡ 0)
    q = clear_bit (n % 32) (get_or w (n / 32) 0) (eqb-true _ 1 e)

    off : bit_at (cut w n) n ≡ false
    off = rw (get_or-set_same w (n / 32) (get_or w (n / 32) 0 - 2 ^ (n % 32)) 0 (bit_inside w n e), q.1)

    back : (m : ℕ) → bit_at w m ≡ eqb n m || bit_at (cut w n) m
    back m = ap (λ x. bit_at x m) (sym (cut_put w n (bit_inside w n e) q.0)) ∙ bit_put (cut w n) n m (omega (arith, length-set w (n / 32) (get_or w (n / 32) 0 - 2 ^ (n % 32)), bit_inside w n e)) off

    agree : (m : ℕ) → m < 512 → bit_at (cut w n) m ≡ holds (suc m) (remove (suc n) (items_of w))
    agree m h =
        by_eq n m
        (λ p d. ap (λ k. bit_at (cut w n) k) (sym p) ∙ off ∙ sym (holds_remove (suc n) (suc m) (items_of w) (items_combined w).falling ∙ rw (eqb-suc-suc n m, d)))
        (λ p d. sym (rw d at (back m)) ∙ sym (holds_items m w h) ∙ sym (holds_remove (suc n) (suc m) (items_of w) (items_combined w).falling ∙ rw (eqb-suc-suc n m, d)))

-- a record that holds no item has no bit
pub no_items : (w : List ℕ) → length w ≡ 16 → ((k : ℕ) → k < 16 → get_or w k 0 ≡ 0) → is_none (items_of w) ≡ true
no_items w s h =
    let e : w ≡ replicate 16 0 = ext_get_or 0 w (replicate 16 0) s (λ k l. h k (omega arith) ∙ sym (blank k)) in
    rw (e, (one_record [] (record { falling = tt; low = omega arith })).means)

pub some_item : (w : List ℕ) (k : ℕ) → Words w → (get_or w k 0 ≡ 0 → ⊥) → is_none (items_of w) ≡ false
some_item w k h n = go (items_of w) refl
  where
    go : (c : List ℕ) → items_of w ≡ c → is_none c ≡ false
    go [] e = absurd (n (ap (λ v. get_or v k 0) ((one_record [] (record { falling = tt; low = omega arith })).only w h e) ∙ blank k))
    go (x ∷ c) e = refl

-- the shifted bit of the code, kept to 32 bits
pub shifted : (k : ℕ) → k < 32 → (1 * 2 ^ k) % 2 ^ 32 ≡ 2 ^ k
shifted k l = shl_exact 1 k 32 (omega arith) (omega arith) ∙ omega arith

-- an item from 1 to 512
module _ (v : ℕ) (w : List ℕ) (n : 0 < v) (l : v ≤ 512) where
  one : suc (v - 1) ≡ v
  one = omega arith

  -- its bit, and the number that the code tests for it
  pub holds_bit : holds v (items_of w) ≡ bit_at w (v - 1)
  holds_bit = ap (λ x. holds x (items_of w)) (sym one) ∙ holds_items (v - 1) w (omega arith)

  abbrev pub tested : ℕ
  tested = get_or w ((v - 1) / 32) 0 / 2 ^ ((v - 1) % 32) % 2

  pub bit_off : tested ≡ 0 → holds v (items_of w) ≡ false
  unfolding bit_at
  bit_off e = holds_bit ∙ ne_eqb tested 1 (omega arith)

  pub bit_on : (tested ≡ 0 → ⊥) → holds v (items_of w) ≡ true
  unfolding bit_at
  bit_on e = holds_bit ∙ eq-eqb tested 1 (omega arith)

  -- the code's form of taking it out
  pub removed : (tested ≡ 0 → ⊥) → items_of (set w ((v - 1) / 32) (get_or w ((v - 1) / 32) 0 - (1 * 2 ^ ((v - 1) % 32)) % 2 ^ 32)) ≡ remove v (items_of w)
  removed e = rw (shifted ((v - 1) % 32) (omega arith)) (items_cut w (v - 1) (sym holds_bit ∙ bit_on e) ∙ ap (λ x. remove x (items_of w)) one)

  -- and its difference does not go below 0
  pub bit_below : (tested ≡ 0 → ⊥) → (1 * 2 ^ ((v - 1) % 32)) % 2 ^ 32 ≤ get_or w ((v - 1) / 32) 0
  bit_below e = rw (shifted ((v - 1) % 32) (omega arith)) (clear_bit ((v - 1) % 32) (get_or w ((v - 1) / 32) 0) (omega arith)).0

-- putting an item into a record
pub items_put : (w : List ℕ) (n : ℕ) → length w ≡ 16 → n < 512 → holds (suc n) (items_of w) ≡ false → items_of (put w n) ≡ insert (suc n) (items_of w)
items_put w n s l e =
    items_are (put w n) (insert (suc n) (items_of w)) (record { falling = r.0; low = omega (arith, r.1, (items_combined w).low) }) agree
  where
    r : Falling (insert (suc n) (items_of w)) × (largest (insert (suc n) (items_of w)) ≤ max (suc n) (largest (items_of w)))
    r = insert_falling (suc n) (items_of w) (omega arith) (items_combined w).falling e

    agree : (m : ℕ) → m < 512 → bit_at (put w n) m ≡ holds (suc m) (insert (suc n) (items_of w))
    agree m h =
        bit_put w n m (omega arith) (sym (holds_items n w l) ∙ e)
        ∙ sym (holds_insert (suc n) (suc m) (items_of w) ∙ rw (eqb-suc-suc n m, holds_items m w h))

module _ (v : ℕ) (c : List ℕ) where
  pub free_zero : v ≡ 0 → is_free 512 v c ≡ false
  unfolding is_free
  free_zero e = rw (le-ltb 0 v (omega arith))

  pub free_high : 512 < v → is_free 512 v c ≡ false
  unfolding is_free
  free_high l = rw (lt-ltb 0 v (omega arith), lt-leb v 512 l)

  pub free_held : holds v c ≡ true → is_free 512 v c ≡ false
  unfolding is_free
  free_held e = by_test (ltb 0 v) (λ d. rw d (by_test (leb v 512) (λ f. rw (f, e)) (λ f. rw f))) (λ d. rw d)

  pub free_item : 0 < v → v ≤ 512 → holds v c ≡ false → is_free 512 v c ≡ true
  unfolding is_free
  free_item n l e = rw (lt-ltb 0 v n, le-leb v 512 l, e)

  pub not_including : is_free 512 v c ≡ false → including 512 v c ≡ c
  unfolding including
  not_including e = rw e

  pub is_including : is_free 512 v c ≡ true → including 512 v c ≡ insert v c
  unfolding including
  is_including e = rw e

module _ (v : ℕ) (w : List ℕ) where
  -- the code's form of putting an item in, with the shifted bit kept to 32 bits
  pub included : length w ≡ 16 → 0 < v → v ≤ 512 → holds v (items_of w) ≡ false
      → items_of (set w ((v - 1) / 32) (get_or w ((v - 1) / 32) 0 + (1 * 2 ^ ((v - 1) % 32)) % 2 ^ 32)) ≡ including 512 v (items_of w)
  included s n l e =
      let one : suc (v - 1) ≡ v = omega arith in
      rw (shifted ((v - 1) % 32) (omega arith), is_including v (items_of w) (free_item v (items_of w) n l e)) (items_put w (v - 1) s (omega arith) (ap (λ x. holds x (items_of w)) one ∙ e) ∙ ap (λ x. insert x (items_of w)) one)

  -- and its sum fits
  pub included_fits : Words w → 0 < v → v ≤ 512 → holds v (items_of w) ≡ false → get_or w ((v - 1) / 32) 0 + (1 * 2 ^ ((v - 1) % 32)) % 2 ^ 32 < 2 ^ 32
  unfolding bit_at
  included_fits h n l e =
      rw (shifted ((v - 1) % 32) (omega arith)) (set_bit_fits 32 ((v - 1) % 32) (get_or w ((v - 1) / 32) 0) (omega arith) (h.wide ((v - 1) / 32)) (bit_number _ (sym (holds_bit v w n l) ∙ e)))
