-- A part of some words set to 0, word by word: what stands inside and outside the part, and one word more.
-- Each is read off the three pieces that the definition joins.
use Prim.Native.Nat.{ℕ, ◌+◌, ◌-◌, ◌≤◌, ◌<◌}
use mathlib.Core.Path.{◌≡◌, sym, ap, ◌∙◌}
use mathlib.Core.List.{List, ◌++◌}
use native.Mathlib.Omega.{arith}
use lib.ListN.{length, get_or, take, drop, set, replicate, length-append, length-drop, length-replicate, get_or-replicate, length-set, take-append-drop, get_or-append, get_or-eq_default}
use lib.Seq.{length-take-le, get_or-take, get_or-drop, get_or-append-add, get_or-set_same, get_or-set_other, ext_get_or}
use Rattle.words.specs.Words.{zeroed}
use Rattle.words.proofs.Cases.{by_eq, by_lt}

-- words that agree from a place on
pub rest_drop : (n : ℕ) (l l' : List ℕ) → length l' ≡ length l → ((k : ℕ) → n ≤ k → get_or l' k 0 ≡ get_or l k 0) → drop n l' ≡ drop n l
rest_drop n l l' e h =
    ext_get_or 0 (drop n l') (drop n l) (length-drop n l' ∙ ap (λ k. k - n) e ∙ sym (length-drop n l)) (λ k m. get_or-drop n l' k 0 ∙ h (n + k) (omega arith) ∙ sym (get_or-drop n l k 0))

get_d_past : (l r : List ℕ) (k : ℕ) → length l ≤ k → get_or (l ++ r) k 0 ≡ get_or r (k - length l) 0
get_d_past l r k h = let e : length l + (k - length l) ≡ k = omega arith in ap (λ j. get_or (l ++ r) j 0) (sym e) ∙ get_or-append-add l r (k - length l) 0

pub zeros_length : (n : ℕ) → length {A = ℕ} (replicate n 0) ≡ n
zeros_length n = length-replicate {A = ℕ} n 0

pub zero_get_d : (n k : ℕ) → ◌≡◌ {A = ℕ} (get_or (replicate n 0) k 0) 0
zero_get_d n k =
    by_lt k n (λ h e. get_or-replicate n k 0 0 h) (λ h e. get_or-eq_default (replicate n 0) 0 {n = k} (omega (arith, zeros_length n)))

module _ (a e : ℕ) (l : List ℕ) (ordered : a ≤ e) (inside : e ≤ length l) where
  front : length (take a l) ≡ a
  front = length-take-le a l (omega arith)

  pub zeroed_length : length (zeroed a e l) ≡ length l
  unfolding zeroed
  zeroed_length = rw (length-append, length-append) (omega (arith, front, zeros_length (e - a), length-drop e l))

  pub zeroed_before : (k : ℕ) → k < a → get_or (zeroed a e l) k 0 ≡ get_or l k 0
  unfolding zeroed
  zeroed_before k h = get_or-append (take a l) _ 0 k (omega (arith, front)) ∙ get_or-take a l k 0 h

  pub zeroed_inside : (k : ℕ) → a ≤ k → k < e → get_or (zeroed a e l) k 0 ≡ 0
  unfolding zeroed
  zeroed_inside k g h =
      get_d_past (take a l) (replicate (e - a) 0 ++ drop e l) k (omega (arith, front))
      ∙ get_or-append (replicate (e - a) 0) (drop e l) 0 (k - length (take a l)) (omega (arith, front, zeros_length (e - a)))
      ∙ zero_get_d (e - a) (k - length (take a l))

  pub zeroed_after : (k : ℕ) → e ≤ k → get_or (zeroed a e l) k 0 ≡ get_or l k 0
  unfolding zeroed
  zeroed_after k g =
      get_d_past (take a l) (replicate (e - a) 0 ++ drop e l) k (omega (arith, front))
      ∙ get_d_past (replicate (e - a) 0) (drop e l) (k - length (take a l)) (omega (arith, front, zeros_length (e - a)))
      ∙ get_or-drop e l (k - length (take a l) - length (replicate (e - a) 0)) 0
      ∙ ap (λ j. get_or l j 0) (omega (arith, front, zeros_length (e - a)))

  pub zeroed_drop : drop e (zeroed a e l) ≡ drop e l
  zeroed_drop = rest_drop e l (zeroed a e l) zeroed_length zeroed_after

pub zeroed_none : (a : ℕ) (l : List ℕ) → zeroed a a l ≡ l
unfolding zeroed
zeroed_none a l = let e : a - a ≡ 0 = omega arith in rw e (take-append-drop a l)

pub zeroed_more : (a e : ℕ) (l : List ℕ) → a ≤ e → e < length l → set (zeroed a e l) e 0 ≡ zeroed a (e + 1) l
zeroed_more a e l h g =
    ext_get_or 0 (set (zeroed a e l) e 0) (zeroed a (e + 1) l) (length-set (zeroed a e l) e 0 ∙ zeroed_length a e l h (omega arith) ∙ sym (zeroed_length a (e + 1) l (omega arith) (omega arith))) word
  where
    word : (k : ℕ) → k < length (set (zeroed a e l) e 0) → get_or (set (zeroed a e l) e 0) k 0 ≡ get_or (zeroed a (e + 1) l) k 0
    word k lt =
        by_eq k e
        (λ p d. rw p (get_or-set_same (zeroed a e l) e 0 0 (omega (arith, zeroed_length a e l h (omega arith))) ∙ sym (zeroed_inside a (e + 1) l (omega arith) (omega arith) e h (omega arith))))
        (λ p d. get_or-set_other (zeroed a e l) e k 0 0 p
        ∙ by_lt k a
        (λ q c. zeroed_before a e l h (omega arith) k q ∙ sym (zeroed_before a (e + 1) l (omega arith) (omega arith) k q))
        (λ q c. by_lt k e
        (λ r b. zeroed_inside a e l h (omega arith) k q r ∙ sym (zeroed_inside a (e + 1) l (omega arith) (omega arith) k q (omega arith)))
        (λ r b. zeroed_after a e l h (omega arith) k r ∙ sym (zeroed_after a (e + 1) l (omega arith) (omega arith) k (omega arith)))))
