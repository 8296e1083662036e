-- Kept numbers: each way out of a sum and of a product, and what a word says of the number that it keeps.
-- A sum or a product that fits a word is made of numbers that do; a weight of 0 is tested before a number is looked at.
use Prim.Native.Nat.{ℕ, ◌+◌, ◌*◌, ◌^◌, ◌≤◌, ◌<◌, min}
use mathlib.Core.Path.{◌≡◌, refl, sym}
use mathlib.Core.Bool.{Bool}
use native.Mathlib.Omega.{arith}
use native.Mathlib.Nat.{zero-mul, mul_comm, le-mul_of_pos_right}
use lib.Dec.{ltb}
use borrow.Author.Tests.{lt-ltb, le-ltb}
use Rattle.std.specs.Prelude.{Option, None, Some, SomeIff, is_none, unwrap_or}
use Rattle.words.specs.Words.{most}
use Rattle.words.proofs.Cases.{by_lt}
use Rattle.query_sums.specs.Inner.{Keeps, Added, Multiplied, Told}

-- a kept number by its word and its mark
pub kept_low : (x : ℕ) (k : Option ℕ) → Keeps x k → unwrap_or k most ≡ min x most
kept_low x None K = omega (arith, by_lt most x (λ l d. l) (λ l d. absurd (K.is l)))
kept_low x (Some y) K = omega (arith, K.is.0, K.is.1)

pub kept_mark : (x : ℕ) (k : Option ℕ) → Keeps x k → is_none k ≡ ltb most x
kept_mark x None K = sym (lt-ltb most x (by_lt most x (λ l d. l) (λ l d. absurd (K.is l))))
kept_mark x (Some y) K = sym (le-ltb most x K.is.0)

module _ (a b r : Option ℕ) where
  pub added_first : a ≡ None → r ≡ None → Added a b r
  added_first e q = rw (e, q) (record { is = λ x y K L. record { is = λ l. K.is (omega arith) } })

  pub added_second : b ≡ None → r ≡ None → Added a b r
  added_second e q = rw (e, q) (record { is = λ x y K L. record { is = λ l. L.is (omega arith) } })

  pub added_both : (m n : ℕ) → a ≡ Some m → b ≡ Some n → SomeIff r (m + n < 2 ^ 64) (m + n) → Added a b r
  added_both m n d e f = rw (d, e) (both r f)
    where
      both : (r : Option ℕ) → SomeIff r (m + n < 2 ^ 64) (m + n) → Added (Some m) (Some n) r
      both None f = record { is = λ x y K L. record { is = λ l. f (omega (arith, K.is.1, L.is.1)) } }
      both (Some s) f = record { is = λ x y K L. record { is = (omega (arith, f.0, K.is.1, L.is.1), omega (arith, f.1, K.is.1, L.is.1)) } }

module _ (k : ℕ) (a r : Option ℕ) where
  pub times_none : k ≡ 0 → r ≡ Some 0 → Multiplied k a r
  times_none e q = record { is = λ x K. rw (e, q, zero-mul x) (record { is = (omega arith, refl) }) }

  pub times_above : (k ≡ 0 → ⊥) → a ≡ None → r ≡ None → Multiplied k a r
  times_above n e q =
      rw (e, q)
      (record { is = λ x K. record { is = λ l. K.is (let m : x ≤ k * x = rw (mul_comm k x) (le-mul_of_pos_right {m = k} x (omega arith)) in omega arith) } })

  pub times_both : (m : ℕ) → a ≡ Some m → SomeIff r (k * m < 2 ^ 64) (k * m) → Multiplied k a r
  times_both m e f = rw e (both r f)
    where
      both : (r : Option ℕ) → SomeIff r (k * m < 2 ^ 64) (k * m) → Multiplied k (Some m) r
      both None f = record { is = λ x K. record { is = λ l. f (rw K.is.1 (omega arith)) } }
      both (Some s) f = record { is = λ x K. rw (sym K.is.1) (record { is = (omega (arith, f.0), f.1) }) }

-- the number of a word and its mark
pub told_below : (word : ℕ) (above : Bool) → word < most → Told word above (Some word)
told_below word above l = record { brim = λ m. absurd (omega arith); below = λ m. refl }

pub told_keeps : (word : ℕ) (above : Bool) (r : Option ℕ) (x : ℕ) → word ≡ min x most → (word ≡ most → above ≡ ltb most x) → Told word above r → Keeps x r
told_keeps word above r x e m T =
    by_lt word most
    (λ l d. rw (T.below l) (record { is = (omega arith, omega arith) }))
    (λ l d. rw (T.brim l, m (omega arith)) (by_lt most x (λ h c. rw c (record { is = λ g. omega arith })) (λ h c. rw c (record { is = (h, omega arith) }))))
