-- Cases on a test of two numbers, with what it says and its value as an equation. Each is the two values of a Bool.
use Prim.Native.Nat.{ℕ, ◌≤◌, ◌<◌}
use mathlib.Core.Path.{◌≡◌, refl}
use mathlib.Core.Bool.{Bool, true, false, ◌&&◌}
use lib.Dec.{eqb, ltb}
use native.Mathlib.Omega.{arith}
use borrow.Author.Tests.{eqb-true, eqb-false, ltb-true, ltb-false, ne_eqb}

pub by_test {ℓ} : {A : Type ℓ} (b : Bool) → (b ≡ true → A) → (b ≡ false → A) → A
by_test true p q = p refl
by_test false p q = q refl

pub by_eq {ℓ} : {A : Type ℓ} (m n : ℕ) → (m ≡ n → eqb m n ≡ true → A) → ((m ≡ n → ⊥) → eqb m n ≡ false → A) → A
by_eq m n p q = by_test (eqb m n) (λ e. p (eqb-true m n e) e) (λ e. q (eqb-false m n e) e)

pub by_lt {ℓ} : {A : Type ℓ} (m n : ℕ) → (m < n → ltb m n ≡ true → A) → (n ≤ m → ltb m n ≡ false → A) → A
by_lt m n p q = by_test (ltb m n) (λ e. p (ltb-true m n e) e) (λ e. q (ltb-false m n e) e)

pub by_order {ℓ} : {A : Type ℓ} (m n : ℕ) → (m < n → ltb m n ≡ true → eqb m n ≡ false → A)
    → (m ≡ n → ltb m n ≡ false → eqb m n ≡ true → A) → (n < m → ltb m n ≡ false → eqb m n ≡ false → A) → A
by_order m n p q r =
    by_lt m n (λ h e. p h e (ne_eqb m n (omega arith)))
    (λ h e. by_eq m n (λ k d. q k e d) (λ k d. r (omega arith) e d))

-- a test that is both
pub clash {ℓ} : {A : Type ℓ} {b : Bool} → b ≡ true → b ≡ false → A
clash p q = absurd (let z : ◌≡◌ {A = ℕ} 0 1 = cc in omega arith)

-- both halves of a test
pub and_inv {ℓ} : {P : Type ℓ} (a b : Bool) → a && b ≡ true → (a ≡ true → b ≡ true → P) → P
and_inv true b e f = f refl e
and_inv false b e f = clash e refl
