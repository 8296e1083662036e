-- The bits of a number: setting one that is 0 changes that bit alone, a bit that is 1 can be taken off again, and two
-- numbers with equal bits are equal.
-- Each is an induction on the bit's place, halving the number at each step.
use Prim.Native.Nat.{ℕ, zero, suc, ◌+◌, ◌-◌, ◌/◌, ◌%◌, ◌^◌, ◌≤◌, ◌<◌}
use mathlib.Core.Path.{◌≡◌, sym, ap, ◌∙◌}
use mathlib.Core.Bool.{cond}
use native.Mathlib.Numerals.{one-add}
use native.Mathlib.Omega.{arith}
use lib.Dec.{eqb, eqb-zero-suc, eqb-suc-zero, eqb-suc-suc}
use lib.Pow.{shr-shr}

-- bit j + 1 is bit j of the half
pub shift_half : (x j : ℕ) → x / 2 ^ suc j ≡ x / 2 / 2 ^ j
shift_half x j = ap (λ k. x / 2 ^ k) (sym (one-add j)) ∙ sym (shr-shr x 1 j)

pub set_bit : (i j x : ℕ) → x / 2 ^ i % 2 ≡ 0 → (x + 2 ^ i) / 2 ^ j % 2 ≡ cond (eqb i j) 1 (x / 2 ^ j % 2)
set_bit zero zero x h = omega arith
set_bit zero (suc j) x h =
    rw (eqb-zero-suc j, shift_half (x + 2 ^ 0) j, shift_half x j) (ap (λ y. y / 2 ^ j % 2) (omega arith))
set_bit (suc i) zero x h = rw (eqb-suc-zero i) (omega arith)
set_bit (suc i) (suc j) x h =
    let e : (x + 2 ^ suc i) / 2 ≡ x / 2 + 2 ^ i = omega arith in
    rw (eqb-suc-suc i j, shift_half (x + 2 ^ suc i) j, shift_half x j, e) (set_bit i j (x / 2) (rw shift_half at h))

pub set_bit_fits : (n i x : ℕ) → i < n → x < 2 ^ n → x / 2 ^ i % 2 ≡ 0 → x + 2 ^ i < 2 ^ n
set_bit_fits zero i x l h e = absurd (omega arith)
set_bit_fits (suc n) zero x l h e = omega arith
set_bit_fits (suc n) (suc i) x l h e = omega (arith, set_bit_fits n i (x / 2) (omega arith) (omega arith) (rw shift_half at e))

-- a bit that stands can be taken off, and is 0 then
pub clear_bit : (i x : ℕ) → x / 2 ^ i % 2 ≡ 1 → (2 ^ i ≤ x) × ((x - 2 ^ i) / 2 ^ i % 2 ≡ 0)
clear_bit zero x h = (omega arith, omega arith)
clear_bit (suc i) x h =
    let q = clear_bit i (x / 2) (rw shift_half at h) in
    let e : (x - 2 ^ suc i) / 2 ≡ x / 2 - 2 ^ i = omega arith in
    (omega arith, rw (shift_half (x - 2 ^ suc i) i, e) q.1)

pub bits_equal : (n x y : ℕ) → x < 2 ^ n → y < 2 ^ n → ((j : ℕ) → j < n → x / 2 ^ j % 2 ≡ y / 2 ^ j % 2) → x ≡ y
bits_equal zero x y h k f = omega arith
bits_equal (suc n) x y h k f =
    omega (arith, f 0 (omega arith), bits_equal n (x / 2) (y / 2) (omega arith) (omega arith) (λ j l. sym (ap (λ z. z % 2) (shift_half x j)) ∙ f (suc j) (omega arith) ∙ ap (λ z. z % 2) (shift_half y j)))
