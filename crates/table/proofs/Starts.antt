-- The start slot: wrapping at each step is wrapping once, and the result is a slot.
-- A multiple of a wrapped number differs from the multiple of the number by a multiple of 2^32.
use Rattle.std.proofs.Common.{◌≡◌, ℕ, ◌+◌, ◌*◌, ◌/◌, ◌%◌, ◌^◌, ◌<◌, sym, ap, ◌∙◌, mod-lt, arith}
use native.Mathlib.Nat.{add-mod-mod, add-mul-mod_self_left}
use Rattle.table.specs.Start.{mix_of, start_of}

times_wrapped : (m n : ℕ) → (m + n % 2 ^ 32 * 65599) % 2 ^ 32 ≡ (m + n * 65599) % 2 ^ 32
times_wrapped m n =
    let e : m + n * 65599 ≡ (m + n % 2 ^ 32 * 65599) + 2 ^ 32 * (n / 2 ^ 32 * 65599) = omega arith in
    sym (ap (λ k. k % 2 ^ 32) e ∙ add-mul-mod_self_left (m + n % 2 ^ 32 * 65599) (2 ^ 32) (n / 2 ^ 32 * 65599))

pub wrapped : (m z o : ℕ) → (m + (z + o * 65599 % 2 ^ 32) % 2 ^ 32 * 65599 % 2 ^ 32) % 2 ^ 32 ≡ (m + 65599 * (z + 65599 * o)) % 2 ^ 32
wrapped m z o =
    add-mod-mod m ((z + o * 65599 % 2 ^ 32) % 2 ^ 32 * 65599) (2 ^ 32)
    ∙ times_wrapped m (z + o * 65599 % 2 ^ 32)
    ∙ ap (λ k. k % 2 ^ 32) inner
    ∙ times_wrapped (m + z * 65599) (o * 65599)
    ∙ ap (λ k. k % 2 ^ 32) outer
  where
    inner : m + (z + o * 65599 % 2 ^ 32) * 65599 ≡ m + z * 65599 + o * 65599 % 2 ^ 32 * 65599
    inner = omega arith

    outer : m + z * 65599 + o * 65599 * 65599 ≡ m + 65599 * (z + 65599 * o)
    outer = omega arith

pub start_lt : (item z o len : ℕ) → 0 < len → start_of item z o len < len
unfolding start_of
start_lt item z o len h = mod-lt ((mix_of item + 65599 * (z + 65599 * o)) % 2 ^ 32) h

-- the start slot from its wrapped steps
pub start_steps : (item z o len : ℕ) → (mix_of item + (z + o * 65599 % 2 ^ 32) % 2 ^ 32 * 65599 % 2 ^ 32) % 2 ^ 32 % len ≡ start_of item z o len
unfolding start_of
start_steps item z o len = ap (λ n. n % len) (wrapped (mix_of item) z o)
