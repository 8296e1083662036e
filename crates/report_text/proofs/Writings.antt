-- The digits of a number are those that std writes.
-- Both put a number's last digit behind those of its tenth.
use Prim.Native.Nat.{ℕ, zero, suc, ◌+◌, ◌/◌, ◌%◌, ◌^◌, ◌≤◌, ◌<◌}
use mathlib.Core.Path.{◌≡◌, refl, sym, ◌∙◌}
use mathlib.Core.Bool.{Bool, true, false}
use mathlib.Core.List.{[], ◌∷◌, ◌++◌}
use native.Mathlib.Omega.{arith}
use lib.Dec.{ltb}
use borrow.Author.Tests.{le-ltb, ltb-false}
use Rattle.std.specs.Fmt.{decimal}
use Rattle.std.proofs.Common.{rules}
use Rattle.std.proofs.lemmas.Fmt.{decimal_digit, decimal_from_appends, length-decimal-le_succ}
use Rattle.report_text.specs.Text.{digits_from, decimal_of}

pub decimal_same : (n : ℕ) → n < 2 ^ 64 → decimal n ≡ decimal_of n
unfolding decimal_of
decimal_same n l = sym (decimal_from_appends digits_from (search rules) (suc n) n l (omega (arith, length-decimal-le_succ n l)))

pub decimal_small : (n : ℕ) → n < 10 → decimal_of n ≡ (48 + n) ∷ []
decimal_small n l = sym (decimal_same n (omega arith)) ∙ decimal_digit n l

-- how often to divide makes no difference once it is enough
enough : (j k n : ℕ) → n < j → n < k → digits_from j n ≡ digits_from k n
enough zero k n l h = absurd (omega arith)
enough (suc j) zero n l h = absurd (omega arith)
enough (suc j) (suc k) n l h = go (ltb n 10) refl (λ m. enough j k (n / 10) (omega arith) (omega arith))
  where
    go : (t : Bool) → ltb n 10 ≡ t → (10 ≤ n → digits_from j (n / 10) ≡ digits_from k (n / 10)) → digits_from (suc j) n ≡ digits_from (suc k) n
    go true e tenth = rw e
    go false e tenth = rw (e, tenth (ltb-false n 10 e))

pub decimal_more : (n : ℕ) → 10 ≤ n → decimal_of n ≡ decimal_of (n / 10) ++ ((48 + n % 10) ∷ [])
unfolding decimal_of
decimal_more n l = rw (le-ltb n 10 l, enough n (suc (n / 10)) (n / 10) (omega arith) (omega arith))
