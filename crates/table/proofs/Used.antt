-- How many slots hold a number: entering adds one, and a lookup with fewer numbers than slots has an empty slot.
-- By induction on the lookup; the count is what shows that entering always finds room.
use Rattle.std.proofs.Common.{◌≡◌, ℕ, zero, suc, ◌<◌, List, [], ◌∷◌, length, get_or, set, replicate, refl, ap, arith, eq-eqb, ne_eqb}
use Rattle.words.proofs.Cases.{by_eq}
use Rattle.table.specs.Entered.{used}

pub used_none : (n : ℕ) → used (replicate n 0) ≡ 0
unfolding used
used_none zero = refl
used_none (suc n) = used_none n

pub used_set : (l : List ℕ) (s k : ℕ) → s < length l → get_or l s 0 ≡ 0 → (k ≡ 0 → ⊥) → used (set l s k) ≡ suc (used l)
unfolding used
used_set [] s k h e d = absurd (omega arith)
used_set (x ∷ l) zero k h e d = rw (ne_eqb k 0 d, eq-eqb x 0 e)
used_set (x ∷ l) (suc s) k h e d =
    let ih = used_set l s k (omega arith) e d in
    by_eq x 0 (λ p q. rw q ih) (λ p q. rw q (ap suc ih))

-- an empty slot
pub record Room (l : List ℕ) : Type 0 where
  pub slot : ℕ
  pub inside : slot < length l
  pub free : get_or l slot 0 ≡ 0

pub used_room : (l : List ℕ) → used l < length l → Room l
unfolding used
used_room [] h = absurd (omega arith)
used_room (x ∷ l) h =
    by_eq x 0 (λ p q. record { slot = 0; inside = omega arith; free = p })
    (λ p q. let r = used_room l (omega (arith, rw q at h)) in record { slot = suc r.slot; inside = omega (arith, r.inside); free = r.free })
