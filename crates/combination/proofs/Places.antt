-- What the code does at an item's place is what the combination says of the item; a number that is no item is in none.
-- The place's bit is the one that the definition reads, and setting a bit that stands changes no word.
use Rattle.std.proofs.Common.{◌≡◌, ℕ, ◌+◌, ◌-◌, ◌*◌, ◌/◌, ◌%◌, ◌^◌, ◌<◌, Bool, true, false, eqb, ◌⊎◌, List, length, get_or, set, bit_and, bit_or, MatchBool, refl, sym, ⊎_elim, ◌∙◌, arith, eqb-true}
use Rattle.std.proofs.lemmas.Bool.{eqb-false}
use Rattle.std.specs.List.{AllWithin, HoldsAt}
use Rattle.std.specs.Int.Bits.{or_add_and}
use Rattle.std.specs.Int.{w32, bit_not}
use Rattle.std.proofs.lemmas.Nat.{one_shl, pow_below, and-not, and_comm}
use Rattle.std.proofs.lemmas.Nat.Bits.{and_pow}
use lib.Seq.{set-get_or}
use Rattle.family.specs.Combination.{holds, including, remove, is_none, Words, bit_at, items_of}
use Rattle.family.proofs.Falling.{remove_absent}
use Rattle.family.proofs.Words.{holds_outside, holds_none, holds_bit, removed, free_zero, free_high, free_held, not_including, included, no_items, some_item}
use Rattle.combination.specs.Place.{StandsAt}

module _ (item : ℕ) (w : List ℕ) where
  -- what a number that is no item changes
  module _ (none : (item ≡ 0) ⊎ (512 < item)) where
    pub outside : holds item (items_of w) ≡ false
    outside = ⊎_elim (λ e. rw e (holds_none w)) (λ l. holds_outside item w l) none

    pub stays_out : items_of w ≡ remove item (items_of w)
    stays_out = sym (remove_absent item (items_of w) outside)

    pub stays_in : items_of w ≡ including 512 item (items_of w)
    stays_in = sym (not_including item (items_of w) (⊎_elim (λ e. free_zero item (items_of w) e) (λ l. free_high item (items_of w) l) none))

  module _ (word bit : ℕ) (p : StandsAt item word bit) where
    pub held_at : eqb (get_or w word 0 / 2 ^ bit % 2) 1 ≡ holds item (items_of w)
    unfolding bit_at
    held_at = rw (p.word_is, p.bit_is) (sym (holds_bit item w p.some p.low))

    flag : 1 * 2 ^ bit % 2 ^ 32 ≡ 2 ^ bit
    flag = one_shl bit 32 (omega (arith, p.bit_is))

    -- setting the bit of a word: where it stands the word stays, else it grows by the bit
    stands : get_or w word 0 / 2 ^ bit % 2 ≡ 1 → bit_or (get_or w word 0) (1 * 2 ^ bit % 2 ^ 32) ≡ get_or w word 0
    stands e =
        let a : bit_and (get_or w word 0) (2 ^ bit) ≡ 1 * 2 ^ bit = rw e at (and_pow (get_or w word 0) bit) in
        rw flag (omega (arith, or_add_and (get_or w word 0) (2 ^ bit)))

    grows : get_or w word 0 / 2 ^ bit % 2 ≡ 0 → bit_or (get_or w word 0) (1 * 2 ^ bit % 2 ^ 32) ≡ get_or w word 0 + 1 * 2 ^ bit % 2 ^ 32
    grows e =
        let a : bit_and (get_or w word 0) (2 ^ bit) ≡ 0 * 2 ^ bit = rw e at (and_pow (get_or w word 0) bit) in
        rw flag (omega (arith, or_add_and (get_or w word 0) (2 ^ bit)))

    pub in_at : length w ≡ 16 → items_of (set w word (bit_or (get_or w word 0) (1 * 2 ^ bit % 2 ^ 32))) ≡ including 512 item (items_of w)
    in_at s = cases (holds item (items_of w)) refl
      where
        cases : (b : Bool) → holds item (items_of w) ≡ b
            → items_of (set w word (bit_or (get_or w word 0) (1 * 2 ^ bit % 2 ^ 32))) ≡ including 512 item (items_of w)
        cases true e =
            rw (stands (eqb-true _ 1 (held_at ∙ e)), set-get_or w word 0, not_including item (items_of w) (free_held item (items_of w) e))
        cases false e =
            let d : get_or w word 0 / 2 ^ bit % 2 ≡ 1 → ⊥ = eqb-false _ 1 (held_at ∙ e) in
            rw (grows (omega arith), p.word_is, p.bit_is) (included item w s p.some p.low e)

    -- clearing it: where it stands the word loses the bit, else it stays
    low : get_or w word 0 < 2 ^ 32 → bit_and (get_or w word 0) (bit_not w32 (1 * 2 ^ bit % 2 ^ 32)) + bit_and (get_or w word 0) (2 ^ bit) ≡ get_or w word 0
    low l =
        let f : 2 ^ bit < 2 ^ 32 = pow_below bit 32 (omega (arith, p.bit_is)) in
        rw (flag, and_comm (get_or w word 0) (bit_not w32 (2 ^ bit)), and_comm (get_or w word 0) (2 ^ bit)) (and-not 32 (2 ^ bit) (get_or w word 0) f l)

    pub out_at : get_or w word 0 < 2 ^ 32 → items_of (set w word (bit_and (get_or w word 0) (bit_not w32 (1 * 2 ^ bit % 2 ^ 32)))) ≡ remove item (items_of w)
    out_at l = cases (holds item (items_of w)) refl
      where
        cases : (b : Bool) → holds item (items_of w) ≡ b
            → items_of (set w word (bit_and (get_or w word 0) (bit_not w32 (1 * 2 ^ bit % 2 ^ 32)))) ≡ remove item (items_of w)
        cases true e =
            let one : get_or w word 0 / 2 ^ bit % 2 ≡ 1 = eqb-true _ 1 (held_at ∙ e) in
            let a : bit_and (get_or w word 0) (2 ^ bit) ≡ 1 * 2 ^ bit = rw one at (and_pow (get_or w word 0) bit) in
            let n : bit_and (get_or w word 0) (bit_not w32 (1 * 2 ^ bit % 2 ^ 32)) ≡ get_or w word 0 - 1 * 2 ^ bit % 2 ^ 32 = omega (arith, low l, flag) in
            let c : get_or w word 0 / 2 ^ bit % 2 ≡ 0 → ⊥ = λ z. omega arith in
            let d : get_or w ((item - 1) / 32) 0 / 2 ^ ((item - 1) % 32) % 2 ≡ 0 → ⊥ = rw (p.word_is, p.bit_is) at c in
            rw (n, p.word_is, p.bit_is) (removed item w p.some p.low d)
        cases false e =
            let one : get_or w word 0 / 2 ^ bit % 2 ≡ 1 → ⊥ = eqb-false _ 1 (held_at ∙ e) in
            let z : get_or w word 0 / 2 ^ bit % 2 ≡ 0 = omega arith in
            let a : bit_and (get_or w word 0) (2 ^ bit) ≡ 0 * 2 ^ bit = rw z at (and_pow (get_or w word 0) bit) in
            let n : bit_and (get_or w word 0) (bit_not w32 (1 * 2 ^ bit % 2 ^ 32)) ≡ get_or w word 0 = omega (arith, low l) in
            rw (n, set-get_or w word 0) (sym (remove_absent item (items_of w) e))

-- a record of words holds no item exactly when every word is 0
pub empty_is : (r : Bool) (w : List ℕ) → Words w
    → MatchBool r (AllWithin (λ (x : ℕ). x ≡ 0) w 0 (length w)) ((k : ℕ) × (k < length w) × HoldsAt (λ (x : ℕ). x ≡ 0 → ⊥) w k) → r ≡ is_none (items_of w)
empty_is true w h all = sym (no_items w h.sixteen (λ k l. all k 0 (omega arith) (omega (arith, h.sixteen))))
empty_is false w h (k, l, d) = sym (some_item w k h (d 0))
