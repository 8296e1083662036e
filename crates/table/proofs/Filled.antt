-- The lookup of n nodes holds each number once, at the slot where it was entered, and nothing else.
-- By induction on n: entering takes a slot that was empty, so it moves no earlier number, and emptying it again gives
-- the lookup of one node less.
use Rattle.std.proofs.Common.{◌≡◌, ℕ, zero, suc, ◌+◌, ◌<◌, ◌≤◌, Bool, true, ◌⊎◌, List, length, get_or, set, sym, refl, ap, ◌∙◌, subst, inl, inr, ⊎_elim, arith, length-set, get_or-set_other, get_or-set_same, set-set, eq-eqb, eqb-true}
use lib.Seq.{set-get_or}
use Rattle.words.proofs.Cases.{by_eq}
use Rattle.words.proofs.Zeroed.{zeros_length, zero_get_d}
use Rattle.table.specs.Probe.{scan}
use Rattle.table.specs.Entered.{empty_slot, first_free, entered, used}
use Rattle.table.proofs.Scan.{scan_sound, scan_found, scan_refine}
use Rattle.table.proofs.Used.{used_none, used_set, used_room}

-- the slot at which number k + 2 is entered
abbrev pub slot_at : (ℕ → ℕ) → ℕ → ℕ → ℕ
slot_at starts len k = first_free (entered starts len k) (starts k)

-- in a lookup with room, the first empty slot is a slot and is empty
pub first_free_lem : (l : List ℕ) (start : ℕ) → start < length l → used l < length l → (first_free l start < length l) × (get_or l (first_free l start) 0 ≡ 0)
unfolding first_free
first_free_lem l start h u =
    let r = used_room l u in
    let s = scan_found (empty_slot l) (length l) start r.slot h r.inside (eq-eqb (get_or l r.slot 0) 0 r.free) in
    (s, eqb-true (get_or l (scan (empty_slot l) (length l) (length l) start) 0) 0 (scan_sound (empty_slot l) (length l) (length l) start s))

pub length_entered : (starts : ℕ → ℕ) (len n : ℕ) → length (entered starts len n) ≡ len
unfolding entered
length_entered starts len zero = zeros_length len
length_entered starts len (suc n) = length-set (entered starts len n) (slot_at starts len n) (n + 2) ∙ length_entered starts len n

-- the lookup of n nodes hangs on the start slots of these alone
pub entered_ext : (starts other : ℕ → ℕ) (len n : ℕ) → ((k : ℕ) → k < n → starts k ≡ other k) → entered starts len n ≡ entered other len n
unfolding entered
entered_ext starts other len zero e = refl
entered_ext starts other len (suc n) e = rw (entered_ext starts other len n (λ k h. e k (omega arith)), e n (omega arith))

-- slot x holds number k + 2 of n, at the slot where that was entered
pub record Number (starts : ℕ → ℕ) (len n x : ℕ) : Type 0 where
  pub k : ℕ
  pub below : k < n
  pub slot : x ≡ slot_at starts len k
  pub is : get_or (entered starts len n) x 0 ≡ k + 2

module _ (starts : ℕ → ℕ) (len : ℕ) (inside : (k : ℕ) → starts k < len) where
  room_of : (n : ℕ) → n < len → used (entered starts len n) ≡ n → (slot_at starts len n < len) × (get_or (entered starts len n) (slot_at starts len n) 0 ≡ 0)
  room_of n h u =
      let r = first_free_lem (entered starts len n) (starts n) (rw length_entered (inside n)) (rw (length_entered, u) h) in
      (rw length_entered at r.0, r.1)

  pub filled : (n : ℕ) → n ≤ len → used (entered starts len n) ≡ n
  unfolding entered
  filled zero h = used_none len
  filled (suc n) h =
      let ih = filled n (omega arith) in
      let r = room_of n h ih in
      used_set (entered starts len n) (slot_at starts len n) (n + 2) (rw length_entered r.0) r.1 (omega arith) ∙ ap suc ih

  pub slot_lt : (n : ℕ) → n < len → slot_at starts len n < len
  slot_lt n h = (room_of n h (filled n (omega arith))).0

  pub slot_empty : (n : ℕ) → n < len → get_or (entered starts len n) (slot_at starts len n) 0 ≡ 0
  slot_empty n h = (room_of n h (filled n (omega arith))).1

  -- entering and emptying
  pub clear : (n : ℕ) → n < len → set (entered starts len (suc n)) (slot_at starts len n) 0 ≡ entered starts len n
  unfolding entered
  clear n h =
      set-set (entered starts len n) (slot_at starts len n) (n + 2) 0
      ∙ ap (set (entered starts len n) (slot_at starts len n)) (sym (slot_empty n h))
      ∙ set-get_or (entered starts len n) (slot_at starts len n) 0

  -- number k + 2 stands at its slot
  pub holds : (n k : ℕ) → k < n → n ≤ len → get_or (entered starts len n) (slot_at starts len k) 0 ≡ k + 2
  unfolding entered
  holds zero k h g = absurd (omega arith)
  holds (suc n) k h g =
      by_eq k n
      (λ p e. rw p (get_or-set_same (entered starts len n) (slot_at starts len n) (n + 2) 0 (rw length_entered (slot_lt n g))))
      (λ p e.
      let ih = holds n k (omega arith) (omega arith) in
      get_or-set_other (entered starts len n) (slot_at starts len n) (slot_at starts len k) (n + 2) 0
      (λ q. omega (arith, ih, slot_empty n g, ap (λ x. get_or (entered starts len n) x 0) q))
      ∙ ih)

  -- a slot is empty, or a number's
  pub only : (n x : ℕ) → n ≤ len → (get_or (entered starts len n) x 0 ≡ 0) ⊎ Number starts len n x
  unfolding entered
  only zero x g = inl (zero_get_d len x)
  only (suc n) x g =
      let l = entered starts len n in
      by_eq x (slot_at starts len n)
      (λ p e. inr (record { k = n; below = omega arith; slot = p; is = rw p (get_or-set_same l (slot_at starts len n) (n + 2) 0 (rw length_entered (slot_lt n g))) }))
      (λ p e.
      let s = get_or-set_other l (slot_at starts len n) x (n + 2) 0 p in
      ⊎_elim (λ z. inl (s ∙ z)) (λ r. inr (record { k = r.k; below = omega (arith, r.below); slot = r.slot; is = s ∙ r.is })) (only n x (omega arith)))

  -- what is empty later was empty before
  pub earlier : (m n x : ℕ) → m ≤ n → n ≤ len → get_or (entered starts len n) x 0 ≡ 0 → get_or (entered starts len m) x 0 ≡ 0
  earlier m n x h g e =
      ⊎_elim (λ z. z)
      (λ r. absurd (omega (arith, holds n r.k (omega (arith, r.below)) g, ap (λ y. get_or (entered starts len n) y 0) r.slot)))
      (only m x (omega arith))

  slot_scan : (k : ℕ) → slot_at starts len k ≡ scan (empty_slot (entered starts len k)) len len (starts k)
  unfolding first_free
  slot_scan k = ap (λ m. scan (empty_slot (entered starts len k)) m m (starts k)) (length_entered starts len k)

  -- a search that stops at number k's slot, and else only where the lookup was empty when k was entered, finds it
  pub finds : (stop : ℕ → Bool) (k : ℕ) → stop (slot_at starts len k) ≡ true
      → ((x : ℕ) → x < len → stop x ≡ true → get_or (entered starts len k) x 0 ≡ 0) → scan stop len len (starts k) ≡ slot_at starts len k
  finds stop k e f =
      scan_refine (empty_slot (entered starts len k)) stop len len (starts k) (inside k)
      (λ x g s. eq-eqb (get_or (entered starts len k) x 0) 0 (f x g s))
      (subst (λ y. stop y ≡ true) (slot_scan k) e)
      ∙ sym (slot_scan k)
