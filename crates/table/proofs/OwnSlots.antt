-- A node's own slot is the slot where it was entered, so emptying the slots of the newest nodes gives the lookup of
-- the first ones again.
-- Among the nodes before it no node has its words, and a number from its own on stops the search.
use Rattle.std.proofs.Common.{◌≡◌, ℕ, zero, suc, ◌+◌, ◌-◌, ◌*◌, ◌<◌, ◌≤◌, ◌⊎◌, List, length, get_or, set, sym, refl, ap, ◌∙◌, inl, inr, arith, length-set, le-ltb, lt-ltb}
use lib.Seq.{set_out}
use Rattle.table.specs.Probe.{StopsAt, probe_of}
use Rattle.table.specs.Entered.{entered, start_at}
use Rattle.table.specs.Own.{own_of, cleared}
use Rattle.table.proofs.Stops.{Has}
use Rattle.table.proofs.Filled.{slot_at, clear}
use Rattle.table.proofs.Found.{starts_in, found}

module _ (nodes lookup : List ℕ) (k : ℕ) where
  pub own_none : (get_or nodes (3 * k) 0 < 1) ⊎ ((1 ≤ get_or nodes (3 * k) 0) × (512 < get_or nodes (3 * k) 0)) → own_of nodes lookup k ≡ length lookup
  unfolding own_of
  own_none (inl h) = rw (lt-ltb (get_or nodes (3 * k) 0) 1 h)
  own_none (inr h) = rw (le-ltb (get_or nodes (3 * k) 0) 1 h.0, lt-ltb 512 (get_or nodes (3 * k) 0) h.1)

  pub own_search : 1 ≤ get_or nodes (3 * k) 0 → get_or nodes (3 * k) 0 ≤ 512
      → own_of nodes lookup k ≡ probe_of nodes lookup k (get_or nodes (3 * k) 0) (get_or nodes (3 * k + 1) 0) (get_or nodes (3 * k + 2) 0)
  unfolding own_of
  own_search h g = rw (le-ltb (get_or nodes (3 * k) 0) 1 h, le-ltb 512 (get_or nodes (3 * k) 0) g)

-- one node taken out, as a loop that counts down has it
cleared_step : (nodes lookup : List ℕ) (keep k : ℕ) → keep < k
    → cleared nodes (set lookup (own_of nodes lookup (k - 1)) 0) keep (k - 1 - keep) ≡ cleared nodes lookup keep (k - keep)
unfolding cleared
cleared_step nodes lookup keep k h =
    let e : k - keep ≡ suc (k - 1 - keep) = omega arith in
    let f : keep + (k - 1 - keep) ≡ k - 1 = omega arith in
    ap (λ j. cleared nodes (set lookup (own_of nodes lookup j) 0) keep (k - 1 - keep)) (sym f) ∙ ap (cleared nodes lookup keep) (sym e)

-- the slot that its search gives is emptied
pub cleared_some : (nodes lookup : List ℕ) (keep k slot : ℕ) → keep < k → StopsAt (length lookup) (own_of nodes lookup (k - 1)) slot
    → cleared nodes (set lookup slot 0) keep (k - 1 - keep) ≡ cleared nodes lookup keep (k - keep)
cleared_some nodes lookup keep k slot h s = rw s.is (cleared_step nodes lookup keep k h)

-- where its search gives none, nothing is
pub cleared_skip : (nodes lookup : List ℕ) (keep k : ℕ) → keep < k → own_of nodes lookup (k - 1) ≡ length lookup
    → cleared nodes lookup keep (k - 1 - keep) ≡ cleared nodes lookup keep (k - keep)
cleared_skip nodes lookup keep k h o =
    ap (λ l. cleared nodes l keep (k - 1 - keep)) (sym (set_out lookup (own_of nodes lookup (k - 1)) 0 (omega arith))) ∙ cleared_step nodes lookup keep k h

pub cleared_none : (nodes lookup : List ℕ) (keep k : ℕ) → k ≤ keep → cleared nodes lookup keep (k - keep) ≡ lookup
unfolding cleared
cleared_none nodes lookup keep k h = let e : k - keep ≡ 0 = omega arith in rw e

pub cleared_length : (nodes lookup : List ℕ) (keep m : ℕ) → length (cleared nodes lookup keep m) ≡ length lookup
unfolding cleared
cleared_length nodes lookup keep zero = refl
cleared_length nodes lookup keep (suc m) =
    cleared_length nodes (set lookup (own_of nodes lookup (keep + m)) 0) keep m ∙ length-set lookup (own_of nodes lookup (keep + m)) 0

-- no two of n nodes have equal words
pub record Distinct (nodes : List ℕ) (n : ℕ) : Type 0 where
  pub apart : (j k : ℕ) → j < k → k < n → Has nodes j (get_or nodes (3 * k) 0) (get_or nodes (3 * k + 1) 0) (get_or nodes (3 * k + 2) 0) → ⊥

-- each of n nodes has an item
pub record Items (nodes : List ℕ) (n : ℕ) : Type 0 where
  pub low : (k : ℕ) → k < n → 1 ≤ get_or nodes (3 * k) 0
  pub high : (k : ℕ) → k < n → get_or nodes (3 * k) 0 ≤ 512

pub own_entered : (nodes : List ℕ) (len : ℕ) → 0 < len → (n : ℕ) → n ≤ len → Distinct nodes n → Items nodes n → (k : ℕ) → k < n
    → own_of nodes (entered (start_at nodes len) len n) k ≡ slot_at (start_at nodes len) len k
own_entered nodes len some n fits d i k h =
    own_search nodes (entered (start_at nodes len) len n) k (i.low k h) (i.high k h)
    ∙ found nodes len some n fits k k (get_or nodes (3 * k) 0) (get_or nodes (3 * k + 1) 0) (get_or nodes (3 * k + 2) 0) h (omega arith)
    (record { item_is = refl; zero_is = refl; one_is = refl }) (λ j l w. absurd (d.apart j k l h w))

-- the lookup of the first nodes comes back
pub rolled_back : (nodes : List ℕ) (len : ℕ) → 0 < len → (keep m : ℕ) → keep + m ≤ len → Distinct nodes (keep + m) → Items nodes (keep + m)
    → cleared nodes (entered (start_at nodes len) len (keep + m)) keep m ≡ entered (start_at nodes len) len keep
unfolding cleared
rolled_back nodes len some keep zero fits d i = ap (entered (start_at nodes len) len) (omega arith)
rolled_back nodes len some keep (suc m) fits d i =
    ap (λ l. cleared nodes l keep m) one ∙ rolled_back nodes len some keep m (omega arith) (record { apart = λ j k f h w. d.apart j k f (omega arith) w }) (record { low = λ k h. i.low k (omega arith); high = λ k h. i.high k (omega arith) })
  where
    e : keep + suc m ≡ suc (keep + m)
    e = omega arith

    one : set (entered (start_at nodes len) len (keep + suc m)) (own_of nodes (entered (start_at nodes len) len (keep + suc m)) (keep + m)) 0 ≡ entered (start_at nodes len) len (keep + m)
    one =
        rw (own_entered nodes len some (keep + suc m) fits d i (keep + m) (omega arith), e)
        (clear (start_at nodes len) len (starts_in nodes len some) (keep + m) (omega arith))
