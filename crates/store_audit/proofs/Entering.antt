-- A lookup in which each node's own search stops at its number, and which holds as many numbers as there are nodes,
-- is the one that entering the nodes gives, and no two nodes have equal words; and the other way round.
-- The search stops at each slot that is empty before the node is entered, so it stops where the node is entered; a
-- node with equal words before it would have stopped it there.
use Prim.Native.Nat.{ℕ, zero, suc, ◌+◌, ◌*◌, ◌≤◌, ◌<◌}
use mathlib.Core.Path.{◌≡◌, refl, sym, ap, ◌∙◌, subst}
use mathlib.Core.Bool.{Bool, true}
use mathlib.Core.List.{List}
use mathlib.Core.Logic.{inl, inr, ⊎_elim}
use native.Mathlib.Omega.{arith}
use lib.Dec.{eqb}
use lib.ListN.{length, get_or, get_or-eq_default}
use borrow.Author.Tests.{eq-eqb, eqb-true}
use Rattle.words.proofs.Cases.{by_lt}
use Rattle.table.specs.Probe.{scan, stop_on, probe_of}
use Rattle.table.specs.Entered.{empty_slot, first_free, entered, used, start_at}
use Rattle.table.specs.Own.{own_of}
use Rattle.table.proofs.Scan.{scan_refine}
use Rattle.table.proofs.Stops.{Has, stop_low, stop_high}
use Rattle.table.proofs.Filled.{slot_at, holds, filled}
use Rattle.table.proofs.Found.{starts_in, found}
use Rattle.table.proofs.OwnSlots.{own_none, own_search, own_entered, Distinct, Items}
use Rattle.store_audit.specs.Inner.{OwnAt}
use Rattle.store_audit.proofs.Rows.{rows, rows_length, row_free, row_all, row_past}

-- a node whose search stops at its number has an item
module _ (nodes l : List ℕ) (k : ℕ) (own : OwnAt nodes l k) where
  not_past : own_of nodes l k ≡ length l → ⊥
  not_past e = omega (arith, own, ap (λ x. get_or l x 0) e, get_or-eq_default l 0 {n = length l} (omega arith))

  own_low : 1 ≤ get_or nodes (3 * k) 0
  own_low = by_lt (get_or nodes (3 * k) 0) 1 (λ h e. absurd (not_past (own_none nodes l k (inl h)))) (λ h e. h)

  own_high : get_or nodes (3 * k) 0 ≤ 512
  own_high = by_lt 512 (get_or nodes (3 * k) 0) (λ h e. absurd (not_past (own_none nodes l k (inr (own_low, h))))) (λ h e. h)

module _ (nodes l : List ℕ) (n : ℕ) (fits : n < length l) (own : (k : ℕ) → k < n → OwnAt nodes l k) (many : used l ≡ n) where
  abbrev len : ℕ
  len = length l

  abbrev item : ℕ → ℕ
  item k = get_or nodes (3 * k) 0

  abbrev zero_child : ℕ → ℕ
  zero_child k = get_or nodes (3 * k + 1) 0

  abbrev one_child : ℕ → ℕ
  one_child k = get_or nodes (3 * k + 2) 0

  abbrev stop : ℕ → ℕ → Bool
  stop k x = stop_on nodes k (item k) (zero_child k) (one_child k) (get_or l x 0)

  own_probe : (k : ℕ) → k < n → own_of nodes l k ≡ probe_of nodes l k (item k) (zero_child k) (one_child k)
  own_probe k h = own_search nodes l k (own_low nodes l k (own k h)) (own_high nodes l k (own k h))

  own_scan : (k : ℕ) → k < n → own_of nodes l k ≡ scan (stop k) len len (start_at nodes len k)
  unfolding probe_of start_at
  own_scan k h = own_probe k h

  -- the search stops at each slot that is empty before the node is entered
  stops : (m x : ℕ) → m < n → get_or (rows (own_of nodes l) len m) x 0 ≡ 0 → stop m x ≡ true
  stops m x h e =
      ⊎_elim
      (λ z. stop_low nodes m (item m) (zero_child m) (one_child m) (get_or l x 0) (omega arith))
      (λ z. stop_high nodes m (item m) (zero_child m) (one_child m) (get_or l x 0) (omega arith) (omega arith))
      (row_past (own_of nodes l) l n own many m x (omega arith) e)

  first_own : (m : ℕ) → m < n → first_free (rows (own_of nodes l) len m) (start_at nodes len m) ≡ own_of nodes l m
  unfolding first_free
  first_own m h =
      let t = rows (own_of nodes l) len m in
      ap (λ k. scan (empty_slot t) k k (start_at nodes len m)) (rows_length (own_of nodes l) len m)
      ∙ scan_refine (stop m) (empty_slot t) len len (start_at nodes len m) (starts_in nodes len (omega arith) m)
      (λ x g e. stops m x h (eqb-true (get_or t x 0) 0 e))
      (subst (λ y. eqb (get_or t y 0) 0 ≡ true) (own_scan m h) (eq-eqb (get_or t (own_of nodes l m) 0) 0 (row_free (own_of nodes l) l n own m h)))
      ∙ sym (own_scan m h)

  rows_entered : (m : ℕ) → m ≤ n → entered (start_at nodes len) len m ≡ rows (own_of nodes l) len m
  unfolding entered rows
  rows_entered zero h = refl
  rows_entered (suc m) h = rw (rows_entered m (omega arith), first_own m h)

  pub is_entered : l ≡ entered (start_at nodes (length l)) (length l) n
  is_entered = sym (rows_entered n (omega arith) ∙ row_all (own_of nodes l) l n own many)

  -- the first node that has a node's words would have stopped its search
  not_first : (k j : ℕ) → k < n → j < k → Has nodes j (item k) (zero_child k) (one_child k) → ((i : ℕ) → i < j → Has nodes i (item k) (zero_child k) (one_child k) → ⊥) → ⊥
  not_first k j h f w none =
      omega (arith, own k h, ap (λ y. get_or l y 0) there, ap (λ t. get_or t (slot_at (start_at nodes len) len j) 0) is_entered, holds (start_at nodes len) len (starts_in nodes len (omega arith)) n j (omega arith) (omega arith))
    where
      least : (i : ℕ) → i < k → Has nodes i (item k) (zero_child k) (one_child k) → j ≤ i
      least i g v = by_lt i j (λ q e. absurd (none i q v)) (λ q e. q)

      there : own_of nodes l k ≡ slot_at (start_at nodes len) len j
      there =
          own_probe k h
          ∙ ap (λ t. probe_of nodes t k (item k) (zero_child k) (one_child k)) is_entered
          ∙ found nodes len (omega arith) n (omega arith) k j (item k) (zero_child k) (one_child k) (omega arith) (omega arith) w least

  none_before : (b k j : ℕ) → k < n → j < b → j < k → Has nodes j (item k) (zero_child k) (one_child k) → ⊥
  none_before zero k j h g f w = omega arith
  none_before (suc b) k j h g f w = not_first k j h f w (λ i q v. none_before b k i h (omega arith) (omega arith) v)

  pub are_distinct : Distinct nodes n
  are_distinct = record { apart = λ j k f h w. none_before k k j h f f w }

-- the other way: in the lookup that entering gives, each search stops at the node's number, and as many slots are
-- used as there are nodes
module _ (nodes l : List ℕ) (n : ℕ) (fits : n < length l) (is : l ≡ entered (start_at nodes (length l)) (length l) n) where
  pub entered_used : used l ≡ n
  entered_used = ap used is ∙ filled (start_at nodes (length l)) (length l) (starts_in nodes (length l) (omega arith)) n (omega arith)

  pub entered_own : Distinct nodes n → Items nodes n → (k : ℕ) → k < n → OwnAt nodes l k
  entered_own d i k h =
      ap (λ t. get_or t (own_of nodes t k) 0) is
      ∙ ap (λ x. get_or (entered (start_at nodes (length l)) (length l) n) x 0) (own_entered nodes (length l) (omega arith) n (omega arith) d i k h)
      ∙ holds (start_at nodes (length l)) (length l) (starts_in nodes (length l) (omega arith)) n k h (omega arith)
