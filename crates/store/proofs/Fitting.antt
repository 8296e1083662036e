-- A record as its three numbers; and when it fits words of some lengths and holds a handle: the tests part by part, and
-- what they say where they pass.
-- Each is one branch of the definition.
use Prim.Native.Nat.{ℕ, ◌+◌, ◌-◌, ◌≤◌, ◌<◌}
use mathlib.Core.Path.{◌≡◌, sym, ◌∙◌}
use mathlib.Core.Bool.{Bool, true, false, not, and-false}
use native.Mathlib.Omega.{arith}
use lib.Dec.{eqb, ltb, leb}
use borrow.Author.Tests.{eq-eqb, ne_eqb, lt-ltb, le-ltb, le-leb, lt-leb, eqb-true, ltb-true, leb-true, leb-false, not-true, not-false}
use Rattle.words.proofs.Cases.{by_lt, and_inv}
use Rattle.store.specs.declared.record.Store.{Store}
use Rattle.store.specs.Capacity.{capacity_of, is_limit, fitting}
use Rattle.family.specs.Family.{largest_item}

-- a record is its three numbers
pub store_is : {s : Store} {c n l : ℕ} → s.capacity ≡ c → s.count ≡ n → s.limit ≡ l → s ≡ record { capacity = c; count = n; limit = l }
store_is p q r = λ i. record { capacity = p i; count = q i; limit = r i }

pub below_leb : (handle count : ℕ) → 2 ≤ handle → ltb (handle - 2) count ≡ leb handle (count + 1)
below_leb handle count h =
    by_lt (handle - 2) count (λ l e. e ∙ sym (le-leb handle (count + 1) (omega arith))) (λ l e. e ∙ sym (lt-leb handle (count + 1) (omega arith)))

-- the test of a limit
module _ (limit : ℕ) where
  pub limit_none : limit < 1 → is_limit limit ≡ false
  unfolding is_limit
  limit_none h = rw (le-ltb 0 limit (omega arith))

  pub limit_last : 1 ≤ limit → leb limit largest_item ≡ is_limit limit
  unfolding is_limit
  limit_last h = rw (lt-ltb 0 limit h)

  pub limit_true : is_limit limit ≡ true → (1 ≤ limit) × (limit ≤ largest_item)
  unfolding is_limit
  limit_true e = and_inv (ltb 0 limit) (leb limit largest_item) e (λ p q. (ltb-true _ _ p, leb-true _ _ q))

  pub true_limit : 1 ≤ limit → limit ≤ largest_item → is_limit limit ≡ true
  unfolding is_limit
  true_limit h g = rw (lt-ltb 0 limit h, le-leb limit largest_item g)

module _ (s : Store) (nodes lookup : ℕ) where
  pub not_limit : is_limit s.limit ≡ false → fitting s nodes lookup ≡ false
  unfolding fitting
  not_limit h = rw h

  pub not_capacity : (s.capacity ≡ capacity_of nodes → ⊥) → fitting s nodes lookup ≡ false
  unfolding fitting
  not_capacity h = rw (ne_eqb s.capacity (capacity_of nodes) h, and-false)

  pub not_longer : lookup ≤ s.capacity → fitting s nodes lookup ≡ false
  unfolding fitting
  not_longer h = rw (le-ltb s.capacity lookup h, and-false, and-false)

  pub last_test : is_limit s.limit ≡ true → s.capacity ≡ capacity_of nodes → s.capacity < lookup → fitting s nodes lookup ≡ leb s.count s.capacity
  unfolding fitting
  last_test i h g = rw (i, eq-eqb s.capacity (capacity_of nodes) h, lt-ltb s.capacity lookup g)

-- what a test refused or passed says, by the equation that its function ensures
pub test_refused : {x y : Bool} → x ≡ y → not x ≡ true → y ≡ false
test_refused {x} e d = sym e ∙ not-true x d

pub test_passed : {x y : Bool} → x ≡ y → not x ≡ false → y ≡ true
test_passed {x} e d = sym e ∙ not-false x d

pub handle_refused : {x : Bool} (h n : ℕ) → x ≡ leb h (n + 1) → not x ≡ true → n + 1 < h
handle_refused h n e d = leb-false h (n + 1) (test_refused e d)

pub handle_passed : {x : Bool} (h n : ℕ) → x ≡ leb h (n + 1) → not x ≡ false → h ≤ n + 1
handle_passed h n e d = leb-true h (n + 1) (test_passed e d)

-- what fitting says
pub record Fits (s : Store) (nodes lookup : ℕ) : Type 0 where
  pub limit_is : (1 ≤ s.limit) × (s.limit ≤ largest_item)
  pub is : s.capacity ≡ capacity_of nodes
  pub longer : s.capacity < lookup
  pub within : s.count ≤ s.capacity

module _ (s : Store) (nodes lookup : ℕ) where
  pub fits_true : fitting s nodes lookup ≡ true → Fits s nodes lookup
  unfolding fitting
  fits_true e =
      and_inv (is_limit s.limit) _ e
      (λ i d. and_inv (eqb s.capacity (capacity_of nodes)) _ d
      (λ p q. and_inv (ltb s.capacity lookup) (leb s.count s.capacity) q
      (λ r t. record { limit_is = limit_true s.limit i; is = eqb-true _ _ p; longer = ltb-true _ _ r; within = leb-true _ _ t })))

  pub true_fits : Fits s nodes lookup → fitting s nodes lookup ≡ true
  unfolding fitting
  true_fits f =
      rw (true_limit s.limit f.limit_is.0 f.limit_is.1, eq-eqb s.capacity (capacity_of nodes) f.is, lt-ltb s.capacity lookup f.longer, le-leb s.count s.capacity f.within)
