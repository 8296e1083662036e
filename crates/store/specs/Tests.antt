-- The tests before a call, in the order of document 01, 'Numbers and trade words': 10, 4, 3, 7; 11 of document 02 is
-- "directly after 4".
use Rattle.std.specs.Prelude.{ℕ, ◌+◌, ◌≡◌, ⊤, Bool, cond, ◌&&◌, eqb, ltb, leb, Result, Ok, Err}
use Rattle.store.specs.declared.record.Refusal.{Refusal}
use Rattle.store.specs.declared.record.Store.{Store}
use Rattle.store.specs.Capacity.{fitting}
use Rattle.store.specs.Refusals.{refusal_number}

-- the number of what tests find, 0 where nothing refuses the call
abbrev pub test_number : Result ⊤ Refusal → ℕ
test_number (Ok _) = 0
test_number (Err r) = refusal_number r

-- whether a number is an item of a store: 3 is "item 0 or above 512", and "Item checks use the store's own limit"
unfoldable pub is_item : ℕ → ℕ → Bool
is_item limit v = ltb 0 v && leb v limit

abbrev pub item_test : ℕ → ℕ → ℕ
item_test limit v = cond (is_item limit v) 0 3

-- 4: "a handle above count + 1", of two handles; then what the call finds by its own test, 3 or 11; then 7: "scratch
-- shorter than stated". 0 where nothing refuses the call.
-- A call with one handle or none has 0 for the others, which is always held; one without scratch needs none.
unfoldable pub tests_of : ℕ → ℕ → ℕ → ℕ → ℕ → ℕ → ℕ
tests_of count p q own scratch need =
    cond (ltb (count + 1) p) 4 (cond (ltb (count + 1) q) 4 (cond (eqb own 0) (cond (ltb scratch need) 7 0) own))

-- What the tests of a call find over words of these lengths: 10 where the record does not fit them, else the number
-- of the tests.
pub record Found (s : Store) (nodes lookup p q own scratch need : ℕ) (r : Result ⊤ Refusal) : Type 0 where
  pub number_is : test_number r ≡ cond (fitting s nodes lookup) (tests_of s.count p q own scratch need) 10
