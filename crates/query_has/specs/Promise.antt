-- The promise of Has: document 01, 'Calls' and 'Numbers and trade words'.
use Rattle.std.specs.Prelude.{ℕ, ◌-◌, ◌≡◌, Bool, false, cond, Result, Ok, Err, List, [], eqb, length}
use Rattle.family.specs.Family.{Family, has}
use Rattle.family.specs.Book.{at}
use Rattle.store.specs.declared.record.Store.{Store}
use Rattle.store.specs.declared.record.Refusal.TheVariants.{Damaged}
use Rattle.store.specs.Capacity.{fitting}
use Rattle.store.specs.Refusals.{refusal_number}
use Rattle.store.specs.Words.{book_of}
use Rattle.store.specs.Sound.{Sound}
use Rattle.store.specs.declared.record.Refusal.{Refusal}
use Rattle.store.specs.declared.record.Answered.{Answered}
use Rattle.store.specs.Tests.{tests_of}

-- what Has gives besides the record: the refusal's number, 0 where there is none, and yes or no, no where it is
-- refused
pub record HasGiven : Type 0 where
  pub refusal : ℕ
  pub member : Bool

abbrev pub has_given_by : Result Bool Refusal → HasGiven
has_given_by (Ok member) = record { refusal = 0; member = member }
has_given_by (Err r) = record { refusal = refusal_number r; member = false }

-- the tests of Has, for the book that the store holds: one handle, and no scratch
unfoldable pub has_refusal : List Family → ℕ → ℕ
has_refusal B p = tests_of (length B - 2) p 0 0 0 0

-- "Has(P, c) says yes exactly when c is in P"
unfoldable pub has_answer : List Family → ℕ → List ℕ → HasGiven
has_answer B p c = record { refusal = has_refusal B p; member = cond (eqb (has_refusal B p) 0) (has (at B p) c) false }

-- Has's promise. It changes no word, and hands the record back as it came.
pub record HasCall (s : Store) (nodes lookup : List ℕ) (p : ℕ) (c : List ℕ) (r : Answered Bool) : Type 0 where
  -- a certain 10
  pub misfit : fitting s (length nodes) (length lookup) ≡ false → r.answer ≡ Err Damaged
  -- a sound store; no cache is lent
  pub answer_is : Sound s nodes lookup [] → has_given_by r.answer ≡ has_answer (book_of nodes s.count) p c
  -- any store
  pub store_is : r.store ≡ s
