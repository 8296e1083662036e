-- The promise of Size's second entry: document 02, No. 2. What it answers is defined in query_size, for both entries.
use Rattle.std.specs.Prelude.{ℕ, ◌+◌, ◌<◌, ◌≡◌, false, List, [], length, Err}
use Rattle.store.specs.declared.record.Store.{Store}
use Rattle.store.specs.declared.record.Answered.{Answered}
use Rattle.store.specs.declared.record.Refusal.TheVariants.{Damaged}
use Rattle.store.specs.Capacity.{fitting}
use Rattle.store.specs.Words.{book_of}
use Rattle.store.specs.Sound.{Sound}
use Rattle.query_size.specs.Promise.{by_part, size_given_by, size_answer}

-- The second entry's promise. It changes no word but its scratch, and hands the record back as it came. "All the scratch
-- lent to it is left free, after a 6 or 7 too": of it the promise says when it stays.
pub record CompactCall (s : Store) (nodes lookup : List ℕ) (p : ℕ) (scratch : List ℕ) (r : Answered ℕ) (scratch' : List ℕ) : Type 0 where
  -- a certain 10
  pub misfit : fitting s (length nodes) (length lookup) ≡ false → (r.answer ≡ Err Damaged) × (scratch' ≡ scratch)
  -- a sound store; no cache is lent
  pub answer_is : Sound s nodes lookup [] → size_given_by r.answer ≡ size_answer by_part (book_of nodes s.count) p (length scratch)
  -- any store; 4 is "a handle above count + 1"
  pub scratch_stays : s.count + 1 < p → scratch' ≡ scratch
  pub store_is : r.store ≡ s
  pub long : length scratch' ≡ length scratch
