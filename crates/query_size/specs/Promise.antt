-- The promise of Size: document 01, 'Calls' and 'Numbers and trade words'; and what its two entries answer, the second
-- one being that of document 02, No. 2.
use Rattle.std.specs.Prelude.{ℕ, ◌*◌, ◌-◌, ◌≡◌, false, cond, List, [], ◌++◌, eqb, ltb, length, drop, Result, Ok, Err}
use Rattle.family.specs.Family.{Family, size}
use Rattle.family.specs.Book.{at}
use Rattle.family.specs.Parts.{part_count}
use Rattle.store.specs.declared.record.Store.{Store}
use Rattle.store.specs.declared.record.Answered.{Answered}
use Rattle.store.specs.declared.record.Refusal.{Refusal}
use Rattle.store.specs.declared.record.Refusal.TheVariants.{Damaged}
use Rattle.store.specs.Capacity.{fitting}
use Rattle.store.specs.Refusals.{refusal_number}
use Rattle.store.specs.Tests.{tests_of}
use Rattle.store.specs.Words.{book_of}
use Rattle.store.specs.Sound.{Sound}
use Rattle.words.specs.Words.{most}
use Rattle.query_sizes.specs.NodeSizes.{sizes_of}

-- what Size gives besides the record: the refusal's number, 0 where there is none, and the size, 0 where it is refused
pub record SizeGiven : Type 0 where
  pub refusal : ℕ
  pub size : ℕ

abbrev pub size_given_by : Result ℕ Refusal → SizeGiven
size_given_by (Ok n) = record { refusal = 0; size = n }
size_given_by (Err r) = record { refusal = refusal_number r; size = 0 }

-- "Size gets a second entry"; "Both entries remain": the first needs scratch by the nodes held, the second by the parts of
-- the asked family
pub data SizeEntry : Type 0 where
  by_node by_part : SizeEntry

-- "one 64-bit word per node held"; "two 64-bit words for each part of the asked family only, whatever else the store
-- holds"
abbrev pub need_of : SizeEntry → List Family → ℕ → ℕ
need_of by_node B p = length B - 2
need_of by_part B p = 2 * part_count (at B p)

-- 4, then 7: "when its own need isn't met"
unfoldable pub size_tests : SizeEntry → List Family → ℕ → ℕ → ℕ
size_tests entry B p words = tests_of (length B - 2) p 0 0 words (need_of entry B p)

-- then 6: "size above 18,446,744,073,709,551,615"
unfoldable pub size_refusal : SizeEntry → List Family → ℕ → ℕ → ℕ
size_refusal entry B p words = cond (eqb (size_tests entry B p words) 0) (cond (ltb most (size (at B p))) 6 0) (size_tests entry B p words)

-- "Size gives the number of members", for the book that the store holds; the second entry "gives the same number or the
-- same 6 as the first entry"
unfoldable pub size_answer : SizeEntry → List Family → ℕ → ℕ → SizeGiven
size_answer entry B p words = record { refusal = size_refusal entry B p words; size = cond (eqb (size_refusal entry B p words) 0) (size (at B p)) 0 }

-- the scratch after the first entry: "After 6, Size has filled its scratch as on success"; after 4 and 7 it stays
unfoldable pub size_scratch : List Family → ℕ → List ℕ → List ℕ
size_scratch B p scratch = cond (eqb (size_tests by_node B p (length scratch)) 0) (sizes_of B ++ drop (length B - 2) scratch) scratch

-- The first entry's promise. It changes no word but its scratch, and hands the record back as it came.
pub record SizeCall (s : Store) (nodes lookup : List ℕ) (p : ℕ) (scratch : List ℕ) (r : Answered ℕ) (scratch' : List ℕ) : Type 0 where
  -- a certain 10
  pub misfit : fitting s (length nodes) (length lookup) ≡ false → (r.answer ≡ Err Damaged) × (scratch' ≡ scratch)
  -- a sound store; no cache is lent
  pub answer_is : Sound s nodes lookup [] → size_given_by r.answer ≡ size_answer by_node (book_of nodes s.count) p (length scratch)
  pub scratch_is : Sound s nodes lookup [] → scratch' ≡ size_scratch (book_of nodes s.count) p scratch
  -- any store
  pub store_is : r.store ≡ s
  pub long : length scratch' ≡ length scratch
