-- The promise of the two sums of weights, by members and by nodes: document 02, No. 1.
use Rattle.std.specs.Prelude.{ℕ, ◌*◌, ◌-◌, ◌≡◌, false, cond, List, [], eqb, ltb, length, drop, Result, Ok, Err}
use Rattle.words.specs.Words.{most}
use Rattle.family.specs.Family.{Family, largest_item}
use Rattle.family.specs.Book.{at}
use Rattle.family.specs.Weights.{sum_by_members, sum_by_nodes}
use Rattle.store.specs.declared.record.Store.{Store}
use Rattle.store.specs.declared.record.Answered.{Answered}
use Rattle.store.specs.declared.record.Refusal.{Refusal}
use Rattle.store.specs.declared.record.Refusal.TheVariants.{Damaged}
use Rattle.store.specs.Capacity.{fitting}
use Rattle.store.specs.Refusals.{refusal_number}
use Rattle.store.specs.Tests.{tests_of}
use Rattle.store.specs.Words.{book_of}
use Rattle.store.specs.Sound.{Sound}

-- the two ways of adding: "Some planners add member by member, others node by node from the smallest number up"
pub data Way : Type 0 where
  by_members by_nodes : Way

-- the sum by either way
abbrev pub sum_by : Way → List ℕ → Family → ℕ
sum_by by_members weights F = sum_by_members weights F
sum_by by_nodes weights F = sum_by_nodes weights F

-- what either call gives besides the record: the refusal's number, 0 where there is none, and the sum: "gives sum 0
-- when refused"
pub record WeightGiven : Type 0 where
  pub refusal : ℕ
  pub sum : ℕ

abbrev pub weight_given_by : Result ℕ Refusal → WeightGiven
weight_given_by (Ok n) = record { refusal = 0; sum = n }
weight_given_by (Err r) = record { refusal = refusal_number r; sum = 0 }

-- "11, the weight list isn't 512 long", whatever the store's limit
abbrev pub weights_test : ℕ → ℕ
weights_test long = cond (eqb long largest_item) 0 11

-- 4, 11 "directly after 4", and 7: "a scratch of three 64-bit words per node held"
unfoldable pub weight_tests : List Family → ℕ → ℕ → ℕ → ℕ
weight_tests B p long words = tests_of (length B - 2) p 0 (weights_test long) words (3 * (length B - 2))

-- then 6: "Where the sum is above 18,446,744,073,709,551,615"
unfoldable pub weight_refusal : Way → List Family → ℕ → List ℕ → ℕ → ℕ
weight_refusal way B p weights words =
    cond (eqb (weight_tests B p (length weights) words) 0) (cond (ltb most (sum_by way weights (at B p))) 6 0) (weight_tests B p (length weights) words)

-- the sum of the family that p is in the book
unfoldable pub weight_answer : Way → List Family → ℕ → List ℕ → ℕ → WeightGiven
weight_answer way B p weights words =
    record { refusal = weight_refusal way B p weights words; sum = cond (eqb (weight_refusal way B p weights words) 0) (sum_by way weights (at B p)) 0 }

-- The promise of either call, by its way of adding. It changes no word but its scratch, and hands the record back as it
-- came. The scratch is "left free in those words also after a 6": of it the promise says which words stay.
pub record WeightCall (way : Way) (s : Store) (nodes lookup : List ℕ) (p : ℕ) (weights scratch : List ℕ) (r : Answered ℕ) (scratch' : List ℕ) : Type 0 where
  -- a certain 10
  pub misfit : fitting s (length nodes) (length lookup) ≡ false → (r.answer ≡ Err Damaged) × (scratch' ≡ scratch)
  -- a sound store; no cache is lent
  pub answer_is : Sound s nodes lookup [] → weight_given_by r.answer ≡ weight_answer way (book_of nodes s.count) p weights (length scratch)
  -- after 4, 11 and 7
  pub scratch_stays : Sound s nodes lookup [] → (weight_tests (book_of nodes s.count) p (length weights) (length scratch) ≡ 0 → ⊥) → scratch' ≡ scratch
  -- any store
  pub scratch_rest : drop (3 * s.count) scratch' ≡ drop (3 * s.count) scratch
  pub store_is : r.store ≡ s
  pub long : length scratch' ≡ length scratch
