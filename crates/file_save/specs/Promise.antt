-- The promise of Save: document 01, 'Calls', 'The file' and 'Numbers and trade words'.
use Rattle.std.specs.Prelude.{ℕ, ◌≡◌, false, cond, List, [], ◌++◌, eqb, ltb, length, drop, Result, Ok, Err}
use Rattle.family.specs.Family.{Family}
use Rattle.family.specs.Book.{at}
use Rattle.family.specs.File.{file_of}
use Rattle.store.specs.declared.record.Store.{Store}
use Rattle.store.specs.declared.record.Refusal.{Refusal}
use Rattle.store.specs.declared.record.Refusal.TheVariants.{Damaged}
use Rattle.store.specs.declared.record.Answered.{Answered}
use Rattle.store.specs.Capacity.{fitting}
use Rattle.store.specs.Refusals.{refusal_number}
use Rattle.store.specs.Scratch.{scratch_tests}
use Rattle.store.specs.Words.{book_of}
use Rattle.store.specs.Sound.{Sound}

-- what Save gives besides the record and the bytes: the refusal's number, 0 where there is none, and the file's
-- length, 0 where it is refused
pub record SaveGiven : Type 0 where
  pub refusal : ℕ
  pub file_length : ℕ

-- the same of an answer
abbrev pub save_given_by : Result ℕ Refusal → SaveGiven
save_given_by (Ok n) = record { refusal = 0; file_length = n }
save_given_by (Err r) = record { refusal = refusal_number r; file_length = 0 }

-- 4 and 7, "one 32-bit word per node held", then 8: "output shorter than the file"
unfoldable pub save_refusal : List Family → ℕ → ℕ → ℕ → ℕ
save_refusal B p words room = cond (eqb (scratch_tests B p words) 0) (cond (ltb room (length (file_of (at B p)))) 8 0) (scratch_tests B p words)

-- "Save writes the file of a family .. and gives its length", for the book that the store holds
unfoldable pub save_answer : List Family → ℕ → ℕ → ℕ → SaveGiven
save_answer B p words room =
    record { refusal = save_refusal B p words room; file_length = cond (eqb (save_refusal B p words room) 0) (length (file_of (at B p))) 0 }

-- "to the front of the output, later bytes untouched"; a refusal leaves all bytes
unfoldable pub save_output : List Family → ℕ → ℕ → List ℕ → List ℕ
save_output B p words out = cond (eqb (save_refusal B p words (length out)) 0) (file_of (at B p) ++ drop (length (file_of (at B p))) out) out

-- Save's promise. It changes no store word, and hands the record back as it came. "Needed scratch words are left
-- free, later ones untouched": of the scratch it says which words stay.
pub record SaveCall (s : Store) (nodes lookup : List ℕ) (p : ℕ) (scratch out : List ℕ) (r : Answered ℕ) (scratch' out' : List ℕ) : Type 0 where
  -- a certain 10
  pub misfit : fitting s (length nodes) (length lookup) ≡ false → (r.answer ≡ Err Damaged) × (scratch' ≡ scratch) × (out' ≡ out)
  -- a sound store; no cache is lent
  pub answer_is : Sound s nodes lookup [] → save_given_by r.answer ≡ save_answer (book_of nodes s.count) p (length scratch) (length out)
  pub out_is : Sound s nodes lookup [] → out' ≡ save_output (book_of nodes s.count) p (length scratch) out
  pub scratch_stays : Sound s nodes lookup [] → (scratch_tests (book_of nodes s.count) p (length scratch) ≡ 0 → ⊥) → scratch' ≡ scratch
  -- any store
  pub scratch_rest : drop s.count scratch' ≡ drop s.count scratch
  pub store_is : r.store ≡ s
  pub long : length scratch' ≡ length scratch
  pub long_out : length out' ≡ length out
