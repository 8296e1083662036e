-- Sizes of one family by both entries, over lists of calls: document 02, No. 2.
use Rattle.std.specs.Prelude.{ℕ, ◌≡◌, List}
use Rattle.query_size.specs.Promise.{SizeEntry}
use Rattle.lists.specs.Calls.{Call, Size, Answer, tells, Answered}
use Rattle.lists.specs.Runs.{State, Opening, Step, Runs}

-- "It gives the same number or the same 6 as the first entry"
pub record OneSize (calls : List Call) (answers : List Answer) (x : State) : Type 0 where
  -- Two sizes that a list of calls gave for one handle are one number, by whichever entry, whatever calls stood between
  -- and whatever scratch each was lent.
  pub same : (entry other : SizeEntry) (p scratch more size its : ℕ)
      → Answered (Size entry p scratch) (tells size) calls answers → Answered (Size other p more) (tells its) calls answers → size ≡ its
  -- After the list both entries give one answer, a 6 included, where neither gives "7 when its own need isn't met".
  pub alike : (entry other : SizeEntry) (p scratch more : ℕ) {answer its : Answer} {y z : State}
      → Step x (Size entry p scratch) answer y → Step x (Size other p more) its z → (answer.refusal ≡ 7 → ⊥) → (its.refusal ≡ 7 → ⊥) → answer ≡ its

-- for every list from a fresh store
abbrev pub OneSizeClaim : Type 0
OneSizeClaim = (o : Opening) (calls : List Call) (answers : List Answer) (x : State) → Runs o calls answers x → OneSize calls answers x
