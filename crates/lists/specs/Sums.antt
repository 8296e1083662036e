-- Sums of weights of one family by both ways, over lists of calls: document 02, No. 1.
use Rattle.std.specs.Prelude.{ℕ, ◌≡◌, List}
use Rattle.query_weight.specs.Promise.{Way}
use Rattle.lists.specs.Calls.{Call, Weigh, Answer, tells, Answered}
use Rattle.lists.specs.Runs.{State, Opening, Step, Runs}

-- "both sums must be available .. and be the same number for every family"
pub record OneSum (calls : List Call) (answers : List Answer) (x : State) : Type 0 where
  -- Two sums that a list of calls gave for one handle and one list of weights are one number, by whichever way each was
  -- added, whatever calls stood between and whatever scratch each was lent.
  pub same : (way other : Way) (p : ℕ) (weights : List ℕ) (scratch more sum its : ℕ)
      → Answered (Weigh way p weights scratch) (tells sum) calls answers → Answered (Weigh other p weights more) (tells its) calls answers → sum ≡ its
  -- After the list both ways give one answer, refused or not: "both give 6".
  pub alike : (way other : Way) (p : ℕ) (weights : List ℕ) (scratch : ℕ) {answer its : Answer} {y z : State}
      → Step x (Weigh way p weights scratch) answer y → Step x (Weigh other p weights scratch) its z → answer ≡ its

-- for every list from a fresh store
abbrev pub OneSumClaim : Type 0
OneSumClaim = (o : Opening) (calls : List Call) (answers : List Answer) (x : State) → Runs o calls answers x → OneSum calls answers x
