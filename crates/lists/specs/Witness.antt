-- That the claim of demand 3 is not empty: every list of calls can be run, by the promises' own definitions.
use Rattle.std.specs.Prelude.{◌≡◌, List}
use Rattle.store_fresh.specs.Promise.{fresh_of}
use Rattle.lists.specs.Calls.{Call, Answer}
use Rattle.lists.specs.Books.{book_answer, answers_of, book_of_calls}
use Rattle.lists.specs.Runs.{State, Opening, bounds_of, Step, Runs}

pub record Witness (o : Opening) : Type 0 where
  -- whatever calls were made, and whatever their promises left free, every call can follow, with the book's answer
  pub follows : {calls : List Call} {answers : List Answer} {x : State} → Runs o calls answers x
      → (call : Call) → (y : State) × Step x call (book_answer (bounds_of o) (book_of_calls (bounds_of o) calls) call) y
  -- for every list of calls there is a run from a Fresh that is not refused, and its answers are the book's
  pub runs : (fresh_of o.limit o.nodes o.lookup o.cache).refusal ≡ 0 → (calls : List Call)
      → (x : State) × Runs o calls (answers_of (bounds_of o) calls) x

-- for all that Fresh is given
abbrev pub WitnessClaim : Type 0
WitnessClaim = (o : Opening) → Witness o
