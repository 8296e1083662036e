-- What Even and Odd of one family gave, over lists of calls: document 02, No. 4.
use Rattle.std.specs.Prelude.{ℕ, ◌≡◌, Bool, not, List}
use Rattle.op_promise.specs.declared.Operation.TheVariants.{Union, Intsec}
use Rattle.lists.specs.Calls.{Call, Operate, Parity, Answer, gives, Answered}
use Rattle.lists.specs.Runs.{State, Opening, Step, Runs}

-- Where a list of calls has Even(p) and Odd(p), in either order, that gave the handles e and o, then after the whole
-- list, however many calls stood between and however few places are left:
pub record Parted (calls : List Call) (answers : List Answer) (x : State) : Type 0 where
  -- "The two results share no member": their intersection is {}, for no new node
  pub apart : (even : Bool) (p e o added more : ℕ) → Answered (Parity even p) (gives e added) calls answers → Answered (Parity (not even) p) (gives o more) calls answers
      → {answer : Answer} {y : State} → Step x (Operate Intsec e o) answer y → answer ≡ gives 0 0
  -- "and their union has the handle of the family", for no new node
  pub whole : (even : Bool) (p e o added more : ℕ) → Answered (Parity even p) (gives e added) calls answers → Answered (Parity (not even) p) (gives o more) calls answers
      → {answer : Answer} {y : State} → Step x (Operate Union e o) answer y → answer ≡ gives p 0

-- for every list from a fresh store
abbrev pub PartedClaim : Type 0
PartedClaim = (o : Opening) (calls : List Call) (answers : List Answer) (x : State) → Runs o calls answers x → Parted calls answers x
