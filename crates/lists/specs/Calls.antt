-- Calls and their answers as data: document 01, 'Calls', and document 02, Nos. 1, 2, 4 and 7.
use Rattle.std.specs.Prelude.{ℕ, ◌+◌, Bool, List, [], ◌∷◌}
use Rattle.op_promise.specs.declared.Operation.{Operation}
use Rattle.query_size.specs.Promise.{SizeEntry}
use Rattle.query_weight.specs.Promise.{Way}

-- A call, with all that it takes besides the record and the store's words: "handles, items, combinations, file bytes
-- and lengths", and lists of weights. p is a handle and q the second operand, a combination is the sixteen words of its
-- record, and scratch and output are lengths. `Parity` is Even where its first argument is true, else Odd; `Size` is by
-- either entry, and `Weigh` is the sum of weights by either way. The part of the cache that a call is lent is no part of
-- it: the steps of Runs say it.
pub data Call : Type 0 where
  Operate : Operation → (p q : ℕ) → Call
  Parity : (even : Bool) (p : ℕ) → Call
  Size : SizeEntry → (p scratch : ℕ) → Call
  Has : (p : ℕ) (combination : List ℕ) → Call
  Weigh : Way → (p : ℕ) (weights : List ℕ) (scratch : ℕ) → Call
  Save : (p scratch output : ℕ) → Call
  Load : (file : List ℕ) (scratch : ℕ) → Call
  Audit : Call

-- what a question is answered with: a number, or yes or no
pub data Fact : Type 0 where
  Number : ℕ → Fact
  Says : Bool → Fact

-- What a call gives besides the record and the refusal's number, by its kind: a handle and "the number of nodes it
-- added"; a fact; the length of Save's file and its bytes. "A refusal gives no handle, size or length": 0, no, and no
-- bytes; and 0 nodes added.
pub data Value : Type 0 where
  Handle : (handle added : ℕ) → Value
  Tells : Fact → Value
  Writes : (long : ℕ) (bytes : List ℕ) → Value

-- "A call's answer is all that it gives but the record: the refusal's number, handle, size, yes or no, length, and the
-- bytes of Save's file"; the number is 0 where nothing refuses the call
pub record Answer : Type 0 where
  pub refusal : ℕ
  pub value : Value

-- a handle, and so many nodes added for it
abbrev pub gives : ℕ → ℕ → Answer
gives handle added = record { refusal = 0; value = Handle handle added }

-- a number told
abbrev pub tells : ℕ → Answer
tells n = record { refusal = 0; value = Tells (Number n) }

-- that a list of calls has this call, and it got this answer
pub data Answered (call : Call) (answer : Answer) : List Call → List Answer → Type 0 where
  here : {calls : List Call} {answers : List Answer} → Answered call answer (call ∷ calls) (answer ∷ answers)
  later : {c : Call} {a : Answer} {calls : List Call} {answers : List Answer} → Answered call answer calls answers → Answered call answer (c ∷ calls) (a ∷ answers)

-- the bytes that were written
abbrev pub written : Value → List ℕ
written (Handle h n) = []
written (Tells fact) = []
written (Writes long bytes) = bytes

-- the nodes that were added: only a call that places adds nodes
abbrev pub added_by : Value → ℕ
added_by (Handle h n) = n
added_by (Tells fact) = 0
added_by (Writes long bytes) = 0

-- their sum over the answers of a list
abbrev pub added_sum : List Answer → ℕ
added_sum [] = 0
added_sum (a ∷ rest) = added_by a.value + added_sum rest
