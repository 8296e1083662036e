-- What a reader's answers to reads bring to a log. Which answers come, and with which bytes, is the reader's.
use Rattle.std.specs.Prelude.{ℕ, zero, suc, ◌≤◌, List, [], ◌∷◌, ◌++◌, Option, Some, None, length, take}
use Rattle.report_tally.specs.declared.Ending.{Ending}
use Rattle.report_tally.specs.declared.Ending.TheVariants.{Going, Refused, Full}
use Rattle.report_tally.specs.Log.{opening}
use Rattle.report_log.specs.Log.{feed}
use Rattle.report_read.specs.declared.Input.{Input}
use Rattle.report_read.specs.declared.Input.TheVariants.{More, Done, Failed}

-- what a read into a buffer of n bytes may answer: none, or how many bytes it brought, at most n
abbrev pub Moved : ℕ → Option ℕ → Type 0
Moved n (Some k) = k ≤ n
Moved n None = Unit {0}

-- One read as the reader answered it: none where it failed, or how many bytes it put at the front of the buffer; and
-- the buffer then.
pub record ReadAnswer : Type 0 where
  pub got : Option ℕ
  pub buffer : List ℕ
  pub moved : Moved (length buffer) got

-- how many reads a report makes at most
abbrev pub most_reads : ℕ
most_reads = 18446744073709551615

-- the bytes that a read brought
abbrev pub brought_by : Option ℕ → List ℕ → List ℕ
brought_by (Some k) buffer = take k buffer
brought_by None buffer = []

-- all that the reads brought, in their order
abbrev pub input_of : List ReadAnswer → List ℕ
input_of [] = []
input_of (a ∷ qs) = brought_by a.got a.buffer ++ input_of qs

-- a log that ended needs no more bytes
abbrev pub behind : Ending → Input
behind Going = More
behind Refused = Done
behind Full = Done

-- how the input stands behind a read: with no answer it failed, at 0 the input is at its end, else by the log
abbrev pub input_after : Option ℕ → Ending → Input
input_after None e = Failed
input_after (Some zero) e = Done
input_after (Some (suc k)) e = behind e

-- The reads of a report: each comes where the ones before left more to read, and says how the input stands then.
pub data Heard (capacity : ℕ) : List ReadAnswer → Input → Type 0 where
  none_heard : Heard capacity [] More
  next_heard : {qs : List ReadAnswer} → Heard capacity qs More → (a : ReadAnswer)
      → Heard capacity (qs ++ (a ∷ [])) (input_after a.got (feed capacity opening (input_of (qs ++ (a ∷ [])))).ending)
