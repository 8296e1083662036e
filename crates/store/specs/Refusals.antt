-- The refusals by document 01's numbers, and the values of an answer: document 01, 'Numbers and trade words'; 11, 13
-- and the number added are document 02's.
use Rattle.std.specs.Prelude.{ℕ, Result, Ok, Err}
use Rattle.store.specs.declared.record.Refusal.{Refusal}
use Rattle.store.specs.declared.record.Refusal.TheVariants.{Tiny, ShortLookup, Item, Handle as NoHandle, Full, Large, Scratch, Output, NoFile, Damaged, Weights, AboveLimit}
use Rattle.store.specs.declared.record.Placement.{Placement}

-- the numbers of the table
abbrev pub refusal_number : Refusal → ℕ
refusal_number Tiny = 1
refusal_number ShortLookup = 2
refusal_number Item = 3
refusal_number NoHandle = 4
refusal_number Full = 5
refusal_number Large = 6
refusal_number Scratch = 7
refusal_number Output = 8
refusal_number NoFile = 9
refusal_number Damaged = 10
refusal_number Weights = 11
refusal_number AboveLimit = 13

-- What a call that places gives besides the record: the refusal's number, 0 where there is none, the handle, and "the
-- number of nodes it added".
pub record Given : Type 0 where
  pub refusal : ℕ
  pub handle : ℕ
  pub added : ℕ

-- refused: the handle is "0 where the answer has such a field", and so is the number added, "0 on refusal"
abbrev pub refused_by : ℕ → Given
refused_by n = record { refusal = n; handle = 0; added = 0 }

abbrev pub given_by : Result Placement Refusal → Given
given_by (Ok p) = record { refusal = 0; handle = p.handle; added = p.added }
given_by (Err r) = refused_by (refusal_number r)
