-- What the readers answer, by the definitions of the file. The bytes that a reader took are left out of those that
-- come after.
use Rattle.std.specs.Prelude.{ℕ, ◌≤◌, ◌≡◌, Bool, List, length, drop, Option, MatchOption}
use Rattle.std.proofs.Math.Option.{none, some}
use Rattle.family.specs.Record.{front, triple, read_field, bit1, bit2, bit4, read_fields, read_record}
use Rattle.file_record.specs.declared.field.Last.{Last}
use Rattle.file_record.specs.declared.field.Part.{Part}
use Rattle.file_parse.specs.declared.Taken.{Taken}

-- a field of n bytes taken
pub record FieldTaken (n : ℕ) (stands : Bool) (other : ℕ) (bytes : List ℕ) (t : Taken ℕ) : Type 0 where
  pub is : read_field n stands other bytes ≡ some (front t.value (drop t.bytes bytes))
  pub fits : t.bytes ≤ length bytes
  pub few : t.bytes ≤ n

-- a field of n bytes
abbrev pub FieldOf : ℕ → Bool → ℕ → List ℕ → Option (Taken ℕ) → Type 0
FieldOf n stands other bytes r = MatchOption r (read_field n stands other bytes ≡ none) (λ t. FieldTaken n stands other bytes t)

-- the three fields after a bit map byte taken
pub record FieldsTaken (map : ℕ) (last : Last) (bytes : List ℕ) (t : Taken Part) : Type 0 where
  pub is : read_fields last.item last.number (bit1 map) (bit2 map) (bit4 map) bytes ≡ some (front (triple t.value.item t.value.zero t.value.one) (drop t.bytes bytes))
  pub fits : t.bytes ≤ length bytes
  pub few : t.bytes ≤ 10

-- the three fields after a bit map byte
abbrev pub FieldsOf : ℕ → Last → List ℕ → Option (Taken Part) → Type 0
FieldsOf map last bytes r = MatchOption r (read_fields last.item last.number (bit1 map) (bit2 map) (bit4 map) bytes ≡ none) (λ t. FieldsTaken map last bytes t)

-- a record taken
pub record RecordTaken (last : Last) (bytes : List ℕ) (t : Taken Part) : Type 0 where
  pub is : read_record last.item last.number bytes ≡ some (front (triple t.value.item t.value.zero t.value.one) (drop t.bytes bytes))
  pub fits : t.bytes ≤ length bytes
  pub some_bytes : 1 ≤ t.bytes

-- a record
abbrev pub RecordOf : Last → List ℕ → Option (Taken Part) → Type 0
RecordOf last bytes r = MatchOption r (read_record last.item last.number bytes ≡ none) (λ t. RecordTaken last bytes t)
