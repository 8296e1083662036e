-- Which fields of a record stand, and its length by them.
use Rattle.std.specs.Prelude.{ℕ, ◌+◌, Bool, cond}
use Rattle.family.specs.Record.{stands}
use Rattle.file_record.specs.declared.field.Part.{Part}
use Rattle.file_record.specs.declared.field.Last.{Last}
use Rattle.file_record.specs.declared.field.Standing.{Standing}

-- the fields of a part's record behind the last one: each stands where it differs from what its absence says
abbrev pub standing_of : Part → Last → Standing
standing_of part last = record { item = stands part.item (last.item + 1); zero = stands part.zero 0; one = stands part.one last.number }

-- the bit map byte, two bytes of an item, four of each child
unfoldable pub widths : Bool → Bool → Bool → ℕ
widths item zero_child one_child = 1 + cond item 2 0 + cond zero_child 4 0 + cond one_child 4 0
