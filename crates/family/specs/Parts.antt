-- How many different parts a family has, and how many a family made of two can have: document 02, No. 7.
use Rattle.std.specs.Prelude.{ℕ, ◌+◌, ◌*◌, length}
use Rattle.family.specs.Family.{Family, parts}
use Rattle.family.specs.Book.{distinct}

-- the number of "different parts" of a family, itself among them
unfoldable pub part_count : Family → ℕ
part_count F = length (distinct (parts F))

-- "(a + 2) × (b + 2), where a and b are the numbers of different parts of the two families"
abbrev pub most_parts : Family → Family → ℕ
most_parts F G = (part_count F + 2) * (part_count G + 2)
