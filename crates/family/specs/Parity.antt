-- The even and the odd part of a family: document 02, No. 4.
use Rattle.std.specs.Prelude.{ℕ, ◌%◌, Bool, cond, not, List, eqb, length}
use Rattle.family.specs.Family.{Family, empty, base, node, mk}
use Rattle.family.specs.Operation.{leaf}

-- "The even part of a family takes the even part of one side and the odd part of the other, and so does the odd part
-- the other way round. Zero is even.": the same part of the without-side, the other part of the with-side. The
-- parameter is true for the even part and false for the odd one.
abbrev pub parity : Bool → Family → Family
parity even empty = empty
parity even base = leaf even
parity even (node i a b) = mk i (parity even a) (parity (not even) b)

-- whether a combination has "an even number of items", or where the parameter is false "an odd number"
unfoldable pub of_parity : Bool → List ℕ → Bool
of_parity even c = eqb (length c % 2) (cond even 0 1)
