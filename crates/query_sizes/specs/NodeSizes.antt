-- The sizes of nodes in 64-bit words: document 01, 'Calls'.
use Rattle.std.specs.Prelude.{ℕ, min, List, map, drop}
use Rattle.family.specs.Family.{Family, size}
use Rattle.words.specs.Words.{most}

-- "word j then holds the size of node j + 2, or 18,446,744,073,709,551,615 if that is smaller"
unfoldable pub sizes_of : List Family → List ℕ
sizes_of B = map (λ F. min (size F) most) (drop 2 B)
