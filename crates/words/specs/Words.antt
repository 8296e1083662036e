-- Lists of words, and the largest word.
use Rattle.std.specs.Prelude.{ℕ, ◌-◌, List, ◌++◌, take, drop, replicate}

-- the words from a up to e set to 0, all others as they are
unfoldable pub zeroed : ℕ → ℕ → List ℕ → List ℕ
zeroed a e l = take a l ++ (replicate (e - a) 0 ++ drop e l)

-- the largest number of 64 bits
abbrev pub most : ℕ
most = 18446744073709551615
