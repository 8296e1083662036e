-- The start slot of a node's words: document 01, 'The store'.
use Rattle.std.specs.Prelude.{ℕ, ◌+◌, ◌*◌, ◌%◌, ◌^◌}

-- "Let mix(i) be i × 40,503 modulo 65,536"
abbrev pub mix_of : ℕ → ℕ
mix_of i = i * 40503 % 65536

-- "A node's start slot is mix(item) + 65,599 × (zero + 65,599 × one), where sums and products wrap at 4,294,967,296,
-- then modulo the lookup length"
unfoldable pub start_of : ℕ → ℕ → ℕ → ℕ → ℕ
start_of item zero_child one_child len = (mix_of item + 65599 * (zero_child + 65599 * one_child)) % 2 ^ 32 % len
