-- Where an item's bit stands in the sixteen words. A reader of the promises can pass this page over.
use Rattle.std.specs.Prelude.{◌≡◌, ℕ, ◌-◌, ◌/◌, ◌%◌, ◌<◌, ◌≤◌}

-- "item i is bit (i − 1) modulo 32 of word (i − 1) / 32, rounded down"
pub record StandsAt (item word bit : ℕ) : Type 0 where
  pub some : 0 < item
  pub low : item ≤ 512
  pub word_is : word ≡ (item - 1) / 32
  pub bit_is : bit ≡ (item - 1) % 32
