-- What zeroing asks. A reader of the promises can pass this page over.
use Rattle.std.specs.Prelude.{ℕ, ◌≤◌, List, length}

-- the words from one place up to another
pub record Stretch (words : List ℕ) (from to : ℕ) : Type 0 where
  pub rising : from ≤ to
  pub within : to ≤ length words
