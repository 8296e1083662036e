-- What `counted` promises the call. A reader of the promise can pass this page over.
use Rattle.std.specs.Prelude.{ℕ, ◌*◌, ◌≡◌, cond, List, ltb, length, Result}
use Rattle.words.specs.Words.{most}
use Rattle.family.specs.Family.{Family, size}
use Rattle.family.specs.Book.{at}
use Rattle.family.specs.Parts.{part_count}
use Rattle.store.specs.declared.record.Refusal.{Refusal}
use Rattle.store.specs.Inner.{Holds}
use Rattle.query_size.specs.Promise.{size_given_by, SizeGiven}

-- what is answered for a handle that is held: 7 by its parts, then 6, then its size
abbrev pub counted_of : Family → ℕ → SizeGiven
counted_of F words =
    cond (ltb words (2 * part_count F)) (record { refusal = 7; size = 0 }) (cond (ltb most (size F)) (record { refusal = 6; size = 0 }) (record { refusal = 0; size = size F }))

-- the answer is that, where the words hold a book
pub record Counted (nodes : List ℕ) (count p : ℕ) (scratch : List ℕ) (r : Result ℕ Refusal) (scratch' : List ℕ) : Type 0 where
  pub long : length scratch' ≡ length scratch
  pub is : {limit : ℕ} (B : List Family) (lookup : List ℕ) → Holds limit B count nodes lookup → size_given_by r ≡ counted_of (at B p) (length scratch)
