-- The promise of Even and Odd: document 02, No. 4.
use Rattle.std.specs.Prelude.{ℕ, Bool, List}
use Rattle.family.specs.Book.{at}
use Rattle.family.specs.Parity.{parity}
use Rattle.store.specs.declared.record.Store.{Store}
use Rattle.store.specs.declared.record.Placement.{Placement}
use Rattle.store.specs.declared.record.Answered.{Answered}
use Rattle.store.specs.Words.{book_of}
use Rattle.store.specs.Tests.{tests_of}
use Rattle.store.specs.Promise.{PlaceCall}

-- The number that refuses Even or Odd before it places, 0 where none does, in a store of some count: 4, as each takes
-- one handle.
abbrev pub parity_refusal : ℕ → ℕ → ℕ
parity_refusal count p = tests_of count p 0 0 0 0

-- What Even (true) and Odd (false) promise: to place "the members with an even number of items" or "those with an odd
-- number" of the family that p means in the book that the words hold.
abbrev pub ParityCall : Bool → ℕ → Store → List ℕ → List ℕ → List ℕ → Answered Placement → List ℕ → List ℕ → List ℕ → Type 0
ParityCall even p s nodes lookup cache r nodes' lookup' cache' =
    PlaceCall (parity_refusal s.count p) (parity even (at (book_of nodes s.count) p)) s nodes lookup cache r nodes' lookup' cache'
