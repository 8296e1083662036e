-- Demand 3, the claim over lists of calls, in one place; the demand's own words stand in quotation marks.
use Rattle.std.specs.Prelude.{ℕ, ◌+◌, ◌≤◌, ◌≡◌, ◌↔◌, length, take}
use mathlib.Core.List.{List, ◌++◌, Memᴰ}
use Rattle.family.specs.Family.{Family, Within, has, largest_item}
use Rattle.family.specs.Combination.{Combined}
use Rattle.family.specs.Book.{at, distinct}
use Rattle.store.specs.Words.{book_of}
use Rattle.lists.specs.Calls.{Call, Answer, added_sum}
use Rattle.lists.specs.Books.{answers_of, book_of_calls, Handout, handed_out, all_parts, SavedFile, files_of}
use Rattle.lists.specs.Runs.{State, Opening, bounds_of, Runs}

-- document 01: "What a handle means after the list is read from the node words."
abbrev pub meaning : State → ℕ → Family
meaning x h = at (book_of x.nodes x.store.count) h

-- whether two families are the same set of combinations: each combination of items is a member of both or of neither
pub record SameMembers (F G : Family) : Type 0 where
  pub each : (c : List ℕ) → Combined largest_item c → has F c ≡ has G c

-- What holds after a list of calls that Fresh began: all that the book says of it is worked out from the calls, the
-- capacity that Fresh's node words give, and Fresh's limit.
pub record Demand3 (o : Opening) (calls : List Call) (answers : List Answer) (x : State) : Type 0 where
  -- each beginning of the list is such a list with its answers so far, so all that follows holds after each call
  pub beginnings : (n : ℕ) → (y : State) × Runs o (take n calls) (take n answers) y
  -- "each call answers as the book in document 01 does"
  pub answered : answers ≡ answers_of (bounds_of o) calls
  -- "After the list the record's count of nodes equals the number of different parts of all families handed out so
  -- far."
  pub counted : x.store.count ≡ length (distinct (all_parts (handed_out (bounds_of o) calls)))
  -- document 02: "the added numbers since Fresh sum to the count in the record"
  pub summed : added_sum answers ≡ x.store.count
  -- "Every handle up to count + 1 means the book's family of its number": all of them, in their order
  pub held : book_of x.nodes x.store.count ≡ book_of_calls (bounds_of o) calls
  pub meant : (h : ℕ) → h ≤ x.store.count + 1 → meaning x h ≡ at (book_of_calls (bounds_of o) calls) h
  -- "two are equal exactly when their families are"
  pub equal : (h k : ℕ) → h ≤ x.store.count + 1 → k ≤ x.store.count + 1 → (h ≡ k) ↔ (meaning x h ≡ meaning x k)
  -- the same of sets of combinations: every such handle means an ordered family of items up to the store's limit, and
  -- two are equal exactly when the same combinations are members of their families
  pub ordered : (h : ℕ) → h ≤ x.store.count + 1 → Within o.limit (meaning x h)
  pub equal_sets : (h k : ℕ) → h ≤ x.store.count + 1 → k ≤ x.store.count + 1 → (h ≡ k) ↔ SameMembers (meaning x h) (meaning x k)
  -- "and one given still means the family it was given for"
  pub kept : (g : Handout) → Memᴰ g (handed_out (bounds_of o) calls) → (g.handle ≤ x.store.count + 1) × (meaning x g.handle ≡ g.family)
  -- and every handle held means the same after any list that goes on from this one
  pub lasting : (more : List Call) {theirs : List Answer} {y : State} → Runs o (calls ++ more) theirs y
      → (h : ℕ) → h ≤ x.store.count + 1 → (h ≤ y.store.count + 1) × (meaning y h ≡ meaning x h)
  -- "Any two files saved in such lists, on one store or on two, whatever the calls and sizes of each, are equal
  -- exactly when the families are"; document 02: "the file law of demand 3 now covers stores with different limits"
  pub files : {o' : Opening} {others : List Call} {theirs : List Answer} {y : State} → Runs o' others theirs y
      → (f g : SavedFile) → Memᴰ f (files_of (bounds_of o) calls answers) → Memᴰ g (files_of (bounds_of o') others theirs)
      → (f.bytes ≡ g.bytes) ↔ (f.family ≡ g.family)
  -- and exactly when the same combinations are members of the families
  pub file_sets : {o' : Opening} {others : List Call} {theirs : List Answer} {y : State} → Runs o' others theirs y
      → (f g : SavedFile) → Memᴰ f (files_of (bounds_of o) calls answers) → Memᴰ g (files_of (bounds_of o') others theirs)
      → (f.bytes ≡ g.bytes) ↔ SameMembers f.family g.family

-- "For every list of subset, change, union, intersection, difference, size, membership, save, load and audit calls
-- from a fresh store, refused calls included, in words that only these calls write"; document 02 of Even and Odd: "They
-- belong to the lists of demand 3 from then on", and "so do the calls of Nos. 1 to 3": the sums of weights and both
-- entries of Size; document 01: "a single claim about the list, of any length, and not one for each call".
abbrev pub Claim : Type 0
Claim = (o : Opening) (calls : List Call) (answers : List Answer) (x : State) → Runs o calls answers x → Demand3 o calls answers x
