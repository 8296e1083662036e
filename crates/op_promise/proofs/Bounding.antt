-- The nodes that Union, Intsec or Diff adds to a sound store are at most (a + 2) × (b + 2), a and b the numbers of
-- different parts of the two families.
-- The promise says that at most the parts not held are added; those are parts of the result, which the law on families
-- bounds.
use Prim.Native.Nat.{ℕ, ◌≤◌}
use mathlib.Core.Path.{ap}
use mathlib.Core.List.{List}
use native.Mathlib.Omega.{arith}
use Rattle.family.specs.Family.{Family}
use Rattle.family.specs.Book.{at}
use Rattle.family.specs.Parts.{part_count, most_parts}
use Rattle.family.proofs.Books.{at_within}
use Rattle.family.proofs.Bound.{place_bound, parts_bound}
use Rattle.store.specs.declared.record.Store.{Store}
use Rattle.store.specs.declared.record.Placement.{Placement}
use Rattle.store.specs.declared.record.Answered.{Answered}
use Rattle.store.specs.Refusals.{given_by}
use Rattle.store.specs.Words.{book_of}
use Rattle.store.specs.Operations.{rule}
use Rattle.store.specs.Sound.{Sound}
use Rattle.store.specs.Promise.{PlaceCall}
use Rattle.store.proofs.Decoding.{sound_holds}
use Rattle.store.proofs.Naming.{named_families, rule_false}
use Rattle.store.proofs.Calls.{cost_length}
use Rattle.store.proofs.Ways.{added_cost}
use Rattle.op_promise.specs.Promise.{OperationCall}

-- what is added are parts of the result
pub added_parts : {n : ℕ} {F : Family} {s : Store} {nodes lookup cache : List ℕ} {r : Answered Placement} {nodes' lookup' cache' : List ℕ} → Sound s nodes lookup cache → PlaceCall n F s nodes lookup cache r nodes' lookup' cache'
    → (given_by r.answer).added ≤ part_count F
added_parts {n} {F} {s} {nodes} {lookup} S P =
    let B = book_of nodes s.count in
    omega (arith, ap (λ l. l.given.added) (P.on_sound S).leaves_is, added_cost n F s nodes lookup, cost_length B F, place_bound B F (sound_holds S).book)

-- "For Union, Intsec and Diff it is never above (a + 2) × (b + 2)": the operations 4 to 6
pub added_bound : (op p q : ℕ) → 4 ≤ op → op ≤ 6 → {s : Store} {nodes lookup cache : List ℕ} {r : Answered Placement} {nodes' lookup' cache' : List ℕ} → Sound s nodes lookup cache
    → OperationCall op p q s nodes lookup cache r nodes' lookup' cache' → (given_by r.answer).added ≤ most_parts (at (book_of nodes s.count) p) (at (book_of nodes s.count) q)
added_bound op p q l m {s} {nodes} S P =
    let B = book_of nodes s.count in
    let book = (sound_holds S).book in
    omega (arith, added_parts S P, ap part_count (named_families op B p q l m), parts_bound (rule op) (rule_false op) (at B p) (at B q) (at_within B book p).ordered (at_within B book q).ordered)
