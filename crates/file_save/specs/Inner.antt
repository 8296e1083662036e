-- What the functions below Save promise each other. A reader of the promise can pass this page over.
use Rattle.std.specs.Prelude.{ℕ, ◌+◌, ◌≤◌, ◌<◌, ◌≡◌, cond, Option, IsSomeAnd, ⊤, Result, Ok, Err, List, ◌++◌, eqb, length, get_or, set, drop}
use Rattle.family.specs.Family.{Family, largest_item}
use Rattle.family.specs.Book.{at}
use Rattle.family.specs.File.{file_of_book, file_of}
use Rattle.store.specs.declared.record.Store.{Store}
use Rattle.store.specs.declared.record.Refusal.{Refusal}
use Rattle.store.specs.declared.record.Refusal.TheVariants.{Output}
use Rattle.store.specs.Inner.{Holds}
use Rattle.file_trail.specs.declared.trail.Trail.{Trail}
use Rattle.file_trail.specs.Inner.{Lent, Trailed}

-- the file of {} or {{}}
pub record LeafOf (p : ℕ) (out : List ℕ) (r : Result ℕ Refusal) (out' : List ℕ) : Type 0 where
  pub long_out : length out' ≡ length out
  pub refused : length out ≡ 0 → (r ≡ Err Output) × (out' ≡ out)
  pub gave : (length out ≡ 0 → ⊥) → (r ≡ Ok 1) × (out' ≡ set out 0 (cond (eqb p 0) 0 2))

-- the file of the parts of a trail
pub record FileOf (t : Trail) (nodes : List ℕ) (n : ℕ) (links out : List ℕ) (r : Option ⊤) (links' out' : List ℕ) : Type 0 where
  pub long : length links' ≡ length links
  pub long_out : length out' ≡ length out
  pub rest : (k : ℕ) → n ≤ k → get_or links' k 0 ≡ get_or links k 0
  pub sound : {limit : ℕ} (B D : List Family) (lookup : List ℕ) → Holds limit B n nodes lookup → Trailed limit B D n t links → t.bytes ≤ length out
      → IsSomeAnd r (λ _. out' ≡ file_of_book D ++ drop (length (file_of_book D)) out)

-- what `save_parts` is asked with: the handle of a node, a link for each node held, and a limit not above the largest
pub record SavePartsAsks (s : Store) (nodes : List ℕ) (p : ℕ) (links : List ℕ) : Type 0 where
  pub lent : Lent nodes s.count links
  pub two : 2 ≤ p
  pub inside : p ≤ s.count + 1
  pub limit_low : s.limit ≤ largest_item

-- the file of a family with parts, where the words hold a book of the store's limit
pub record PartsOf (s : Store) (p : ℕ) (nodes links out : List ℕ) (r : Result ℕ Refusal) (links' out' : List ℕ) : Type 0 where
  pub long : length links' ≡ length links
  pub long_out : length out' ≡ length out
  pub rest : (k : ℕ) → s.count ≤ k → get_or links' k 0 ≡ get_or links k 0
  pub refused : (B : List Family) (lookup : List ℕ) → Holds s.limit B s.count nodes lookup → length out < length (file_of (at B p)) → (r ≡ Err Output) × (out' ≡ out)
  pub gave : (B : List Family) (lookup : List ℕ) → Holds s.limit B s.count nodes lookup → length (file_of (at B p)) ≤ length out
      → (r ≡ Ok (length (file_of (at B p)))) × (out' ≡ file_of (at B p) ++ drop (length (file_of (at B p))) out)
