-- The families that calls take keep to the limit: those of an operation and those of a file.
-- An operation keeps to the limit of its operands, and reading a file adds only nodes that fit a book.
use Prim.Native.Nat.{ℕ, zero, suc, ◌≤◌, ◌<◌}
use mathlib.Core.Path.{◌≡◌, sym, ◌∙◌}
use mathlib.Core.Bool.{true, cond, ◌&&◌}
use mathlib.Core.List.{List, [], ◌∷◌, ◌++◌}
use mathlib.Core.Option.{none, some}
use native.Mathlib.Omega.{arith}
use lib.Dec.{eqb, ltb}
use Rattle.words.proofs.Cases.{by_eq, by_lt}
use Rattle.family.specs.Family.{Family, empty, base, Within}
use Rattle.family.specs.Book.{start, at, Book}
use Rattle.family.specs.Record.{read_number, Triple, triple, item_of, read_record}
use Rattle.family.specs.File.{node_of, fits, read_records, and_then, order, last_of, read_parts, alone, family_of}
use Rattle.family.proofs.Books.{at_within, book_start}
use Rattle.family.proofs.Parity.{within_parity}
use Rattle.family.proofs.Records.{not_some, then_inv}
use Rattle.family.proofs.Orders.{and_then_inv, cond_inv}
use Rattle.family.proofs.Reading.{fits_next, book_next}
use Rattle.store.specs.Operations.{named}
use Rattle.store.proofs.Naming.{named_families, named_item, named_parity, families_within, restrict_within}
use Rattle.store.specs.Tests.{item_test}
use Rattle.store.proofs.Testing.{item_passed, passes}
use Rattle.op_promise.proofs.Refusing.{item_number}
use Rattle.op_promise.specs.Promise.{operation_refusal}

-- an operation that is not refused has an item where it takes one
item_some : (op limit n p q : ℕ) → op < 4 → operation_refusal op limit n p q ≡ 0 → (1 ≤ q) × (q ≤ limit)
item_some op limit n p q l e = item_passed limit q (passes n p 0 (item_test limit q) 0 0 (sym (item_number op limit n p q l) ∙ e)).none

-- the family that an operation names, by the operation's number
pub named_within : {limit : ℕ} (op : ℕ) (B : List Family) → Book limit B → (n p q : ℕ) → operation_refusal op limit n p q ≡ 0 → Within limit (named op B p q)
named_within {limit} op B book n p q e =
    by_lt op 4
    (λ l t. let i = item_some op limit n p q l e in rw (named_item op B p q l) (restrict_within op q (at B p) i.0 i.1 (at_within B book p)))
    (λ l t. by_lt op 7
    (λ m u. rw (named_families op B p q l (omega arith)) (families_within op (at B p) (at B q) (at_within B book p) (at_within B book q)))
    (λ m u. rw (named_parity op B p q m) (within_parity (eqb op 7) (at B p) (at_within B book p))))

-- reading a file
module _ (limit : ℕ) where
  records_book : (k : ℕ) (C : List Family) (pi pn : ℕ) (l : List ℕ) → Book limit C → (B : List Family) → read_records limit k C pi pn l ≡ some B → Book limit B
  records_book zero C pi pn [] book B e = let p : C ≡ B = cc in rw p at book
  records_book zero C pi pn (x ∷ l) book B e = not_some e
  records_book (suc k) C pi pn l book B e =
      then_inv (read_record pi pn l) (λ t r. cond (fits limit C t) (read_records limit k (C ++ (node_of C t ∷ [])) (item_of t) (suc pn) r) none) B e
      (λ t r e₁ k₁. cond_inv (fits limit C t) (read_records limit k (C ++ (node_of C t ∷ [])) (item_of t) (suc pn) r) B k₁
      (λ p d. step t p (λ book'. records_book k (C ++ (node_of C t ∷ [])) (item_of t) (suc pn) r book' B d)))
    where
      step : (t : Triple) → fits limit C t ≡ true → (Book limit (C ++ (node_of C t ∷ [])) → Book limit B) → Book limit B
      step (triple i z o) p rest = rest (book_next C book i z o (fits_next limit C i z o p))

  last_within : (n : ℕ) (B : List Family) → Book limit B → (F : Family) → last_of n B ≡ some F → Within limit F
  unfolding last_of
  last_within n B book F e =
      and_then_inv (order B (at B (suc n)) 2) (λ m. cond (eqb m (suc (suc n))) (some (at B (suc n))) none) F e
      (λ m e₁ k₁. cond_inv (eqb m (suc (suc n))) (some (at B (suc n))) F k₁
      (λ p d. let q : at B (suc n) ≡ F = cc in rw q at (at_within B book (suc n))))

  parts_within : (l : List ℕ) (F : Family) → read_parts limit l ≡ some F → Within limit F
  unfolding read_parts
  parts_within l F e =
      then_inv (read_number 4 l) (λ n r. cond (ltb 0 n && ltb n 4294967295) (and_then (read_records limit n start 0 1 r) (λ B. last_of n B)) none) F e
      (λ n r e₁ k₁. cond_inv (ltb 0 n && ltb n 4294967295) (and_then (read_records limit n start 0 1 r) (λ B. last_of n B)) F k₁
      (λ p k₂. and_then_inv (read_records limit n start 0 1 r) (λ B. last_of n B) F k₂
      (λ B e₂ k₃. last_within n B (records_book n start 0 1 r (book_start limit) B e₂) F k₃)))

  alone_within : (G F : Family) (l : List ℕ) → Within limit G → alone G l ≡ some F → Within limit F
  alone_within G F [] w e = let p : G ≡ F = cc in rw p at w
  alone_within G F (x ∷ l) w e = not_some e

  pub file_within : (b : List ℕ) (F : Family) → family_of limit b ≡ some F → Within limit F
  file_within [] F e = not_some e
  file_within (x ∷ l) F e =
      by_eq x 1 (λ p t. parts_within l F (rw t at e))
      (λ p t. by_eq x 0
      (λ p₀ t₀. alone_within empty F l (record { ordered = tt; low = omega arith }) (rw (t, t₀) at e))
      (λ n₀ t₀. by_eq x 2
      (λ p₂ t₂. alone_within base F l (record { ordered = tt; low = omega arith }) (rw (t, t₀, t₂) at e))
      (λ n₂ t₂. not_some (rw (t, t₀, t₂) at e))))
