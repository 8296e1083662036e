-- Answers: a handle or a refusal, never both, and what each says of the book.
-- The two constructors differ, so an equation with one rules the other out.
use Prim.Native.Nat.{ℕ, ◌≤◌}
use mathlib.Core.Path.{◌≡◌, refl, ap, ◌∙◌}
use mathlib.Core.List.{List}
use native.Mathlib.Omega.{arith}
use lib.ListN.{length}
use Rattle.family.specs.Family.{Family}
use Rattle.store.specs.declared.record.Unplaced.{Unplaced}
use Rattle.std.proofs.Common.{Result, Ok, Err, IsErrAnd}
use Rattle.std.proofs.lemmas.Result.{err_from_is_err_and}
use Rattle.store.specs.Inner.{Handed, Outcome, gave, full}
use Rattle.store.specs.declared.record.Unplaced.TheVariants.{Full, Damaged}

pub not_both {ℓ} : {A : Type ℓ} {a : Result ℕ Unplaced} (h : ℕ) (x : Unplaced) → a ≡ Ok h → a ≡ Err x → A
not_both h x e d = absurd (let z : ◌≡◌ {A = ℕ} 0 1 = cc in omega arith)

pub refused_same : {a : Result ℕ Unplaced} (x y : Unplaced) → a ≡ Err x → a ≡ Err y → x ≡ y
refused_same x y e d = cc

-- a handle answered is a family handed over; a refusal for lack of room stays one where more is to be placed
pub handed_of : {limit : ℕ} {C : List Family} {F : Family} {capacity n h : ℕ} {nodes lookup : List ℕ} {a : Result ℕ Unplaced} → a ≡ Ok h → Outcome limit C F capacity n nodes lookup a → Handed limit C F h n nodes lookup
handed_of e A = out (rw e at A)
  where
    out : {limit : ℕ} {C : List Family} {F : Family} {capacity n h : ℕ} {nodes lookup : List ℕ} → Outcome limit C F capacity n nodes lookup (Ok h) → Handed limit C F h n nodes lookup
    out (gave G) = G

pub refused_on : {limit : ℕ} {C C' : List Family} {F F' : Family} {capacity n : ℕ} {nodes lookup : List ℕ} {a : Result ℕ Unplaced} (x : Unplaced) → a ≡ Err x → length C ≤ length C'
    → Outcome limit C F capacity n nodes lookup a → Outcome limit C' F' capacity n nodes lookup a
refused_on x e l (gave {h = h} G) = not_both h x refl e
refused_on x e l (full D H m) = full D H (omega arith)

-- an answer is a handle or a refusal
pub by_answer {ℓ} : {A : Type ℓ} (a : Result ℕ Unplaced) → ((h : ℕ) → a ≡ Ok h → A) → ((x : Unplaced) → a ≡ Err x → A) → A
by_answer (Ok h) f g = f h refl
by_answer (Err x) f g = g x refl

pub handle_is : {g h : ℕ} → ◌≡◌ {A = Result ℕ Unplaced} (Ok g) (Ok h) → g ≡ h
handle_is e = cc

pub refused_not {ℓ} : {A : Type ℓ} {a : Result ℕ Unplaced} (h : ℕ) → a ≡ Err Full → a ≡ Ok h → A
refused_not h e d = absurd (let z : ◌≡◌ {A = ℕ} 0 1 = cc in omega arith)

pub damaged_not {ℓ} : {A : Type ℓ} {a : Result ℕ Unplaced} (h : ℕ) → a ≡ Err Damaged → a ≡ Ok h → A
damaged_not h e d = absurd (let z : ◌≡◌ {A = ℕ} 0 1 = cc in omega arith)

-- what `?` hands on is the refusal that it met
pub passed_on : {T E : Type 0} {x : E} (r : Result T E) → IsErrAnd r (λ y. y ≡ x) → r ≡ Err x
passed_on r e = let p = err_from_is_err_and r e in p.1 ∙ ap Err p.2
