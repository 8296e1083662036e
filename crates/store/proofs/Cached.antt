-- A cache that is true of a book is true of every book that it grows to.
-- What an operation names hangs on its operands alone, and these stay where they are.
use Prim.Native.Nat.{ℕ}
use mathlib.Core.Path.{sym, ◌∙◌}
use mathlib.Core.List.{List}
use mathlib.Core.Logic.{inl, inr, ⊎_elim}
use native.Mathlib.Omega.{arith}
use Rattle.family.specs.Family.{Family}
use Rattle.family.specs.Book.{Grown}
use Rattle.family.proofs.Books.{grown_at, grown_length}
use Rattle.store.specs.Cache.{Truth, True}
use Rattle.store.proofs.Naming.{named_grown}

-- a true cache, in a book that grew
pub truth_grown : {limit : ℕ} {B C : List Family} {op p q h : ℕ} → Grown B C → Truth limit B op p q h → Truth limit C op p q h
truth_grown {B} {C} {op} {p} {q} {h} g t =
    let l = grown_length g in
    record {
      operation = t.operation;
      first = omega (arith, t.first);
      second = (λ m. t.second.0 m, λ m. omega (arith, t.second.1 m), t.second.2);
      result = omega (arith, t.result);
      means = grown_at g h t.result ∙ t.means ∙ sym (named_grown g op p q t.first t.second.1);
    }

pub true_grown : {limit : ℕ} {B C : List Family} {cache : List ℕ} → Grown B C → True limit B cache → True limit C cache
true_grown g t = record { each = λ r op p q h G. ⊎_elim (λ z. inl z) (λ u. inr (truth_grown g u)) (t.each r op p q h G) }
