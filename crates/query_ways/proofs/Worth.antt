-- What the ways in a window come to: words that agree are worth the same, and a word that rises by so many ways is worth as
-- many sizes more.
-- By induction on the words that are still to be gone through.
use Prim.Native.Nat.{ℕ, zero, suc, ◌+◌, ◌*◌, ◌≤◌, ◌<◌}
use mathlib.Core.Path.{◌≡◌, refl, sym, subst}
use mathlib.Core.List.{List}
use native.Mathlib.Omega.{arith}
use native.Mathlib.Nat.{zero-mul, add-mul}
use lib.ListN.{length, get_or, set}
use lib.Seq.{get_or-set_same, get_or-set_other}
use Rattle.words.proofs.Cases.{by_eq}
use Rattle.family.specs.Family.{Family, size}
use Rattle.family.specs.Book.{at}
use Rattle.query_ways.specs.Inner.{worth}

module _ (B : List Family) (low : ℕ) where
  pub worth_same : (words words' : List ℕ) (left : ℕ) → ((i : ℕ) → i < left → get_or words' i 0 ≡ get_or words i 0) → worth B low words' left ≡ worth B low words left
  worth_same words words' zero s = refl
  worth_same words words' (suc left) s = rw (worth_same words words' left (λ i l. s i (omega arith)), s left (omega arith))

  pub worth_rises : (words : List ℕ) (k ways left : ℕ) → k < left → left ≤ length words
      → worth B low (set words k (get_or words k 0 + ways)) left ≡ worth B low words left + ways * size (at B (low + k))
  worth_rises words k ways zero l m = absurd (omega arith)
  worth_rises words k ways (suc left) l m =
      by_eq k left
      (λ e d. subst (λ j. worth B low (set words j (get_or words j 0 + ways)) (suc left) ≡ worth B low words (suc left) + ways * size (at B (low + j))) (sym e) (rw (
        worth_same words (set words left (get_or words left 0 + ways)) left (λ i h. get_or-set_other words left i (get_or words left 0 + ways) 0 (λ q. omega arith)),
        get_or-set_same words left (get_or words left 0 + ways) 0 (omega arith),
        add-mul,
      ) (omega arith)))
      (λ n d. rw (worth_rises words k ways left (omega arith) (omega arith), get_or-set_other words k left (get_or words k 0 + ways) 0 (λ q. omega arith)) (omega arith))

  -- no ways are worth nothing
  pub worth_none : (words : List ℕ) (left : ℕ) → ((i : ℕ) → i < left → get_or words i 0 ≡ 0) → worth B low words left ≡ 0
  worth_none words zero s = refl
  worth_none words (suc left) s = rw (worth_none words left (λ i l. s i (omega arith)), s left (omega arith), zero-mul) refl

  -- one way to the last handle is worth its size
  pub worth_one : (words : List ℕ) (left : ℕ) → ((i : ℕ) → i < left → get_or words i 0 ≡ 0) → get_or words left 0 ≡ 1 → worth B low words (suc left) ≡ size (at B (low + left))
  worth_one words left s e = rw (worth_none words left s, e) (omega arith)
