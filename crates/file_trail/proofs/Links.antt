-- Links: what reading and setting one says of the words.
-- A link stands at its handle less 2, so that different handles have different words.
use Prim.Native.Nat.{ℕ, ◌+◌, ◌-◌, ◌≤◌, ◌<◌}
use mathlib.Core.Path.{◌≡◌, sym, ap, ◌∙◌}
use mathlib.Core.Bool.{true, not}
use mathlib.Core.List.{List}
use native.Mathlib.Omega.{arith}
use lib.Dec.{eqb}
use lib.ListN.{length, get_or, set, length-set}
use lib.Seq.{get_or-set_same, get_or-set_other}
use borrow.Author.Tests.{eq-eqb, ne_eqb, lt-ltb, le-ltb}
use Rattle.words.proofs.Cases.{by_lt}
use Rattle.file_trail.specs.declared.trail.Trail.{Trail}
use Rattle.file_trail.specs.Inner.{met_in, linked, first_of}

module _ (links : List ℕ) (p : ℕ) where
  pub met_leaf : p < 2 → true ≡ met_in links p
  unfolding met_in
  met_leaf l = rw (lt-ltb p 2 l)

  pub met_word : 2 ≤ p → not (eqb (get_or links (p - 2) 0) 0) ≡ met_in links p
  unfolding met_in
  met_word l = rw (le-ltb p 2 l)

  pub linked_leaf : (next : ℕ) → p < 2 → links ≡ linked links p next
  unfolding linked
  linked_leaf next l = rw (lt-ltb p 2 l)

  pub linked_word : (next : ℕ) → 2 ≤ p → set links (p - 2) next ≡ linked links p next
  unfolding linked
  linked_word next l = rw (le-ltb p 2 l)

  pub linked_length : (next : ℕ) → length (linked links p next) ≡ length links
  linked_length next = by_lt p 2 (λ l e. ap length (sym (linked_leaf next l))) (λ l e. ap length (sym (linked_word next l)) ∙ length-set links (p - 2) next)

  pub linked_other : (next k : ℕ) → (k + 2 ≡ p → ⊥) → get_or (linked links p next) k 0 ≡ get_or links k 0
  linked_other next k n =
      by_lt p 2 (λ l e. ap (λ X. get_or X k 0) (sym (linked_leaf next l)))
      (λ l e. ap (λ X. get_or X k 0) (sym (linked_word next l)) ∙ get_or-set_other links (p - 2) k next 0 (omega arith))

  pub linked_here : (next : ℕ) → 2 ≤ p → p ≤ length links + 1 → get_or (linked links p next) (p - 2) 0 ≡ next
  linked_here next l m = ap (λ X. get_or X (p - 2) 0) (sym (linked_word next l)) ∙ get_or-set_same links (p - 2) next 0 (omega arith)

-- the links of a visit: p behind the last part
module _ (links : List ℕ) (last p : ℕ) where
  pub behind_long : length (linked (linked links last p) p p) ≡ length links
  behind_long = linked_length (linked links last p) p p ∙ linked_length links last p

  pub behind_here : 2 ≤ p → p ≤ length links + 1 → get_or (linked (linked links last p) p p) (p - 2) 0 ≡ p
  behind_here l m = linked_here (linked links last p) p p l (omega (arith, linked_length links last p))

  pub behind_last : 2 ≤ last → last ≤ length links + 1 → (last ≡ p → ⊥) → get_or (linked (linked links last p) p p) (last - 2) 0 ≡ p
  behind_last l m n = linked_other (linked links last p) p p (last - 2) (omega arith) ∙ linked_here links last p l m

  pub behind_other : (k : ℕ) → (k + 2 ≡ p → ⊥) → (k + 2 ≡ last → ⊥) → get_or (linked (linked links last p) p p) k 0 ≡ get_or links k 0
  behind_other k n m = linked_other (linked links last p) p p k n ∙ linked_other links last p k m

-- the first part
module _ (t : Trail) (p : ℕ) where
  pub first_new : t.parts ≡ 0 → p ≡ first_of t p
  unfolding first_of
  first_new e = rw (eq-eqb t.parts 0 e)

  pub first_old : (t.parts ≡ 0 → ⊥) → t.first ≡ first_of t p
  unfolding first_of
  first_old e = rw (ne_eqb t.parts 0 e)
