-- The even and the odd part of a family: each has the members of its parity and keeps to the limit, they share no
-- member, and their union is the family.
-- One induction on the family serves both parts, which change places on each with-side as the number of items does.
use Prim.Native.Nat.{ℕ, suc, ◌%◌}
use mathlib.Core.Path.{◌≡◌, refl, sym, ap, ◌∙◌}
use mathlib.Core.Bool.{Bool, true, false, cond, not, ◌&&◌, ◌||◌}
use mathlib.Core.List.{List, [], ◌∷◌}
use native.Mathlib.Omega.{arith}
use lib.Dec.{eqb}
use lib.ListN.{length}
use borrow.Author.Tests.{eq-eqb, ne_eqb}
use Rattle.words.proofs.Cases.{by_eq}
use Rattle.family.specs.Family.{Family, empty, base, node, top, mk, Ordered, Within, has}
use Rattle.family.specs.Operation.{lacking, holding, union, intsec}
use Rattle.family.specs.Parity.{parity, of_parity}
use Rattle.family.proofs.Diagrams.{within_more, within_leaf, within_mk, has_mk, leaf_nil, leaf_cons}
use Rattle.family.proofs.Combine.{combine_is}

-- "Zero is even": {{}} is its own even part, and its odd part is {}
zero_even : parity true base ≡ base
zero_even = refl

zero_odd : parity false base ≡ empty
zero_odd = refl

-- the same of the combination without items; an item more changes the parity
of_none : (even : Bool) → of_parity even [] ≡ even
unfolding of_parity
of_none true = refl
of_none false = refl

of_more : (even : Bool) (x : ℕ) (c : List ℕ) → of_parity even (x ∷ c) ≡ of_parity (not even) c
unfolding of_parity
of_more even x c = at even (length c)
  where
    at : (even : Bool) (n : ℕ) → eqb (suc n % 2) (cond even 0 1) ≡ eqb (n % 2) (cond (not even) 0 1)
    at true n = by_eq (n % 2) 1 (λ p e. rw (e, eq-eqb (suc n % 2) 0 (omega arith))) (λ p e. rw (e, ne_eqb (suc n % 2) 0 (omega arith)))
    at false n = by_eq (n % 2) 0 (λ p e. rw (e, eq-eqb (suc n % 2) 1 (omega arith))) (λ p e. rw (e, ne_eqb (suc n % 2) 1 (omega arith)))

-- a combination has one parity and not the other
of_other : (even : Bool) (c : List ℕ) → of_parity (not even) c ≡ not (of_parity even c)
of_other even [] = of_none (not even) ∙ ap not (sym (of_none even))
of_other even (x ∷ c) = of_more (not even) x c ∙ of_other (not even) c ∙ ap not (sym (of_more even x c))

own_within : (even : Bool) (F : Family) → Ordered F → Within (top F) (parity even F)
own_within even empty h = record { ordered = tt; low = omega arith }
own_within even base h = within_leaf 0 even
own_within even (node i a b) h = within_mk (own_within even a h.3) (own_within _ b h.4) h.0 h.1

pub within_parity : {t : ℕ} (even : Bool) (F : Family) → Within t F → Within t (parity even F)
within_parity {t} even F h = within_more t (own_within even F h.ordered) h.low

-- "the members with an even number of items and those with an odd number"
pub has_parity : (even : Bool) (F : Family) (c : List ℕ) → Ordered F → has (parity even F) c ≡ has F c && of_parity even c
has_parity even empty c h = refl
has_parity even base [] h = leaf_nil even ∙ sym (of_none even)
has_parity even base (x ∷ c) h = leaf_cons even x c
has_parity even (node i a b) [] h = has_mk {i = i} (parity (not even) b) [] (own_within even a h.3) h.0 ∙ has_parity even a [] h.3
has_parity even (node i a b) (x ∷ c) h =
    has_mk {i = i} (parity (not even) b) (x ∷ c) (own_within even a h.3) h.0
    ∙ by_eq x i
    (λ p e. rw e (has_parity (not even) b c h.4 ∙ ap (λ t. has b c && t) (sym (of_more even x c))))
    (λ p e. rw e (has_parity even a (x ∷ c) h.3))

module _ (even : Bool) (F : Family) (o : Ordered F) where
  members_of : (f : Bool → Bool → Bool) (c : List ℕ) → f (has (parity even F) c) (has (parity (not even) F) c) ≡ f (has F c && of_parity even c) (has F c && not (of_parity even c))
  members_of f c = rw (has_parity even F c o, has_parity (not even) F c o, of_other even c)

  -- "The two results share no member"
  pub parity_apart : intsec (parity even F) (parity (not even) F) ≡ empty
  parity_apart =
      combine_is ◌&&◌ refl (parity even F) (parity (not even) F) empty (own_within even F o).ordered (own_within (not even) F o).ordered tt
      (λ c. members_of ◌&&◌ c ∙ none (has F c) (of_parity even c))
    where
      none : (p q : Bool) → (p && q) && (p && not q) ≡ false
      none true true = refl
      none true false = refl
      none false q = refl

  -- "and their union has the handle of the family"
  pub parity_union : union (parity even F) (parity (not even) F) ≡ F
  parity_union =
      combine_is ◌||◌ refl (parity even F) (parity (not even) F) F (own_within even F o).ordered (own_within (not even) F o).ordered o
      (λ c. members_of ◌||◌ c ∙ whole (has F c) (of_parity even c))
    where
      whole : (p q : Bool) → (p && q) || (p && not q) ≡ p
      whole true true = refl
      whole true false = refl
      whole false q = refl

-- one step at any item, by the two cofactors there
pub parity_step : (even : Bool) (i : ℕ) (F : Family) → parity even F ≡ mk i (parity even (lacking i F)) (parity (not even) (holding i F))
parity_step even i empty = refl
parity_step even i base = refl
parity_step even i (node j a b) = by_eq j i (λ p e. rw (e, p)) (λ p e. rw e)

-- the terminal cases: without items the even part is the family and the odd part is {}
pub parity_leaf : (even : Bool) (F : Family) → Ordered F → top F ≡ 0 → parity even F ≡ cond even F empty
parity_leaf true empty h e = refl
parity_leaf true base h e = refl
parity_leaf false empty h e = refl
parity_leaf false base h e = refl
parity_leaf even (node i a b) h e = absurd (omega (arith, h.0))
