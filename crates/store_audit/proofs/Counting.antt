-- How many slots hold a number: slot by slot, and a lookup that is a part of another and holds as many numbers is
-- that other.
-- By induction on the slots: where a slot of the part is empty and that of the whole is not, the whole holds more.
use Rattle.std.proofs.Common.{◌≡◌, ℕ, suc, ◌≤◌, not, eqb, List, [], ◌∷◌, length, get_or, refl, sym, ◌∙◌, arith, count_by}
use Rattle.std.proofs.lemmas.List.Recursion.{is_count_by}
use Rattle.words.proofs.Cases.{by_eq}
use Rattle.table.specs.Entered.{used}

-- it is how many of its numbers are not 0
pub used_count : (l : List ℕ) → used l ≡ count_by (λ x. not (eqb x 0)) l
unfolding used
used_count l = is_count_by used (λ x. not (eqb x 0)) refl (λ x xs. by_eq x 0 (λ p e. rw e) (λ p e. rw e (omega arith))) l

-- each number of the one stands at its slot in the other
pub record Part (l m : List ℕ) : Type 0 where
  pub long : length l ≡ length m
  pub stands : (x : ℕ) → (get_or l x 0 ≡ 0 → ⊥) → get_or m x 0 ≡ get_or l x 0

part_tail : (x y : ℕ) (l m : List ℕ) → Part (x ∷ l) (y ∷ m) → Part l m
part_tail x y l m p = record { long = omega (arith, p.long); stands = λ k d. p.stands (suc k) d }

-- a part holds no more numbers
part_le : (l m : List ℕ) → Part l m → used l ≤ used m
unfolding used
part_le [] m p = omega arith
part_le (x ∷ l) [] p = absurd (omega (arith, p.long))
part_le (x ∷ l) (y ∷ m) p =
    let ih = part_le l m (part_tail x y l m p) in
    by_eq x 0
    (λ a d. by_eq y 0 (λ b e. rw (d, e) ih) (λ b e. rw (d, e) (omega arith)))
    (λ a d. by_eq y 0 (λ b e. absurd (a (sym (p.stands 0 a) ∙ b))) (λ b e. rw (d, e) (omega arith)))

-- a part that holds as many is the whole
pub part_whole : (l m : List ℕ) → Part l m → used m ≤ used l → l ≡ m
unfolding used
part_whole [] [] p u = refl
part_whole [] (y ∷ m) p u = absurd (omega (arith, p.long))
part_whole (x ∷ l) [] p u = absurd (omega (arith, p.long))
part_whole (x ∷ l) (y ∷ m) p u =
    let t = part_tail x y l m p in
    let v = part_le l m t in
    by_eq x 0
    (λ a d. by_eq y 0
    (λ b e. let r = part_whole l m t (rw (d, e) at u) in cc)
    (λ b e. absurd (omega (arith, rw (d, e) at u))))
    (λ a d. by_eq y 0
    (λ b e. absurd (a (sym (p.stands 0 a) ∙ b)))
    (λ b e. let q = p.stands 0 a in let r = part_whole l m t (omega (arith, rw (d, e) at u)) in cc))
