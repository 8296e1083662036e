-- The family that an operation names: it hangs on its operands alone, keeps to the limit, and follows the equations
-- of the recursion.
-- Operations 4 to 6 are one combination by a rule on memberships; 1 to 3 are the three restrictions by an item; 7 and 8
-- are the parts of either parity.
use Prim.Native.Nat.{ℕ, suc, ◌≤◌, ◌<◌}
use mathlib.Core.Path.{◌≡◌, refl, sym, ap, ◌∙◌}
use mathlib.Core.Bool.{Bool, true, false, ◌&&◌, ◌||◌, or_comm, and_comm}
use mathlib.Core.List.{List}
use native.Mathlib.Omega.{arith}
use lib.Dec.{eqb}
use lib.ListN.{length}
use borrow.Author.Tests.{eq-eqb, ne_eqb, lt-ltb, le-ltb}
use Rattle.family.specs.Family.{Family, empty, base, node, top, mk, Ordered, Within}
use Rattle.family.specs.Operation.{subset1, subset0, change, lacking, holding, minus, combine}
use Rattle.family.specs.Parity.{parity}
use Rattle.family.specs.Book.{at, Grown}
use Rattle.family.proofs.Books.{grown_at}
use Rattle.family.proofs.Combine.{within_combine, combine_step, combine_swap, union_self, intsec_self, diff_self, union_empty, empty_union, intsec_empty, empty_intsec, diff_empty, empty_diff}
use Rattle.family.proofs.Restrict.{within_subset1, within_subset0, within_change, subset1_low, subset0_low, change_low, subset1_at, subset0_at, change_at, subset1_high, subset0_high, change_high}
use Rattle.words.proofs.Cases.{by_eq, by_lt}
use Rattle.store.specs.Operations.{restrict, rule, parity_number, named}

pub named_families : (op : ℕ) (B : List Family) (p q : ℕ) → 4 ≤ op → op ≤ 6 → named op B p q ≡ combine (rule op) (at B p) (at B q)
unfolding named
named_families op B p q h m = rw (le-ltb op 4 h, lt-ltb op 7 (omega arith))

pub named_item : (op : ℕ) (B : List Family) (p q : ℕ) → op < 4 → named op B p q ≡ restrict op q (at B p)
unfolding named
named_item op B p q h = rw (lt-ltb op 4 h)

pub named_parity : (op : ℕ) (B : List Family) (p q : ℕ) → 7 ≤ op → named op B p q ≡ parity (eqb op 7) (at B p)
unfolding named
named_parity op B p q h = rw (le-ltb op 4 (omega arith), le-ltb op 7 h)

pub named_part : (even : Bool) (B : List Family) (p q : ℕ) → named (parity_number even) B p q ≡ parity even (at B p)
named_part true B p q = named_parity 7 B p q (omega arith)
named_part false B p q = named_parity 8 B p q (omega arith)

-- it stays the same in a book that grew
pub named_grown : {B C : List Family} → Grown B C → (op p q : ℕ) → p < length B → (4 ≤ op → q < length B) → named op C p q ≡ named op B p q
named_grown {B} {C} g op p q lp lq =
    by_lt op 4
    (λ h e. named_item op C p q h ∙ ap (λ X. restrict op q X) (grown_at g p lp) ∙ sym (named_item op B p q h))
    (λ h e. by_lt op 7
    (λ m d. named_families op C p q h (omega arith) ∙ rw (grown_at g p lp, grown_at g q (lq h)) (sym (named_families op B p q h (omega arith))))
    (λ m d. named_parity op C p q m ∙ ap (λ X. parity (eqb op 7) X) (grown_at g p lp) ∙ sym (named_parity op B p q m)))

-- the rules on memberships
module _ (op : ℕ) where
  pub rule_4 : op ≡ 4 → rule op ≡ ◌||◌
  unfolding rule
  rule_4 e = rw e

  pub rule_5 : op ≡ 5 → rule op ≡ ◌&&◌
  unfolding rule
  rule_5 e = rw e

  pub rule_6 : op ≡ 6 → rule op ≡ minus
  unfolding rule
  rule_6 e = rw e

  pub rule_false : rule op false false ≡ false
  unfolding rule
  rule_false = by_eq op 4 (λ p e. rw e) (λ p e. rw e (by_eq op 5 (λ q d. rw d) (λ q d. rw d)))

  pub rule_swap : 4 ≤ op → op ≤ 6 → (op ≡ 6 → ⊥) → (a b : Bool) → rule op a b ≡ rule op b a
  rule_swap l m n a b =
      by_eq op 4 (λ p e. rw (rule_4 p) (or_comm a b)) (λ p e. rw (rule_5 (omega arith)) (and_comm a b))

  -- Union and Intsec do not mind the order of their operands
  pub families_swap : (F G : Family) → 4 ≤ op → op ≤ 6 → (op ≡ 6 → ⊥) → Ordered F → Ordered G → combine (rule op) F G ≡ combine (rule op) G F
  families_swap F G l m n hF hG = combine_swap (rule op) rule_false (rule_swap l m n) F G hF hG

  -- the terminal cases
  pub both_same : (F : Family) → 4 ≤ op → op ≤ 6 → (op ≡ 6 → ⊥) → Ordered F → combine (rule op) F F ≡ F
  both_same F l m n h = by_eq op 4 (λ p e. rw (rule_4 p) (union_self F h)) (λ p e. rw (rule_5 (omega arith)) (intsec_self F h))

  pub both_none : (F : Family) → op ≡ 6 → Ordered F → combine (rule op) F F ≡ empty
  both_none F e h = rw (rule_6 e) (diff_self F h)

  pub first_union : (F : Family) → op ≡ 4 → Ordered F → combine (rule op) empty F ≡ F
  first_union F e h = rw (rule_4 e) (empty_union F h)

  pub first_none : (F : Family) → 4 ≤ op → op ≤ 6 → (op ≡ 4 → ⊥) → Ordered F → combine (rule op) empty F ≡ empty
  first_none F l m n h = by_eq op 5 (λ p e. rw (rule_5 p) (empty_intsec F h)) (λ p e. rw (rule_6 (omega arith)) (empty_diff F h))

  pub second_none : (F : Family) → op ≡ 5 → Ordered F → combine (rule op) F empty ≡ empty
  second_none F e h = rw (rule_5 e) (intsec_empty F h)

  pub second_same : (F : Family) → 4 ≤ op → op ≤ 6 → (op ≡ 5 → ⊥) → Ordered F → combine (rule op) F empty ≡ F
  second_same F l m n h = by_eq op 4 (λ p e. rw (rule_4 p) (union_empty F h)) (λ p e. rw (rule_6 (omega arith)) (diff_empty F h))

  -- one step at the larger top
  pub families_step : (i : ℕ) (F G : Family) → Within i F → Within i G → 0 < i
      → combine (rule op) F G ≡ mk i (combine (rule op) (lacking i F) (lacking i G)) (combine (rule op) (holding i F) (holding i G))
  families_step ℕ.zero F G hF hG l = absurd (omega arith)
  families_step (suc t) F G hF hG l = combine_step (rule op) rule_false hF hG

  pub families_within : {t : ℕ} (F G : Family) → Within t F → Within t G → Within t (combine (rule op) F G)
  families_within F G hF hG = within_combine (rule op) rule_false F G hF hG

-- the three restrictions
module _ (op v : ℕ) where
  pub restrict_within : {t : ℕ} (F : Family) → 1 ≤ v → v ≤ t → Within t F → Within t (restrict op v F)
  unfolding restrict
  restrict_within F l m h =
      by_eq op 1 (λ p e. rw e (within_subset1 v F h)) (λ p e. rw e (by_eq op 2 (λ q d. rw d (within_subset0 v F h)) (λ q d. rw d (within_change v F l m h))))

  -- v not below the top: the two sides at v
  module _ (F : Family) (l : top F ≤ v) where
    pub side_subset1 : op ≡ 1 → restrict op v F ≡ holding v F
    unfolding restrict
    side_subset1 e = rw e (go F l)
      where
        go : (F : Family) → top F ≤ v → subset1 v F ≡ holding v F
        go empty l = refl
        go base l = refl
        go (node i a b) l = by_eq i v (λ p e. subset1_at v i a b p ∙ rw e) (λ p e. subset1_low v (node i a b) (omega arith) ∙ rw e)

    pub side_subset0 : op ≡ 2 → restrict op v F ≡ lacking v F
    unfolding restrict
    side_subset0 e = rw e (go F l)
      where
        go : (F : Family) → top F ≤ v → subset0 v F ≡ lacking v F
        go empty l = refl
        go base l = refl
        go (node i a b) l = by_eq i v (λ p e. subset0_at v i a b p ∙ rw e) (λ p e. subset0_low v (node i a b) (omega arith) ∙ rw e)

    pub side_change : (op ≡ 1 → ⊥) → (op ≡ 2 → ⊥) → restrict op v F ≡ mk v (holding v F) (lacking v F)
    unfolding restrict
    side_change n m = rw (ne_eqb op 1 n, ne_eqb op 2 m) (go F l)
      where
        go : (F : Family) → top F ≤ v → change v F ≡ mk v (holding v F) (lacking v F)
        go empty l = refl
        go base l = refl
        go (node i a b) l = by_eq i v (λ p e. change_at v i a b p ∙ rw (e, p)) (λ p e. change_low v (node i a b) (omega arith) ∙ rw e)

  -- v below the top: one step
  pub restrict_step : (i : ℕ) (F : Family) → top F ≡ i → v < i → restrict op v F ≡ mk i (restrict op v (lacking i F)) (restrict op v (holding i F))
  unfolding restrict
  restrict_step i F t l =
      by_eq op 1 (λ p e. rw e (one F t))
      (λ p e. rw e (by_eq op 2 (λ q d. rw d (zeroth F t)) (λ q d. rw d (toggled F t))))
    where
      one : (F : Family) → top F ≡ i → subset1 v F ≡ mk i (subset1 v (lacking i F)) (subset1 v (holding i F))
      one empty t = absurd (omega arith)
      one base t = absurd (omega arith)
      one (node j a b) t = subset1_high v j a b (omega arith) ∙ rw (t, eq-eqb i i refl)

      zeroth : (F : Family) → top F ≡ i → subset0 v F ≡ mk i (subset0 v (lacking i F)) (subset0 v (holding i F))
      zeroth empty t = absurd (omega arith)
      zeroth base t = absurd (omega arith)
      zeroth (node j a b) t = subset0_high v j a b (omega arith) ∙ rw (t, eq-eqb i i refl)

      toggled : (F : Family) → top F ≡ i → change v F ≡ mk i (change v (lacking i F)) (change v (holding i F))
      toggled empty t = absurd (omega arith)
      toggled base t = absurd (omega arith)
      toggled (node j a b) t = change_high v j a b (omega arith) ∙ rw (t, eq-eqb i i refl)
