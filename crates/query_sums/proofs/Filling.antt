-- The numbers of the nodes, put in rising number: each is worked out from those of its children, which stand before it.
-- What is put for node j + 2 changes no word of another node.
use Prim.Native.Nat.{ℕ, zero, suc, ◌+◌, ◌*◌, ◌-◌, ◌≤◌, ◌<◌}
use mathlib.Core.Path.{◌≡◌, refl, sym, ap, ◌∙◌}
use mathlib.Core.List.{List}
use native.Mathlib.Omega.{arith}
use lib.ListN.{get_or, drop, length-drop}
use lib.Seq.{get_or-drop, ext_get_or}
use Rattle.std.specs.Prelude.{Option}
use Rattle.words.proofs.Cases.{by_eq}
use Rattle.family.specs.Family.{Family, empty, base}
use Rattle.family.specs.Book.{at}
use Rattle.family.specs.Weights.{item_weight, sum_by_nodes}
use Rattle.store.specs.Inner.{Holds}
use Rattle.store.proofs.Held.{at_0, at_1, words_items}
use Rattle.query_sums.specs.declared.numbers.Both.{Both}
use Rattle.query_sums.specs.Inner.{Keeps, Carries, Stands, BothKept, NodePut, Filled}
use Rattle.query_sums.proofs.Putting.{size_leaf, sum_leaf, size_node, sum_node, mark_node}

empty_carries : (weights : List ℕ) (m : ℕ) → Carries weights empty 0 0 m
empty_carries weights m = record { size_low = omega arith; sum_low = omega arith; size_mark_is = λ e. absurd (omega arith); sum_mark_is = λ e. absurd (omega arith) }

base_carries : (weights : List ℕ) (m : ℕ) → Carries weights base 1 0 m
base_carries weights m = record { size_low = omega arith; sum_low = omega arith; size_mark_is = λ e. absurd (omega arith); sum_mark_is = λ e. absurd (omega arith) }

-- the numbers of every handle below j + 2 stand, where those of the first j nodes do
pub stands : {limit : ℕ} {B : List Family} {n : ℕ} {nodes lookup : List ℕ} → Holds limit B n nodes lookup → (weights words : List ℕ) (j : ℕ)
    → ((k : ℕ) → k < j → Carries weights (at B (k + 2)) (get_or words (2 * k) 0) (get_or words (2 * k + 1) 0) (get_or words (2 * n + k) 0))
    → (p : ℕ) → p < j + 2 → Stands weights (at B p) words n p
stands {n = n} H weights words j each zero l =
    rw (at_0 H, size_leaf words n 0 (omega arith), sum_leaf words n 0 (omega arith)) (empty_carries weights _)
stands {n = n} H weights words j each (suc zero) l =
    rw (at_1 H, size_leaf words n 1 (omega arith), sum_leaf words n 1 (omega arith)) (base_carries weights _)
stands {B = B} {n = n} H weights words j each (suc (suc k)) l =
    rw (size_node words n (suc (suc k)) (omega arith), sum_node words n (suc (suc k)) (omega arith), mark_node words n (suc (suc k)) (omega arith))
    (let e : suc (suc k) - 2 ≡ k = omega arith in
    let d : k + 2 ≡ suc (suc k) = omega arith in
    rw e (rw d at (each k (omega arith))))

module _ (nodes weights : List ℕ) (n : ℕ) where
  pub filled_none : (words : List ℕ) → Filled nodes weights n 0 words words
  filled_none words = record { long = refl; rest = λ k l. refl; each = λ B lookup H k l. absurd (omega arith) }

  -- one node more
  pub filled_step : (j : ℕ) (words words₁ words' : List ℕ) → j < n → (k : ℕ) → (0 < get_or nodes (3 * j) 0 → k ≡ item_weight weights (get_or nodes (3 * j) 0))
      → NodePut n j k (get_or nodes (3 * j + 1) 0) (get_or nodes (3 * j + 2) 0) words₁ words' → Filled nodes weights n j words words₁ → Filled nodes weights n (j + 1) words words'
  filled_step j words words₁ words' l k ek P F =
      record {
        long = P.long ∙ F.long;
        rest = λ h m. P.others h (λ q. omega arith) (λ q. omega arith) (λ q. omega arith) ∙ F.rest h m;
        each = λ B lookup H h m. by_eq h j
            (λ q d. rw q (here H))
            (λ q d.
            let C = F.each B lookup H h (omega arith) in
            rw (P.others (2 * h) (λ e. omega arith) (λ e. omega arith) (λ e. omega arith), P.others (2 * h + 1) (λ e. omega arith) (λ e. omega arith) (λ e. omega arith), P.others (2 * n + h) (λ e. omega arith) (λ e. omega arith) (λ e. omega arith)) C);
      }
    where
      here : {limit : ℕ} {B : List Family} {lookup : List ℕ} → Holds limit B n nodes lookup
          → Carries weights (at B (j + 2)) (get_or words' (2 * j) 0) (get_or words' (2 * j + 1) 0) (get_or words' (2 * n + j) 0)
      here {B = B} {lookup = lookup} H =
          let E = H.each j l in
          let S = stands H weights words₁ j (F.each B lookup H) in
          rw E.is
          (P.is (omega (arith, E.zero_before)) (omega (arith, E.one_before)) weights _ _ _ (ek ((words_items H).low j l))
          (S _ E.zero_before) (S _ E.one_before))

  pub filled_end : (p j : ℕ) {words words' : List ℕ} → p ≤ j + 1 → Filled nodes weights n j words words' → Filled nodes weights n (p - 1) words words'
  filled_end p j l F = record { long = F.long; rest = F.rest; each = λ B lookup H k m. F.each B lookup H k (omega arith) }

  -- the sum of p, read once the numbers up to p are put
  pub filled_sum : {p : ℕ} {words words' : List ℕ} → p < n + 2 → Filled nodes weights n (p - 1) words words' → (r : Both (Option ℕ)) → BothKept words' n p r
      → {limit : ℕ} (B : List Family) (lookup : List ℕ) → Holds limit B n nodes lookup → Keeps (sum_by_nodes weights (at B p)) r.sum
  filled_sum {p} {words} {words'} l F r K B lookup H = K.sum_is l weights (at B p) (stands H weights words' (p - 1) (F.each B lookup H) p (omega arith))

  -- the words past those of the nodes stay
  pub filled_rest : {j : ℕ} {words words' : List ℕ} → Filled nodes weights n j words words' → drop (3 * n) words' ≡ drop (3 * n) words
  filled_rest {j} {words} {words'} F =
      ext_get_or 0 (drop (3 * n) words') (drop (3 * n) words)
      (length-drop (3 * n) words' ∙ ap (λ x. x - 3 * n) F.long ∙ sym (length-drop (3 * n) words))
      (λ k m. get_or-drop (3 * n) words' k 0 ∙ F.rest (3 * n + k) (omega arith) ∙ sym (get_or-drop (3 * n) words k 0))
