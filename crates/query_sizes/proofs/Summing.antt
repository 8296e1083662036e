-- The sizes of the nodes held, filled in rising number: each is the sum of its children's, which stand before it.
-- A sum capped at 2^64 - 1 of capped sums is the capped whole.
use Prim.Native.Nat.{ℕ, zero, suc, ◌+◌, ◌*◌, ◌-◌, ◌≤◌, ◌<◌, min}
use mathlib.Core.Path.{◌≡◌, sym, ap, ◌∙◌}
use mathlib.Core.List.{List, ◌++◌, map}
use native.Mathlib.Omega.{arith}
use lib.ListN.{length, get_or, set, drop, length-set, length-map, length-append, length-drop, get_or-append}
use Rattle.std.proofs.lemmas.List.{get_or-map}
use lib.Seq.{get_or-set_same, get_or-set_other, get_or-append-add, get_or-drop, ext_get_or}
use Rattle.family.specs.Family.{Family, empty, size}
use Rattle.family.specs.Book.{at}
use Rattle.words.proofs.Cases.{by_lt, by_eq}
use Rattle.store.specs.Inner.{Holds}
use Rattle.store.proofs.Held.{at_0, at_1}
use Rattle.words.specs.Words.{most}
use Rattle.query_sizes.specs.NodeSizes.{sizes_of}
use Rattle.store.specs.Words.{word_of}
use Rattle.query_sizes.specs.Inner.{Filled}
use Rattle.store.proofs.Handles.{word_leaf, word_node}

-- words that hold the sizes below j give the size of every handle below j + 2
pub size_known : {limit : ℕ} {B : List Family} {n : ℕ} {nodes lookup : List ℕ} → Holds limit B n nodes lookup → (sizes : List ℕ) (j : ℕ) → ((k : ℕ) → k < j → get_or sizes k 0 ≡ min (size (at B (k + 2))) most)
    → (h : ℕ) → h < j + 2 → word_of sizes h ≡ min (size (at B h)) most
size_known H sizes j e zero l = sym (word_leaf sizes 0 (omega arith)) ∙ rw (at_0 H) (omega arith)
size_known H sizes j e (suc zero) l = sym (word_leaf sizes 1 (omega arith)) ∙ rw (at_1 H) (omega arith)
size_known {B} H sizes j e (suc (suc h)) l =
    sym (word_node sizes (suc (suc h)) (omega arith)) ∙ e (suc (suc h) - 2) (omega arith) ∙ ap (λ k. min (size (at B k)) most) (omega arith)

capped : (x y : ℕ) → min (min x most + min y most) most ≡ min (x + y) most
capped x y = omega arith

-- the size of node k + 2 by its words
pub size_node : {limit : ℕ} {B : List Family} {n : ℕ} {nodes lookup : List ℕ} → Holds limit B n nodes lookup → (k : ℕ) → k < n
    → size (at B (k + 2)) ≡ size (at B (get_or nodes (3 * k + 1) 0)) + size (at B (get_or nodes (3 * k + 2) 0))
size_node H k l = ap size (H.each k l).is

pub filled_step : {nodes : List ℕ} {n j : ℕ} {sizes sizes₁ : List ℕ} (a b v : ℕ) → j < n → j < length sizes
    → a ≡ word_of sizes₁ (get_or nodes (3 * j + 1) 0) → b ≡ word_of sizes₁ (get_or nodes (3 * j + 2) 0) → v ≡ min (a + b) most → Filled nodes n j sizes sizes₁ → Filled nodes n (j + 1) sizes (set sizes₁ j v)
filled_step {nodes} {n} {j} {sizes} {sizes₁} a b v l m ea eb e F =
    record {
      long = length-set sizes₁ j v ∙ F.long;
      rest = λ k h. get_or-set_other sizes₁ j k v 0 (omega arith) ∙ F.rest k (omega arith);
      each = λ B lookup H k h. by_eq k j
          (λ p d. rw p (get_or-set_same sizes₁ j v 0 (omega (arith, F.long)) ∙ here H))
          (λ p d. get_or-set_other sizes₁ j k v 0 p ∙ F.each B lookup H k (omega arith));
    }
  where
    here : {limit : ℕ} {B : List Family} {lookup : List ℕ} → Holds limit B n nodes lookup → v ≡ min (size (at B (j + 2))) most
    here {B} {lookup} H =
        let E = H.each j l in
        let z = size_known H sizes₁ j (F.each B lookup H) (get_or nodes (3 * j + 1) 0) E.zero_before in
        let o = size_known H sizes₁ j (F.each B lookup H) (get_or nodes (3 * j + 2) 0) E.one_before in
        e ∙ rw (ea, eb, z, o) (capped (size (at B (get_or nodes (3 * j + 1) 0))) (size (at B (get_or nodes (3 * j + 2) 0)))) ∙ ap (λ x. min x most) (sym (size_node H j l))

-- the filled scratch, as one equation
pub filled_is : {limit : ℕ} {B : List Family} {n : ℕ} {nodes lookup sizes sizes' : List ℕ} → Holds limit B n nodes lookup → n ≤ length sizes → Filled nodes n n sizes sizes' → sizes' ≡ sizes_of B ++ drop (length B - 2) sizes
unfolding sizes_of
filled_is {B} {n} {nodes} {lookup} {sizes} {sizes'} H l F =
    ext_get_or 0 sizes' (new ++ drop (length B - 2) sizes)
    (F.long ∙ omega (arith, length-append new (drop (length B - 2) sizes), is_long, length-drop (length B - 2) sizes, H.size))
    (λ k m. by_lt k n (λ h e. below k h) (λ h e. above k h))
  where
    new : List ℕ
    new = map (λ F. min (size F) most) (drop 2 B)

    is_long : length new ≡ n
    is_long = length-map (drop 2 B) (λ F. min (size F) most) ∙ length-drop 2 B ∙ omega (arith, H.size)

    below : (k : ℕ) → k < n → get_or sizes' k 0 ≡ get_or (new ++ drop (length B - 2) sizes) k 0
    below k h =
        F.each B lookup H k h ∙ ap (λ x. min (size (at B x)) most) (omega arith) ∙ ap (λ x. min (size x) most) (sym (get_or-drop 2 B k empty))
        ∙ sym (get_or-map (λ F. min (size F) most) (drop 2 B) k empty 0 (omega (arith, length-drop 2 B, H.size))) ∙ sym (get_or-append new (drop (length B - 2) sizes) 0 k (omega (arith, is_long)))

    above : (k : ℕ) → n ≤ k → get_or sizes' k 0 ≡ get_or (new ++ drop (length B - 2) sizes) k 0
    above k h =
        let p : k ≡ length new + (k - n) = omega (arith, is_long) in
        F.rest k h ∙ ap (λ x. get_or sizes x 0) (omega (arith, H.size)) ∙ sym (get_or-drop (length B - 2) sizes (k - n) 0)
        ∙ sym (get_or-append-add new (drop (length B - 2) sizes) (k - n) 0) ∙ ap (λ x. get_or (new ++ drop (length B - 2) sizes) x 0) (sym p)
