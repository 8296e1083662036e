-- What any words keep through a call: it chains, it keeps the room for the next call, and it keeps the tops of the
-- handles held before.
-- All of it is read off the kept words below the old count and above the new one.
use Prim.Native.Nat.{ℕ, ◌+◌, ◌*◌, ◌-◌, ◌≤◌}
use mathlib.Core.Path.{◌≡◌, refl, sym, ◌∙◌}
use mathlib.Core.List.{List}
use native.Mathlib.Omega.{arith}
use Rattle.words.proofs.Cases.{by_lt}
use Rattle.store.specs.Words.{top_at}
use Rattle.store.specs.declared.record.Fill.{Fill}
use Rattle.store.specs.Inner.{Roomy, Kept, Added}
use Rattle.store.proofs.Held.{top_leaf, top_node}

pub kept_self : (s : Fill) (nodes lookup : List ℕ) → s.count ≤ s.capacity → Kept s nodes lookup s nodes lookup
kept_self s nodes lookup h =
    record { same_capacity = refl; grows = omega arith; fits = h; long = refl; long_lookup = refl; below = λ k l. refl; above = λ k l. refl }

pub kept_trans : {s s₁ s₂ : Fill} {nodes lookup nodes₁ lookup₁ nodes₂ lookup₂ : List ℕ}
    → Kept s nodes lookup s₁ nodes₁ lookup₁ → Kept s₁ nodes₁ lookup₁ s₂ nodes₂ lookup₂ → Kept s nodes lookup s₂ nodes₂ lookup₂
kept_trans K L =
    record {
      same_capacity = L.same_capacity ∙ K.same_capacity;
      grows = omega (arith, K.grows, L.grows);
      fits = omega (arith, L.fits, K.same_capacity);
      long = L.long ∙ K.long;
      long_lookup = L.long_lookup ∙ K.long_lookup;
      below = λ k l. L.below k (omega (arith, K.grows)) ∙ K.below k l;
      above = λ k l. L.above k l ∙ K.above k (omega (arith, L.grows));
    }

pub kept_roomy : {s s₁ : Fill} {nodes lookup nodes₁ lookup₁ : List ℕ} → Kept s nodes lookup s₁ nodes₁ lookup₁ → Roomy s nodes lookup → Roomy s₁ nodes₁ lookup₁
kept_roomy K R =
    record {
      within = omega (arith, K.fits, K.same_capacity);
      words = omega (arith, R.words, K.same_capacity, K.long);
      small = omega (arith, R.small, K.same_capacity);
      longer = omega (arith, R.longer, K.same_capacity, K.long_lookup);
    }

-- nodes that may have been added
pub kept_added : {s s₁ : Fill} {nodes lookup nodes₁ lookup₁ : List ℕ} → Kept s nodes lookup s₁ nodes₁ lookup₁ → Added s.count nodes s₁.count nodes₁
kept_added K = record { grows = K.grows; below = K.below }

pub added_self : (n : ℕ) (nodes : List ℕ) → Added n nodes n nodes
added_self n nodes = record { grows = omega arith; below = λ k l. refl }

pub added_trans : {n n₁ n₂ : ℕ} {nodes nodes₁ nodes₂ : List ℕ} → Added n nodes n₁ nodes₁ → Added n₁ nodes₁ n₂ nodes₂ → Added n nodes n₂ nodes₂
added_trans K L = record { grows = omega (arith, K.grows, L.grows); below = λ k l. L.below k (omega (arith, K.grows)) ∙ K.below k l }

pub added_top : {n n₁ : ℕ} {nodes nodes₁ : List ℕ} → Added n nodes n₁ nodes₁ → (p : ℕ) → p ≤ n + 1 → top_at nodes₁ p ≡ top_at nodes p
added_top {nodes = nodes} {nodes₁} K p h =
    by_lt p 2
    (λ l e. top_leaf nodes₁ p l ∙ sym (top_leaf nodes p l))
    (λ l e. top_node nodes₁ p l ∙ K.below (3 * (p - 2)) (omega arith) ∙ sym (top_node nodes p l))

pub kept_top : {s s₁ : Fill} {nodes lookup nodes₁ lookup₁ : List ℕ} → Kept s nodes lookup s₁ nodes₁ lookup₁ → (p : ℕ) → p ≤ s.count + 1 → top_at nodes₁ p ≡ top_at nodes p
kept_top K p h = added_top (kept_added K) p h
