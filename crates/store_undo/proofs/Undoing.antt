-- Taking back all nodes that a refused call made leaves the node and lookup words as they were before it.
-- The nodes before keep their words, the words past them were blank, and emptying the newest slots gives the lookup
-- of the nodes before.
use Prim.Native.Nat.{ℕ, ◌+◌, ◌*◌, ◌-◌, ◌≤◌, ◌<◌}
use mathlib.Core.Path.{◌≡◌, sym, ap, ◌∙◌}
use mathlib.Core.List.{List}
use native.Mathlib.Omega.{arith}
use lib.ListN.{length, get_or}
use lib.Seq.{ext_get_or}
use Rattle.family.specs.Family.{Family}
use Rattle.words.specs.Words.{zeroed}
use Rattle.words.proofs.Cases.{by_lt}
use Rattle.words.proofs.Zeroed.{zeroed_length, zeroed_before, zeroed_inside, zeroed_after}
use Rattle.table.specs.Entered.{entered, start_at}
use Rattle.table.specs.Own.{cleared}
use Rattle.table.proofs.OwnSlots.{rolled_back}
use Rattle.store.specs.declared.record.Store.{Store}
use Rattle.store_undo.specs.Inner.{RolledBack}
use Rattle.store.specs.declared.record.Fill.{Fill}
use Rattle.store.specs.Inner.{fill_in, Roomy, Holds, Kept}
use Rattle.store.proofs.Held.{words_apart, words_items}
use Rattle.store.proofs.Put.{entered_same}

module _ {s : Fill} {s₁ : Store} {nodes lookup nodes₁ lookup₁ nodes₂ lookup₂ : List ℕ} (R : Roomy s nodes lookup) (K : Kept s nodes lookup (fill_in s₁) nodes₁ lookup₁) (U : RolledBack s₁ nodes₁ lookup₁ s.count nodes₂ lookup₂) where
  pub undone_nodes : ((k : ℕ) → 3 * s.count ≤ k → k < 3 * s.capacity → get_or nodes k 0 ≡ 0) → nodes₂ ≡ nodes
  undone_nodes blank =
      U.nodes_are ∙ ext_get_or 0 (zeroed (3 * s.count) (3 * s₁.count) nodes₁) nodes (long ∙ K.long) (λ k l. word k)
    where
      a : 3 * s.count ≤ 3 * s₁.count
      a = omega (arith, K.grows)

      b : 3 * s₁.count ≤ length nodes₁
      b = omega (arith, K.fits, K.long, R.words)

      long : length (zeroed (3 * s.count) (3 * s₁.count) nodes₁) ≡ length nodes₁
      long = zeroed_length (3 * s.count) (3 * s₁.count) nodes₁ a b

      word : (k : ℕ) → get_or (zeroed (3 * s.count) (3 * s₁.count) nodes₁) k 0 ≡ get_or nodes k 0
      word k =
          by_lt k (3 * s.count)
          (λ l e. zeroed_before (3 * s.count) (3 * s₁.count) nodes₁ a b k l ∙ K.below k l)
          (λ l e. by_lt k (3 * s₁.count)
          (λ m d. zeroed_inside (3 * s.count) (3 * s₁.count) nodes₁ a b k l m ∙ sym (blank k l (omega (arith, K.fits))))
          (λ m d. zeroed_after (3 * s.count) (3 * s₁.count) nodes₁ a b k m ∙ K.above k m))

  pub undone_lookup : {limit : ℕ} {B D : List Family} → Holds limit B s.count nodes lookup → Holds limit D s₁.count nodes₁ lookup₁ → lookup₂ ≡ lookup
  undone_lookup H G =
      U.lookup_is
      ∙ ap (λ l. cleared nodes₁ l s.count (s₁.count - s.count)) (G.lookup_is ∙ ap (λ k. entered (start_at nodes₁ k) k s₁.count) K.long_lookup ∙ ap (λ k. entered (start_at nodes₁ (length lookup)) (length lookup) k) (sym sum))
      ∙ rolled_back nodes₁ (length lookup) (omega (arith, R.longer)) s.count (s₁.count - s.count) (omega (arith, R.longer, K.fits, sum)) (rw sum (words_apart G)) (rw sum (words_items G))
      ∙ sym (entered_same nodes nodes₁ (length lookup) s.count K.below)
      ∙ sym H.lookup_is
    where
      sum : s.count + (s₁.count - s.count) ≡ s₁.count
      sum = omega (arith, K.grows)
