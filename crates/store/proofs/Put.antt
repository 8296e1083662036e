-- The words of a new node after n others: those before and after stay, and the lookup with its number entered is the
-- lookup of one node more.
-- The three stores hit three different places, and the start slots of the nodes before hang on words that stay.
use Prim.Native.Nat.{ℕ, suc, ◌+◌, ◌*◌, ◌≤◌, ◌<◌}
use mathlib.Core.Path.{◌≡◌, sym, ◌∙◌}
use mathlib.Core.List.{List}
use native.Mathlib.Omega.{arith}
use lib.ListN.{length, get_or, set, length-set}
use lib.Seq.{get_or-set_same, get_or-set_other}
use Rattle.table.specs.Start.{start_of}
use Rattle.table.specs.Entered.{first_free, entered, start_at}
use Rattle.table.proofs.Stops.{Has}
use Rattle.table.proofs.Filled.{entered_ext}
use Rattle.table.proofs.Found.{start_of_lem}
use Rattle.store.specs.Inner.{put_node}

-- lookups of nodes whose words agree
pub entered_same : (nodes nodes' : List ℕ) (len n : ℕ) → ((k : ℕ) → k < 3 * n → get_or nodes' k 0 ≡ get_or nodes k 0) → entered (start_at nodes len) len n ≡ entered (start_at nodes' len) len n
unfolding start_at
entered_same nodes nodes' len n e =
    entered_ext (start_at nodes len) (start_at nodes' len) len n (λ k l. sym (rw (e (3 * k) (omega arith), e (3 * k + 1) (omega arith), e (3 * k + 2) (omega arith))))

module _ (nodes : List ℕ) (n item z o : ℕ) where
  pub put_length : length (put_node nodes n item z o) ≡ length nodes
  unfolding put_node
  put_length = simp length-set

  pub put_other : (x : ℕ) → (x ≡ 3 * n → ⊥) → (x ≡ 3 * n + 1 → ⊥) → (x ≡ 3 * n + 2 → ⊥) → get_or (put_node nodes n item z o) x 0 ≡ get_or nodes x 0
  unfolding put_node
  put_other x a b c =
      get_or-set_other (set (set nodes (3 * n) item) (3 * n + 1) z) (3 * n + 2) x o 0 c
      ∙ get_or-set_other (set nodes (3 * n) item) (3 * n + 1) x z 0 b
      ∙ get_or-set_other nodes (3 * n) x item 0 a

  pub put_below : (x : ℕ) → x < 3 * n → get_or (put_node nodes n item z o) x 0 ≡ get_or nodes x 0
  put_below x h = put_other x (omega arith) (omega arith) (omega arith)

  pub put_above : (x : ℕ) → 3 * (n + 1) ≤ x → get_or (put_node nodes n item z o) x 0 ≡ get_or nodes x 0
  put_above x h = put_other x (omega arith) (omega arith) (omega arith)

  pub put_has : 3 * n + 3 ≤ length nodes → Has (put_node nodes n item z o) n item z o
  unfolding put_node
  put_has fits =
      record {
        item_is = get_or-set_other (set (set nodes (3 * n) item) (3 * n + 1) z) (3 * n + 2) (3 * n) o 0 (omega arith)
            ∙ get_or-set_other (set nodes (3 * n) item) (3 * n + 1) (3 * n) z 0 (omega arith)
            ∙ get_or-set_same nodes (3 * n) item 0 (omega arith);
        zero_is = get_or-set_other (set (set nodes (3 * n) item) (3 * n + 1) z) (3 * n + 2) (3 * n + 1) o 0 (omega arith)
            ∙ get_or-set_same (set nodes (3 * n) item) (3 * n + 1) z 0 (simp length-set (omega arith));
        one_is = get_or-set_same (set (set nodes (3 * n) item) (3 * n + 1) z) (3 * n + 2) o 0 (simp length-set (omega arith));
      }

  -- the new node's number in the first empty slot
  pub put_entered : 3 * n + 3 ≤ length nodes → (len : ℕ) → 0 < len
      → set (entered (start_at nodes len) len n) (first_free (entered (start_at nodes len) len n) (start_of item z o len)) (n + 2)
      ≡ entered (start_at (put_node nodes n item z o) len) len (suc n)
  unfolding entered
  put_entered fits len some =
      rw (entered_same nodes (put_node nodes n item z o) len n put_below, start_of_lem (put_node nodes n item z o) len some n item z o (put_has fits))
