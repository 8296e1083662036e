-- Each way out of `fresh`, as the definition has it.
-- The tests are the definition's, and every lent word is zeroed or stays as it says.
use Prim.Native.Nat.{ℕ, ◌*◌, ◌/◌, ◌≤◌, ◌<◌}
use mathlib.Core.Path.{◌≡◌}
use mathlib.Core.Bool.{true, false}
use mathlib.Core.List.{List}
use lib.ListN.{length}
use borrow.Author.Tests.{lt-ltb, le-ltb, le-leb, lt-leb}
use native.Mathlib.Omega.{arith}
use Rattle.words.specs.Words.{zeroed}
use Rattle.store.specs.declared.record.Store.{Store}
use Rattle.store.specs.declared.record.Refusal.{Refusal}
use Rattle.store.specs.declared.record.Refusal.TheVariants.{Tiny, ShortLookup, Item}
use Rattle.std.specs.Bool.{⊤}
use Rattle.std.proofs.Common.{Ok, Err}
use Rattle.store.specs.Capacity.{capacity_of, is_limit}
use Rattle.store.specs.declared.record.Answered.{Answered}
use Rattle.store.specs.Refusals.{refusal_number}
use Rattle.store_fresh.specs.Promise.{fresh_number, fresh_leaves, no_store, fresh_refused, fresh_of, FreshCall, fresh_done}
use Rattle.store.proofs.Fitting.{store_is}
use Rattle.words.proofs.Cases.{by_lt, by_test}

-- what a Fresh that is not refused was given
pub record Passed (limit : ℕ) (nodes lookup : List ℕ) : Type 0 where
  pub some : 3 ≤ length nodes
  pub longer : capacity_of (length nodes) < length lookup
  pub limit_is : is_limit limit ≡ true

module _ (limit : ℕ) (nodes lookup cache : List ℕ) where
  pub fresh_is : Passed limit nodes lookup → fresh_of limit nodes lookup cache ≡ fresh_done limit nodes lookup cache
  unfolding fresh_of
  fresh_is p = rw (le-ltb (length nodes) 3 p.some, lt-leb (length lookup) (capacity_of (length nodes)) p.longer, p.limit_is)

  pub fresh_passed : (fresh_of limit nodes lookup cache).refusal ≡ 0 → Passed limit nodes lookup
  unfolding fresh_of
  fresh_passed e =
      by_lt (length nodes) 3 (λ l t. absurd (omega (arith, rw t at e)))
      (λ l t. by_lt (capacity_of (length nodes)) (length lookup)
      (λ g d. by_test (is_limit limit) (λ i. record { some = l; longer = g; limit_is = i })
      (λ i. absurd (omega (arith, rw (t, lt-leb (length lookup) (capacity_of (length nodes)) g, i) at e))))
      (λ g d. absurd (omega (arith, rw (t, le-leb (length lookup) (capacity_of (length nodes)) g) at e))))

module _ (limit : ℕ) (nodes lookup cache : List ℕ) where
  -- refused: no store, and every word as it came
  module _ (r : Answered ⊤) (p : r.store ≡ no_store) where
    refused_is : {x : Refusal} → r.answer ≡ Err x → fresh_leaves r nodes lookup cache ≡ fresh_refused (refusal_number x) nodes lookup cache
    refused_is q = λ i. record { refusal = fresh_number (q i); store = p i; nodes = nodes; lookup = lookup; cache = cache }

    pub fresh_tiny : r.answer ≡ Err Tiny → length nodes < 3 → FreshCall limit nodes lookup cache r nodes lookup cache
    unfolding fresh_of
    fresh_tiny q h = record { leaves_is = rw (lt-ltb (length nodes) 3 h) (refused_is q) }

    module _ (h : 3 ≤ length nodes) where
      pub fresh_short : r.answer ≡ Err ShortLookup → length lookup ≤ capacity_of (length nodes) → FreshCall limit nodes lookup cache r nodes lookup cache
      unfolding fresh_of
      fresh_short q g = record { leaves_is = rw (le-ltb (length nodes) 3 h, le-leb (length lookup) (capacity_of (length nodes)) g) (refused_is q) }

      pub fresh_no_limit : r.answer ≡ Err Item → capacity_of (length nodes) < length lookup → is_limit limit ≡ false → FreshCall limit nodes lookup cache r nodes lookup cache
      unfolding fresh_of
      fresh_no_limit q g l = record { leaves_is = rw (le-ltb (length nodes) 3 h, lt-leb (length lookup) (capacity_of (length nodes)) g, l) (refused_is q) }

  pub fresh_done_lem : Passed limit nodes lookup → (r : Answered ⊤) (s : Store) (nodes' lookup' cache' : List ℕ) → r.store ≡ s → {u : ⊤} → r.answer ≡ Ok u
      → s.capacity ≡ capacity_of (length nodes) → s.count ≡ 0 → s.limit ≡ limit
      → nodes' ≡ zeroed 0 (3 * capacity_of (length nodes)) nodes → lookup' ≡ zeroed 0 (length lookup) lookup → cache' ≡ zeroed 0 (length cache / 4 * 4) cache
      → FreshCall limit nodes lookup cache r nodes' lookup' cache'
  fresh_done_lem P r s nodes' lookup' cache' es ea p q i en el ec = record { leaves_is = rw (fresh_is limit nodes lookup cache P, es, ea, store_is p q i, en, el, ec) }
