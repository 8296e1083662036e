-- The ways out of the recursions before a step: a terminal case, a result recalled from the cache, words that hold no
-- book.
-- Each gives a handle that the book has already, or is refused on words of no sound store; operands in another order
-- name the same family.
use Prim.Native.Nat.{ℕ, ◌≤◌}
use mathlib.Core.Path.{◌≡◌, refl}
use mathlib.Core.List.{List}
use native.Mathlib.Omega.{arith}
use Rattle.family.specs.Family.{Family}
use Rattle.family.proofs.Placing.{place_grown}
use Rattle.std.proofs.Common.{Option, Some, Ok, Err}
use Rattle.store.specs.declared.record.Unplaced.TheVariants.{Damaged}
use Rattle.store.specs.declared.record.Fill.{Fill}
use Rattle.store.specs.Inner.{reached, Reached, Roomy, Holds, gave, Ran}
use Rattle.store.proofs.Answers.{handle_is}
use Rattle.store.proofs.Growing.{kept_self}
use Rattle.op_cache.specs.declared.Call.{Call}
use Rattle.op_cache.specs.Inner.{RecallOf}
use Rattle.store.proofs.Cached.{true_grown}
use Rattle.op_cache.proofs.Remembering.{recalled_within, recalled_true}
use Rattle.store.proofs.Plain.{place_at, plain_broken, plain_ran}
use Rattle.op_step.proofs.Steps.{of}

module _ (least : ℕ) (s : Fill) (nodes lookup cache : List ℕ) where
  -- calls that name the same family
  pub ran_same : {F G : List Family → Family} {r : Reached} {nodes' lookup' cache' : List ℕ} → ((limit : ℕ) (B : List Family) → Holds limit B s.count nodes lookup → G B ≡ F B)
      → Ran least F s nodes lookup cache r nodes' lookup' cache' → Ran least G s nodes lookup cache r nodes' lookup' cache'
  ran_same e R =
      record {
        kept = R.kept;
        handle = R.handle;
        long_cache = R.long_cache;
        rest = R.rest;
        sound = λ B l H t. rw (e _ B H) (R.sound B l H t);
        cached = λ B l H t h d. rw (e _ B H) (R.cached B l H t h d);
      }

  module _ (roomy : Roomy s nodes lookup) (call : Call) where
    pub ran_broken : ((limit : ℕ) (B : List Family) → Holds limit B s.count nodes lookup → ⊥) → Ran least (of call) s nodes lookup cache (reached s (Err Damaged)) nodes lookup cache
    ran_broken f = plain_ran least (of call) s nodes lookup cache (plain_broken least (of call) s nodes lookup roomy f)

    pub ran_recalled : (h : ℕ) {x : Option ℕ} → 1 ≤ call.op → x ≡ Some h → RecallOf cache s.count call x → Ran least (of call) s nodes lookup cache (reached s (Ok h)) nodes lookup cache
    ran_recalled h l e C =
        record {
          kept = kept_self s nodes lookup roomy.within;
          handle = λ k d. omega (arith, handle_is d, recalled_within e C);
          long_cache = refl;
          rest = λ k m. refl;
          sound = λ B m H t.
              rw (← (recalled_true t l e C).means, place_at H h (omega (arith, recalled_within e C)))
              (gave {h = h} (record { holds = H; within = omega (arith, recalled_within e C); means = refl }));
          cached = λ B m H t k d. true_grown (place_grown B (of call B)) t;
        }
