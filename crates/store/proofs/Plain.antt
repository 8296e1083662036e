-- Calls that need no new node: a handle that is in the book already, or words that hold no book; and calls that leave
-- the cache alone.
-- Placing what is held changes nothing, and a cache that is true of a book is true of every book that it grows to.
use Prim.Native.Nat.{ℕ, ◌+◌, ◌≤◌, ◌<◌}
use mathlib.Core.Path.{◌≡◌, refl}
use mathlib.Core.List.{List}
use native.Mathlib.Omega.{arith}
use Rattle.family.specs.Family.{Family}
use Rattle.family.specs.Book.{at, place}
use Rattle.family.proofs.Placing.{place_grown, place_held}
use Rattle.std.proofs.Common.{Ok, Err}
use Rattle.store.specs.declared.record.Unplaced.TheVariants.{Damaged}
use Rattle.store.specs.declared.record.Fill.{Fill}
use Rattle.store.specs.Inner.{reached, Reached, Roomy, Holds, gave, Ran, RanPlain}
use Rattle.store.proofs.Held.{held}
use Rattle.store.proofs.Answers.{handle_is, damaged_not}
use Rattle.store.proofs.Growing.{kept_self}
use Rattle.store.proofs.Cached.{true_grown}

-- placing a held family
pub place_at : {limit : ℕ} {B : List Family} {n : ℕ} {nodes lookup : List ℕ} → Holds limit B n nodes lookup → (h : ℕ) → h < n + 2 → place B (at B h) ≡ B
place_at {B} H h l = place_held B (at B h) H.book (held H h l)

module _ (least : ℕ) (F : List Family → Family) (s : Fill) (nodes lookup : List ℕ) where
  -- a handle in the book already
  pub plain_held : Roomy s nodes lookup → (h : ℕ) → h ≤ s.count + 1 → ((limit : ℕ) (B : List Family) → Holds limit B s.count nodes lookup → at B h ≡ F B)
      → RanPlain least F s nodes lookup (reached s (Ok h)) nodes lookup
  plain_held R h l means =
      record {
        kept = kept_self s nodes lookup R.within;
        handle = λ k e. omega (arith, handle_is e);
        sound = λ B m H. rw (← means _ B H, place_at H h (omega arith)) (gave {h = h} (record { holds = H; within = omega arith; means = refl }));
      }

  -- words that hold no book
  pub plain_broken : Roomy s nodes lookup → ((limit : ℕ) (B : List Family) → Holds limit B s.count nodes lookup → ⊥) → RanPlain least F s nodes lookup (reached s (Err Damaged)) nodes lookup
  plain_broken R f =
      record {
        kept = kept_self s nodes lookup R.within;
        handle = λ h e. damaged_not h refl e;
        sound = λ B m H. absurd (f _ B H);
      }

  -- a call that leaves the cache alone
  pub plain_ran : {r : Reached} {nodes' lookup' : List ℕ} (cache : List ℕ) → RanPlain least F s nodes lookup r nodes' lookup' → Ran least F s nodes lookup cache r nodes' lookup' cache
  plain_ran cache P =
      record {
        kept = P.kept;
        handle = P.handle;
        long_cache = refl;
        rest = λ k l. refl;
        sound = λ B m H t. P.sound B m H;
        cached = λ B m H t h e. true_grown (place_grown B (F B)) t;
      }
