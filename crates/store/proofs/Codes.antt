-- A handle held, taken as a number of a word, says itself: none is a number for full or damaged.
-- A store has at most 1,000,000 nodes, so its handles are far below these two.
use Prim.Native.Nat.{ℕ, ◌+◌, ◌≤◌, ◌<◌}
use mathlib.Core.Path.{◌≡◌}
use mathlib.Core.List.{List}
use native.Mathlib.Omega.{arith}
use borrow.Author.Tests.{lt-ltb}
use Rattle.std.proofs.Common.{Ok}
use Rattle.store.specs.declared.record.Fill.{Fill}
use Rattle.store.specs.Inner.{Roomy}
use Rattle.store.specs.Coded.{full_number, answer_of}

pub coded_handle : (r : ℕ) → r < full_number → answer_of r ≡ Ok r
unfolding answer_of
coded_handle r l = rw (lt-ltb r full_number l)

-- a handle held
pub coded_held : {s : Fill} {nodes lookup : List ℕ} {n : ℕ} (h : ℕ) → Roomy s nodes lookup → n ≤ s.capacity → h ≤ n + 1 → answer_of h ≡ Ok h
coded_held h R l m = coded_handle h (omega (arith, R.small))
