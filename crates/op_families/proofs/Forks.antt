-- The ways out of `fork_at`: both operands split at their larger top, or words that hold no book.
-- Two different operands that are no {} cannot both lack items, so the level is an item; in a book it is below the
-- bound.
use Prim.Native.Nat.{ℕ, zero, suc, ◌+◌, ◌≤◌, ◌<◌, max}
use mathlib.Core.Path.{◌≡◌}
use mathlib.Core.List.{List}
use native.Mathlib.Omega.{arith}
use Rattle.family.specs.Family.{Family}
use Rattle.store.specs.Words.{top_at}
use Rattle.store.specs.Inner.{Holds}
use Rattle.store.proofs.Held.{within, at_node, top_node}
use Rattle.store_sides.proofs.Splitting.{low_now}
use Rattle.op_cache.specs.declared.Call.{Call}
use Rattle.op_families.specs.declared.recursion.Fork.{Fork}
use Rattle.std.proofs.Common.{Option, Some, None}
use Rattle.op_families.specs.Inner.{ForkOf, two, broken, ForkAsks, Forked}

-- what a fork says, by the answer that was given
pub fork_two : {nodes : List ℕ} {n : ℕ} {call : Call} {bound : ℕ} {f : Fork} {x : Option Fork} → x ≡ Some f → ForkOf nodes n call bound x → Forked nodes n call bound f.level f.p0 f.q0 f.p1 f.q1
fork_two e S = out (rw e at S)
  where
    out : {nodes : List ℕ} {n : ℕ} {call : Call} {bound : ℕ} {f : Fork} → ForkOf nodes n call bound (Some f) → Forked nodes n call bound f.level f.p0 f.q0 f.p1 f.q1
    out (two K) = K

pub fork_broken : {nodes : List ℕ} {n : ℕ} {call : Call} {bound : ℕ} {x : Option Fork} → x ≡ None → ForkOf nodes n call bound x → (limit : ℕ) (B : List Family) (lookup : List ℕ) → Holds limit B n nodes lookup → ⊥
fork_broken e S = out (rw e at S)
  where
    out : {nodes : List ℕ} {n : ℕ} {call : Call} {bound : ℕ} → ForkOf nodes n call bound None → (limit : ℕ) (B : List Family) (lookup : List ℕ) → Holds limit B n nodes lookup → ⊥
    out (broken f) = f

-- a handle whose top is 0 is 0 or 1
leaf_handle : {limit : ℕ} {B : List Family} {n : ℕ} {nodes lookup : List ℕ} → Holds limit B n nodes lookup → (p : ℕ) → p ≤ n + 1 → top_at nodes p ≡ 0 → p < 2
leaf_handle H zero l e = omega arith
leaf_handle H (suc zero) l e = omega arith
leaf_handle {nodes = nodes} H (suc (suc p)) l e =
    absurd (let w = rw (at_node H (suc (suc p)) (omega arith) (omega arith)) at (within H (suc (suc p)) (omega arith)) in omega (arith, w.ordered.0, top_node nodes (suc (suc p)) (omega arith)))

module _ {nodes : List ℕ} {n : ℕ} {call : Call} {bound : ℕ} (A : ForkAsks nodes n call bound) {level : ℕ} (level_is : level ≡ max (top_at nodes call.p) (top_at nodes call.q)) where
  pub no_level : level ≡ 0 → ForkOf nodes n call bound None
  no_level e = broken (λ l B lookup H. A.proper.apart (same H))
    where
      same : {limit : ℕ} {B : List Family} {lookup : List ℕ} → Holds limit B n nodes lookup → call.p ≡ call.q
      same H =
          let a = leaf_handle H call.p A.first (omega (arith, level_is)) in
          let b = leaf_handle H call.q A.second (omega (arith, level_is)) in
          let c = A.proper.first in
          let d = A.proper.second in
          omega arith

  pub past_bound : bound ≤ level → ForkOf nodes n call bound None
  past_bound h = broken (λ l B lookup H. omega (arith, level_is, low_now A.first_low H, low_now A.second_low H))
