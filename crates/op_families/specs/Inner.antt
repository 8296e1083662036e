-- What the functions below Union, Intsec and Diff ask and promise. A reader of the promises can pass this page over.
use Rattle.std.specs.Prelude.{ℕ, ◌+◌, ◌*◌, ◌≤◌, ◌<◌, max, ◌≡◌, List, length, Option, Some, None}
use Rattle.family.specs.Family.{Family, largest_item}
use Rattle.store.specs.Words.{top_at}
use Rattle.store.specs.declared.record.Fill.{Fill}
use Rattle.store.specs.Inner.{Roomy, Holds}
use Rattle.store_sides.specs.Inner.{Low, Halves}
use Rattle.op_cache.specs.declared.Call.{Call}
use Rattle.op_terminal.specs.Inner.{OnFamilies, Proper}
use Rattle.op_families.specs.declared.recursion.Fork.{Fork}

-- a call of these three on words that fit: two handles held
pub record FamilyCall (call : Call) (s : Fill) (nodes lookup : List ℕ) : Type 0 where
  pub roomy : Roomy s nodes lookup
  pub operation : OnFamilies call.op
  pub first : call.p ≤ s.count + 1
  pub second : call.q ≤ s.count + 1

-- a call with a bound that no sound store's tops of its operands reach
pub record ApplyAsks (call : Call) (bound : ℕ) (s : Fill) (nodes lookup : List ℕ) : Type 0 where
  pub taken : FamilyCall call s nodes lookup
  pub first_low : Low nodes s.count bound call.p
  pub second_low : Low nodes s.count bound call.q
  pub bound_low : bound ≤ largest_item + 1

-- a call that is no terminal case
pub record FamilyStepAsks (call : Call) (bound : ℕ) (s : Fill) (nodes lookup : List ℕ) : Type 0 where
  pub asks : ApplyAsks call bound s nodes lookup
  pub proper : Proper call

-- the words of two handles that are no terminal case, and the bound
pub record ForkAsks (nodes : List ℕ) (n : ℕ) (call : Call) (bound : ℕ) : Type 0 where
  pub first : call.p ≤ n + 1
  pub second : call.q ≤ n + 1
  pub words : 3 * n ≤ length nodes
  pub small : n ≤ 1000000
  pub first_low : Low nodes n bound call.p
  pub second_low : Low nodes n bound call.q
  pub proper : Proper call

-- the level, which is the larger of the two tops and below the bound, and the sides of both operands at it
pub record Forked (nodes : List ℕ) (n : ℕ) (call : Call) (bound level p₀ q₀ p₁ q₁ : ℕ) : Type 0 where
  pub some : 0 < level
  pub lower : level < bound
  pub level_is : level ≡ max (top_at nodes call.p) (top_at nodes call.q)
  pub first : Halves nodes n call.p level p₀ p₁
  pub second : Halves nodes n call.q level q₀ q₁

-- the two sides of both operands, or words that no sound store has
pub data ForkOf (nodes : List ℕ) (n : ℕ) (call : Call) (bound : ℕ) : Option Fork → Type 0 where
  two : {f : Fork} → Forked nodes n call bound f.level f.p0 f.q0 f.p1 f.q1 → ForkOf nodes n call bound (Some f)
  broken : ((limit : ℕ) (B : List Family) (lookup : List ℕ) → Holds limit B n nodes lookup → ⊥) → ForkOf nodes n call bound None
