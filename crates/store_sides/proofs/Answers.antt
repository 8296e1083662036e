-- What the sides of a family say, by the answer that was given.
-- The answer is one of two, and each carries what it says.
use Prim.Native.Nat.{ℕ}
use mathlib.Core.Path.{◌≡◌}
use mathlib.Core.List.{List}
use Rattle.family.specs.Family.{Family}
use Rattle.store_sides.specs.declared.Cofactors.{Cofactors}
use Rattle.store_sides.specs.declared.Sides.{Sides}
use Rattle.std.proofs.Common.{Option, Some, None}
use Rattle.store.specs.Inner.{Holds}
use Rattle.store_sides.specs.Inner.{Halves, CofactorsOf, split, none, TwoSides, SidesOf, two, broken}

pub halves_two : {nodes : List ℕ} {n p level : ℕ} {c : Cofactors} {x : Option Cofactors} → x ≡ Some c → CofactorsOf nodes n p level x → Halves nodes n p level c.zero c.one
halves_two e S = out (rw e at S)
  where
    out : {nodes : List ℕ} {n p level : ℕ} {c : Cofactors} → CofactorsOf nodes n p level (Some c) → Halves nodes n p level c.zero c.one
    out (split T) = T

pub halves_none : {nodes : List ℕ} {n p level : ℕ} {x : Option Cofactors} → x ≡ None → CofactorsOf nodes n p level x → (limit : ℕ) (B : List Family) (lookup : List ℕ) → Holds limit B n nodes lookup → ⊥
halves_none e S = out (rw e at S)
  where
    out : {nodes : List ℕ} {n p level : ℕ} → CofactorsOf nodes n p level None → (limit : ℕ) (B : List Family) (lookup : List ℕ) → Holds limit B n nodes lookup → ⊥
    out (none f) = f

pub sides_two : {nodes : List ℕ} {n p level : ℕ} {s : Sides} {x : Option Sides} → x ≡ Some s → SidesOf nodes n p level x → TwoSides nodes n p level s.zero s.one s.ztop s.otop
sides_two e S = out (rw e at S)
  where
    out : {nodes : List ℕ} {n p level : ℕ} {s : Sides} → SidesOf nodes n p level (Some s) → TwoSides nodes n p level s.zero s.one s.ztop s.otop
    out (two T) = T

pub sides_broken : {nodes : List ℕ} {n p level : ℕ} {x : Option Sides} → x ≡ None → SidesOf nodes n p level x → (limit : ℕ) (B : List Family) (lookup : List ℕ) → Holds limit B n nodes lookup → ⊥
sides_broken e S = out (rw e at S)
  where
    out : {nodes : List ℕ} {n p level : ℕ} → SidesOf nodes n p level None → (limit : ℕ) (B : List Family) (lookup : List ℕ) → Holds limit B n nodes lookup → ⊥
    out (broken f) = f
