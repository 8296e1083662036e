-- Families within the limit are equal exactly when the same combinations are members of them.
-- Ordered families that agree on every combination are equal (`canonical`), and none has a member above the limit.
use Prim.Native.Nat.{ℕ}
use mathlib.Core.Path.{◌≡◌, sym, ap, ◌∙◌}
use mathlib.Core.List.{List, [], ◌∷◌}
use mathlib.Core.Logic.{◌↔◌}
use native.Mathlib.Omega.{arith}
use Rattle.words.proofs.Cases.{by_lt}
use Rattle.family.specs.Family.{Family, Within, has, largest_item}
use Rattle.family.specs.Combination.{Falling}
use Rattle.family.proofs.Diagrams.{has_above}
use Rattle.family.proofs.Canonical.{canonical}
use Rattle.lists.specs.Demand3.{SameMembers}

module _ {F G : Family} (hF : Within largest_item F) (hG : Within largest_item G) where
  agree : SameMembers F G → (c : List ℕ) → Falling c → has F c ≡ has G c
  agree s [] f = s.each [] (record { falling = f; low = omega arith })
  agree s (v ∷ c) f =
      by_lt largest_item v
      (λ l e. has_above F v c hF.ordered (omega (arith, hF.low)) ∙ sym (has_above G v c hG.ordered (omega (arith, hG.low))))
      (λ l e. s.each (v ∷ c) (record { falling = f; low = l }))

  pub members_equal : (F ≡ G) ↔ SameMembers F G
  members_equal = (λ e. record { each = λ c k. ap (λ X. has X c) e }, λ s. canonical F G hF.ordered hG.ordered (agree s))

-- what is so exactly when the families are equal is so exactly when their members are
pub by_members : {A : Type 0} {F G : Family} → Within largest_item F → Within largest_item G → A ↔ (F ≡ G) → A ↔ SameMembers F G
by_members hF hG e = let m = members_equal hF hG in (λ a. m.0 (e.0 a), λ s. e.1 (m.1 s))
