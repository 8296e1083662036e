-- No family of a family's own book has a top above that family's.
-- What placing a family brings into a book has no higher top, and {} and {{}} have no item.
use Prim.Native.Nat.{ℕ, ◌≤◌}
use mathlib.Core.Path.{◌≡◌}
use mathlib.Core.List.{List}
use native.Mathlib.Omega.{arith}
use Rattle.family.specs.Family.{Family, Ordered, top}
use Rattle.family.specs.Book.{start, Held, place}
use Rattle.family.proofs.Books.{book_start}
use Rattle.family.proofs.Placing.{held_below}
use Rattle.words.proofs.Cases.{by_lt}

own_top : (F G : Family) → Ordered F → Held (place start F) G → top G ≤ top F
own_top F G o h = by_lt (top F) (top G) (λ l e. absurd (omega (arith, ((book_start 0).within G (held_below start F G o l h)).low))) (λ l e. l)

-- the families of a book keep to a limit
pub record Tops (limit : ℕ) (C : List Family) : Type 0 where
  pub each : (G : Family) → Held C G → top G ≤ limit

pub own_tops : {limit : ℕ} {C : List Family} (F : Family) → Ordered F → place start F ≡ C → top F ≤ limit → Tops limit C
own_tops F o own l = record { each = λ G h. omega (arith, own_top F G o (rw own h)) }
