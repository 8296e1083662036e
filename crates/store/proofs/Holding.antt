-- A family that the book holds costs nothing: placing it is never refused as full, adds no node and answers its number.
-- Placing it leaves the book as it is, and what placing costs is what the book grows by.
use Prim.Native.Nat.{ℕ, ◌-◌}
use mathlib.Core.Path.{◌≡◌, ap}
use mathlib.Core.Bool.{false}
use mathlib.Core.List.{List}
use native.Mathlib.Omega.{arith}
use lib.ListN.{length}
use borrow.Author.Tests.{le-ltb}
use Rattle.family.specs.Family.{Family}
use Rattle.family.specs.Book.{number, Held, Book}
use Rattle.family.proofs.Placing.{place_held}
use Rattle.store.specs.Placing.{cost_of, too_large, place_answer}
use Rattle.store.proofs.Calls.{cost_length}

module _ {limit : ℕ} (B : List Family) (F : Family) (book : Book limit B) (h : Held B F) where
  pub cost_held : cost_of B F ≡ 0
  cost_held = omega (arith, cost_length B F, ap length (place_held B F book h))

  -- whatever the capacity, none left included
  pub held_fits : (capacity : ℕ) → too_large capacity B F ≡ false
  unfolding too_large
  held_fits capacity = le-ltb (capacity - (length B - 2)) (cost_of B F) (omega (arith, cost_held))

  pub held_answer : (capacity : ℕ) → place_answer capacity B 0 F ≡ record { refusal = 0; handle = number B F; added = 0 }
  unfolding place_answer
  held_answer capacity = rw (held_fits capacity, place_held B F book h, cost_held)
