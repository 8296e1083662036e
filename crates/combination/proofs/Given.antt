-- What the language tells of an array of sixteen 32-bit words that came in by value: its length, and that each word
-- fits.
-- The logic owns an array as its length and a machine value for each element; an element's own relation holds its
-- bound.
use Prim.Native.Nat.{ℕ, zero, suc, ◌^◌, ◌<◌}
use mathlib.Core.Path.{◌≡◌}
use mathlib.Core.List.{List, [], ◌∷◌}
use native.Mathlib.Omega.{arith}
use lib.ListN.{length, get_or}
use mir.Syntax.{w32}
use mir.Val.{Val}
use denote.Array.{each}
use denote.Plain.{UInt}
use denote.Shadow.{shadow}
use Rattle.family.specs.Combination.{Words}

each_fits : (w : List ℕ) (us : List Val) → shadow (each ℕ (UInt w32).own_val w us) → (k : ℕ) → get_or w k 0 < 2 ^ 32
each_fits [] us s k = omega arith
each_fits (x ∷ w) [] s k = absurd s
each_fits (x ∷ w) (u ∷ us) s zero = s.0.1
each_fits (x ∷ w) (u ∷ us) s (suc k) = each_fits w us s.1 k

pub given_words : (w : List ℕ) (us : List Val) → length w ≡ 16 → shadow (each ℕ (UInt w32).own_val w us) → Words w
given_words w us l s = record { sixteen = l; wide = each_fits w us s }
