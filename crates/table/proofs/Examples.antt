-- Document 01's worked store, as far as the table goes, computed by the checker: the wrapped sum, the slot, and the
-- lookup of four nodes.
-- Each holds by computation alone.
use Rattle.std.proofs.Common.{◌≡◌, ℕ, ◌+◌, ◌*◌, ◌%◌, ◌^◌, List, [], ◌∷◌, refl}
use Rattle.table.specs.Start.{mix_of, start_of}
use Rattle.table.specs.Probe.{scan, after}
use Rattle.table.specs.Entered.{first_free, entered, start_at}

-- "The wrapped sum is 8,302,008, the slot 1."
sum_one : ◌≡◌ {A = ℕ} ((mix_of 1 + 65599 * (0 + 65599 * 1)) % 2 ^ 32) 8302008
sum_one = refl

slot_one : start_of 1 0 1 7 ≡ 1
unfolding start_of
slot_one = refl

four : List ℕ
four = 1 ∷ 0 ∷ 1 ∷ 2 ∷ 0 ∷ 1 ∷ 2 ∷ 2 ∷ 1 ∷ 2 ∷ 1 ∷ 2 ∷ []

lookup_four : entered (start_at four 7) 7 4 ≡ 3 ∷ 2 ∷ 5 ∷ 0 ∷ 4 ∷ 0 ∷ 0 ∷ []
unfolding entered start_at start_of first_free scan after four
lookup_four = refl
