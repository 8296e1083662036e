-- How a call that places a family ends, worked out from the book alone: document 01, 'Calls' and 'Numbers and trade
-- words', and document 02, No. 7.
use Rattle.std.specs.Prelude.{ℕ, ◌-◌, Bool, cond, List, eqb, ltb, length}
use Rattle.family.specs.Family.{Family, parts}
use Rattle.family.specs.Book.{number, place, distinct, absent}
use Rattle.store.specs.Refusals.{Given, refused_by}

-- "the result's parts not yet held", each counted once; document 02: "the number of parts of the result that were not
-- held before"
unfoldable pub cost_of : List Family → Family → ℕ
cost_of B F = length (distinct (absent B (parts F)))

-- 5: "the result's parts not yet held outnumber capacity − count", where "the count is the book's length less 2"
unfoldable pub too_large : ℕ → List Family → Family → Bool
too_large capacity B F = ltb (capacity - (length B - 2)) (cost_of B F)

-- The answer of a call that takes the family F, or is refused before that by a number other than 0.
unfoldable pub place_answer : ℕ → List Family → ℕ → Family → Given
place_answer capacity B refusal F =
    cond (eqb refusal 0)
    (cond (too_large capacity B F) (refused_by 5) (record { refusal = 0; handle = number (place B F) F; added = cost_of B F }))
    (refused_by refusal)

-- The book after it: "The call is refused ..; the book then stays. Otherwise a call that places .. puts each part not
-- yet held at the book's end, in placing order"
unfoldable pub place_book : ℕ → List Family → ℕ → Family → List Family
place_book capacity B refusal F = cond (eqb refusal 0) (cond (too_large capacity B F) B (place B F)) B
