-- Books: lists of families numbered from 0, and placing: document 01, 'The store' and 'Calls'.
use Rattle.std.specs.Prelude.{ℕ, suc, ◌<◌, ◌≡◌, Bool, cond, List, [], ◌∷◌, ◌++◌, ltb, length, get_or}
use Rattle.std.proofs.Math.Bool.{decide}
use Rattle.std.proofs.Math.Decide.{ℕ_discrete}
use Rattle.family.specs.Family.{Family, empty, base, node, Family-discrete, Within, inhabited}

-- "It is a list of families numbered from 0, at first {} and {{}}."
abbrev pub start : List Family
start = empty ∷ base ∷ []

-- whether two families are the same diagram
unfoldable pub same : Family → Family → Bool
unfolding decide ℕ_discrete
same F G = decide (Family-discrete ℕ_discrete F G)

-- the family of a number; {} past the end
abbrev pub at : List Family → ℕ → Family
at B k = get_or B k empty

-- the number of a family: its first place, the book's length where it stands nowhere
abbrev pub number : List Family → Family → ℕ
number [] F = 0
number (G ∷ B) F = cond (same G F) 0 (suc (number B F))

-- "held means standing in the book"
abbrev pub Held : List Family → Family → Type 0
Held B F = number B F < length B

abbrev pub held : List Family → Family → Bool
held B F = ltb (number B F) (length B)

-- "each part not yet held gets the next number"
unfoldable pub add : List Family → Family → List Family
add B F = cond (held B F) B (B ++ (F ∷ []))

-- "To place F means: visit its parts, without-side first, then with-side, then the part itself; each part not yet
-- held gets the next number"
abbrev pub place : List Family → Family → List Family
place B empty = B
place B base = B
place B (node i a b) = add (place (place B a) b) (node i a b)

-- what making the node of i, a and b does to a book that holds a and b: nothing where b is {}
abbrev pub made : List Family → ℕ → Family → Family → List Family
made B i a b = cond (inhabited b) (add B (node i a b)) B

-- C is B with more families at its end
pub record Grown (B C : List Family) : Type 0 where
  pub new : List Family
  pub eq : C ≡ B ++ new

-- What every book of calls obeys: it starts {}, {{}}, no family stands twice, both sides stand before their family,
-- and every family is within the limit.
pub record Book (limit : ℕ) (B : List Family) : Type 0 where
  pub begins : Grown start B
  pub unique : (k : ℕ) → k < length B → number B (at B k) ≡ k
  pub below : (i : ℕ) (a b : Family) → Held B (node i a b) → (number B a < number B (node i a b)) × (number B b < number B (node i a b))
  pub within : (F : Family) → Held B F → Within limit F

-- the families of a list that are not F
abbrev pub except : Family → List Family → List Family
except F [] = []
except F (G ∷ Gs) = cond (same G F) (except F Gs) (G ∷ except F Gs)

-- the different families of a list, each at its first place
abbrev pub distinct : List Family → List Family
distinct [] = []
distinct (F ∷ Fs) = F ∷ except F (distinct Fs)

-- the families of a list that a book does not hold
abbrev pub absent : List Family → List Family → List Family
absent B [] = []
absent B (F ∷ Fs) = cond (held B F) (absent B Fs) (F ∷ absent B Fs)
