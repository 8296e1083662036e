-- Combinations of items, and the record of sixteen words that holds one: document 01, 'Families and their parts' and
-- 'Calls', Has.
use Rattle.std.specs.Prelude.{ℕ, zero, suc, ◌/◌, ◌%◌, ◌^◌, ◌≤◌, ◌<◌, ◌≡◌, Bool, true, false, cond, not, ◌&&◌, ◌||◌, List, [], ◌∷◌, eqb, ltb, leb, length, get_or}

-- the largest item of a combination; 0 where it holds none
abbrev pub largest : List ℕ → ℕ
largest [] = 0
largest (x ∷ c) = x

-- "A combination is a set of items, the empty one included": a strictly falling list of items from 1 on.
abbrev pub Falling : List ℕ → Type 0
Falling [] = Unit {0}
Falling (x ∷ c) = (largest c < x) × Falling c

-- a combination of items from 1 to the limit
pub record Combined (limit : ℕ) (c : List ℕ) : Type 0 where
  pub falling : Falling c
  pub low : largest c ≤ limit

-- whether a combination holds an item
abbrev pub holds : ℕ → List ℕ → Bool
holds v [] = false
holds v (x ∷ c) = eqb x v || holds v c

-- an item put into a combination that lacks it
abbrev pub insert : ℕ → List ℕ → List ℕ
insert v [] = v ∷ []
insert v (x ∷ c) = cond (ltb x v) (v ∷ x ∷ c) (x ∷ insert v c)

-- whether a number is an item from 1 to the limit that a combination lacks
unfoldable pub is_free : ℕ → ℕ → List ℕ → Bool
is_free limit v c = ltb 0 v && (leb v limit && not (holds v c))

-- an item from 1 to the limit put into a combination that lacks it; else nothing changes
unfoldable pub including : ℕ → ℕ → List ℕ → List ℕ
including limit v c = cond (is_free limit v c) (insert v c) c

-- an item taken out of a combination; where it is absent nothing changes
abbrev pub remove : ℕ → List ℕ → List ℕ
remove v [] = []
remove v (x ∷ c) = cond (eqb x v) c (x ∷ remove v c)

-- "v is put in where absent and taken out where present"
abbrev pub toggle : ℕ → List ℕ → List ℕ
toggle v c = cond (holds v c) (remove v c) (insert v c)

-- whether a combination holds no item
abbrev pub is_none : List ℕ → Bool
is_none [] = true
is_none (x ∷ c) = false

-- "A combination comes as sixteen words of 32 bits in one record"
pub record Words (w : List ℕ) : Type 0 where
  pub sixteen : length w ≡ 16
  pub wide : (k : ℕ) → get_or w k 0 < 2 ^ 32

-- "item i is bit (i − 1) modulo 32 of word (i − 1) / 32, rounded down": here for i = n + 1
unfoldable pub bit_at : List ℕ → ℕ → Bool
bit_at w n = eqb (get_or w (n / 32) 0 / 2 ^ (n % 32) % 2) 1

-- the items from 1 to n whose bits stand, largest first
abbrev pub items_to : ℕ → List ℕ → List ℕ
items_to zero w = []
items_to (suc n) w = cond (bit_at w n) (suc n ∷ items_to n w) (items_to n w)

-- the combination that a record means
unfoldable pub items_of : List ℕ → List ℕ
items_of w = items_to 512 w
