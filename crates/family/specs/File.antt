-- The file of a family, and the family of a file: document 01, 'The file'.
use Rattle.std.specs.Prelude.{ℕ, zero, suc, ◌-◌, ◌≤◌, Bool, cond, not, ◌&&◌, List, [], ◌∷◌, ◌++◌, eqb, ltb, leb, length, drop}
use Rattle.std.proofs.Math.Option.{Option, none, some}
use Rattle.family.specs.Family.{Family, empty, base, node, top, without_side, with_side, Within}
use Rattle.family.specs.Book.{start, at, number, held, place}
use Rattle.family.specs.Record.{then, bytes_of, read_number, Triple, triple, item_of, record_bytes, read_record}

-- "Record k has local number k + 1; 0 and 1 keep their meaning": the triples of some families, with the numbers that
-- a book gives
abbrev pub triples_of : List Family → List Family → List Triple
triples_of B [] = []
triples_of B (F ∷ Fs) = triple (top F) (number B (without_side F)) (number B (with_side F)) ∷ triples_of B Fs

-- records one after another, each with the item and the local number of the one before
abbrev pub records_bytes : ℕ → ℕ → List Triple → List ℕ
records_bytes previous_item previous_number [] = []
records_bytes previous_item previous_number (t ∷ ts) =
    record_bytes previous_item previous_number t ++ records_bytes (item_of t) (suc previous_number) ts

-- "01, the number of its parts in four bytes, low byte first, and one record per part": the file of a book's nodes
unfoldable pub file_of_book : List Family → List ℕ
file_of_book B = 1 ∷ (bytes_of 4 (length B - 2) ++ records_bytes 0 1 (triples_of B (drop 2 B)))

-- "{} is the byte 00 and {{}} is 02. Any other family .. is 01, .. and one record per part in placing order": the
-- parts as an empty store would number them
abbrev pub file_of : Family → List ℕ
file_of empty = 0 ∷ []
file_of base = 2 ∷ []
file_of (node i a b) = file_of_book (place start (node i a b))

-- "Any other family of at most 4,294,967,294 parts": the families that have a file
pub record HasFile (limit : ℕ) (F : Family) : Type 0 where
  pub within : Within limit F
  pub few : length (place start F) - 2 ≤ 4294967294

-- the family that a triple adds to a local book
abbrev pub node_of : List Family → Triple → Family
node_of C (triple i z o) = node i (at C z) (at C o)

-- whether a triple can be the next node of a local book: an item within the limit, children that stand before and
-- have smaller tops, one child not 0, a family not yet held
unfoldable pub fits : ℕ → List Family → Triple → Bool
fits limit C (triple i z o) =
    leb i limit &&
    (ltb z (length C) &&
    (ltb o (length C) && (ltb 0 o && (ltb (top (at C z)) i && (ltb (top (at C o)) i && not (held C (node i (at C z) (at C o))))))))

-- the local book after k records that fill the bytes to the last
abbrev pub read_records : ℕ → ℕ → List Family → ℕ → ℕ → List ℕ → Option (List Family)
read_records limit zero C previous_item previous_number [] = some C
read_records limit zero C previous_item previous_number (x ∷ l) = none
read_records limit (suc k) C previous_item previous_number l =
    then (read_record previous_item previous_number l)
    (λ t r. (let s = read_records limit k (C ++ (node_of C t ∷ [])) (item_of t) (suc previous_number) r in cond (fits limit C t) s none))

abbrev pub and_then : {A B : Type 0} → Option A → (A → Option B) → Option B
and_then none k = none
and_then (some x) k = k x

-- whether the parts of a family of the book that have numbers from n on stand in placing order; then the number after
-- them
abbrev pub order : List Family → Family → ℕ → Option ℕ
order B empty n = some n
order B base n = some n
order B (node i a b) n =
    let s = and_then (order B a n) (λ n₁. and_then (order B b n₁) (λ n₂. cond (eqb n₂ (number B (node i a b))) (some (suc n₂)) none)) in
    cond (ltb (number B (node i a b)) n) (some n) s

-- the last of n nodes, where placing it gives exactly the book
unfoldable pub last_of : ℕ → List Family → Option Family
last_of n B = and_then (order B (at B (suc n)) 2) (λ m. cond (eqb m (suc (suc n))) (some (at B (suc n))) none)

-- what follows the byte 01
unfoldable pub read_parts : ℕ → List ℕ → Option Family
read_parts limit l =
    then (read_number 4 l)
    (λ n r. (let s = and_then (read_records limit n start 0 1 r) (λ B. last_of n B) in cond (ltb 0 n && ltb n 4294967295) s none))

abbrev pub alone : Family → List ℕ → Option Family
alone F [] = some F
alone F (x ∷ l) = none

-- The family whose file the bytes are; none where they are the file of no family within the limit.
abbrev pub family_of : ℕ → List ℕ → Option Family
family_of limit [] = none
family_of limit (x ∷ l) =
    cond (eqb x 1) (read_parts limit l) (cond (eqb x 0) (alone empty l) (cond (eqb x 2) (alone base l) none))
