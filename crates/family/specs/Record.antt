-- The bytes of one record of a file: document 01, 'The file'.
use Rattle.std.specs.Prelude.{ℕ, zero, suc, ◌+◌, ◌*◌, ◌/◌, ◌%◌, ◌<◌, Bool, true, false, cond, not, List, [], ◌∷◌, ◌++◌, eqb, ltb, get_or}
use Rattle.std.proofs.Math.Option.{Option, none, some}

-- what every list of bytes obeys
abbrev pub Bytes : List ℕ → Type 0
Bytes l = (k : ℕ) → get_or l k 0 < 256

-- what a reader took from the front of some bytes, and the bytes after it: "each record is taken from the rest of the
-- file"
pub data Front (A : Type 0) : Type 0 where
  front : A → List ℕ → Front A

abbrev pub then : {A B : Type 0} → Option (Front A) → (A → List ℕ → Option B) → Option B
then none k = none
then (some (front x r)) k = k x r

-- a number in n bytes, "low byte first"
abbrev pub bytes_of : ℕ → ℕ → List ℕ
bytes_of zero x = []
bytes_of (suc n) x = x % 256 ∷ bytes_of n (x / 256)

-- the number in the first n bytes
abbrev pub read_number : ℕ → List ℕ → Option (Front ℕ)
read_number zero l = some (front 0 l)
read_number (suc n) [] = none
read_number (suc n) (x ∷ l) = then (read_number n l) (λ v r. some (front (x + 256 * v) r))

-- "A field stands exactly when its value differs from the else-value."
abbrev pub stands : ℕ → ℕ → Bool
stands value other = not (eqb value other)

-- a field of n bytes, where it stands
abbrev pub field : ℕ → Bool → ℕ → List ℕ
field n true value = bytes_of n value
field n false value = []

-- reading a field of n bytes: a field that stands must differ from its else-value
abbrev pub read_field : ℕ → Bool → ℕ → List ℕ → Option (Front ℕ)
read_field n false other l = some (front other l)
read_field n true other l = then (read_number n l) (λ v r. cond (eqb v other) none (some (front v r)))

-- a part as a record of the file has it: item, zero child, one child, the children by local numbers
pub data Triple : Type 0 where
  triple : ℕ → ℕ → ℕ → Triple

abbrev pub item_of : Triple → ℕ
item_of (triple i z o) = i

abbrev pub bit : Bool → ℕ
bit true = 1
bit false = 0

-- "A record is a bit map byte": 1 item, 2 zero child, 4 one child
unfoldable pub map_of : Bool → Bool → Bool → ℕ
map_of item zero_child one_child = bit item + (2 * bit zero_child + 4 * bit one_child)

-- "then only the fields whose bit stands": item in two bytes, else the previous record's item plus 1; zero child in
-- four, else 0; one child in four, else the previous local number
unfoldable pub record_bytes : ℕ → ℕ → Triple → List ℕ
record_bytes previous_item previous_number (triple i z o) =
    map_of (stands i (suc previous_item)) (stands z 0) (stands o previous_number) ∷
    (field 2 (stands i (suc previous_item)) i ++ (field 4 (stands z 0) z ++ field 4 (stands o previous_number) o))

-- reading the three fields that the map byte names
unfoldable pub read_fields : ℕ → ℕ → Bool → Bool → Bool → List ℕ → Option (Front Triple)
read_fields previous_item previous_number item zero_child one_child l =
    then (read_field 2 item (suc previous_item) l)
    (λ i l₁. then (read_field 4 zero_child 0 l₁) (λ z l₂. then (read_field 4 one_child previous_number l₂) (λ o r. some (front (triple i z o) r))))

abbrev pub bit1 : ℕ → Bool
bit1 m = eqb (m % 2) 1

abbrev pub bit2 : ℕ → Bool
bit2 m = eqb (m / 2 % 2) 1

abbrev pub bit4 : ℕ → Bool
bit4 m = eqb (m / 4 % 2) 1

-- reading a record: "Other bits are 0"
unfoldable pub read_record : ℕ → ℕ → List ℕ → Option (Front Triple)
read_record previous_item previous_number [] = none
read_record previous_item previous_number (m ∷ l) =
    let r = read_fields previous_item previous_number (bit1 m) (bit2 m) (bit4 m) l in
    cond (ltb m 8) r none
