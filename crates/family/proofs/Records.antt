-- Records: what is written is read back, and what is read was written exactly so; hence the code is canonical and no
-- record is the beginning of another.
-- One law over the number of bytes serves fields of two and of four; a record is three fields after a map byte of
-- three bits.
use Prim.Native.Nat.{ℕ, zero, suc, ◌+◌, ◌*◌, ◌/◌, ◌%◌, ◌<◌}
use mathlib.Core.Path.{◌≡◌, refl, sym, ap}
use mathlib.Core.Bool.{Bool, true, false, cond}
use mathlib.Core.List.{List, [], ◌∷◌, ◌++◌, append_assoc}
use mathlib.Core.Option.{Option, none, some}
use native.Mathlib.Omega.{arith}
use lib.Dec.{eqb}
use borrow.Author.Tests.{lt-ltb, eq-eqb}
use Rattle.family.specs.Record.{Bytes, Front, front, then, bytes_of, read_number, stands, field, read_field, Triple, triple, bit, map_of, record_bytes, bit1, bit2, bit4, read_fields, read_record}
use Rattle.words.proofs.Cases.{by_eq, by_lt}

pub not_some : {A : Type 0} {B : Type 0} {x : A} → none ≡ some x → B
not_some e = absurd (let z : ◌≡◌ {A = ℕ} 0 1 = cc in omega arith)

pub then_inv : {A B : Type 0} {P : Type 0} (g : Option (Front A)) (k : A → List ℕ → Option B) (y : B) → then g k ≡ some y
    → ((x : A) (r : List ℕ) → g ≡ some (front x r) → k x r ≡ some y → P) → P
then_inv none k y e f = not_some e
then_inv (some (front x r)) k y e f = f x r refl e

front_eq : {A : Type 0} {x y : A} {r s : List ℕ} → ◌≡◌ {A = Option (Front A)} (some (front x r)) (some (front y s)) → (x ≡ y) × (r ≡ s)
front_eq e = (cc, cc)

-- numbers below a power of 256
abbrev pub range : ℕ → ℕ
range zero = 1
range (suc n) = 256 * range n

pub number_sound : (n : ℕ) (l : List ℕ) → Bytes l → (v : ℕ) (r : List ℕ) → read_number n l ≡ some (front v r) → (bytes_of n v ++ r ≡ l) × Bytes r
number_sound zero l h v r e = let p : r ≡ l = sym (front_eq e).1 in (p, rw p h)
number_sound (suc n) [] h v r e = not_some e
number_sound (suc n) (x ∷ l) h v r e =
    then_inv (read_number n l) (λ w s. some (front (x + 256 * w) s)) (front v r) e
    (λ w s d k.
    let q = number_sound n l (λ j. h (suc j)) w s d in
    let a : x + 256 * w ≡ v = (front_eq k).0 in
    let b : s ≡ r = (front_eq k).1 in
    let low : v % 256 ≡ x = omega (arith, h 0) in
    let high : v / 256 ≡ w = omega (arith, h 0) in
    (rw (low, high, ← b, q.0), rw (← b) q.1))

pub number_complete : (n v : ℕ) (r : List ℕ) → v < range n → read_number n (bytes_of n v ++ r) ≡ some (front v r)
number_complete zero v r h = let e : v ≡ 0 = omega arith in rw e
number_complete (suc n) v r h = rw (number_complete n (v / 256) r (omega arith)) (ap (λ x. some (front x r)) (omega arith))

-- fields
pub field_sound : (n : ℕ) (s : Bool) (other : ℕ) (l : List ℕ) → Bytes l → (v : ℕ) (r : List ℕ) → read_field n s other l ≡ some (front v r)
    → (field n s v ++ r ≡ l) × (stands v other ≡ s) × Bytes r
field_sound n false other l h v r e =
    let q : v ≡ other = sym (front_eq e).0 in
    let p : r ≡ l = sym (front_eq e).1 in
    (p, rw (eq-eqb v other q), rw p h)
field_sound n true other l h v r e =
    then_inv (read_number n l) (λ w s. cond (eqb w other) none (some (front w s))) (front v r) e
    (λ w s d k.
    let q = number_sound n l h w s d in
    by_eq w other (λ p t. not_some (rw t at k))
    (λ p t.
    let m = front_eq (rw t at k) in
    (rw (← m.0, ← m.1) q.0, rw (← m.0, t), rw (← m.1) q.1)))

pub field_complete : (n v other : ℕ) (r : List ℕ) → v < range n → read_field n (stands v other) other (field n (stands v other) v ++ r) ≡ some (front v r)
field_complete n v other r h = by_eq v other (λ p e. rw (e, p)) (λ p e. rw (e, number_complete n v r h, e))

-- the map byte
bits : (a b c : Bool) → (bit1 (map_of a b c) ≡ a) × (bit2 (map_of a b c) ≡ b) × (bit4 (map_of a b c) ≡ c) × (map_of a b c < 8)
unfolding map_of
bits true true true = (refl, refl, refl, omega arith)
bits true true false = (refl, refl, refl, omega arith)
bits true false true = (refl, refl, refl, omega arith)
bits true false false = (refl, refl, refl, omega arith)
bits false true true = (refl, refl, refl, omega arith)
bits false true false = (refl, refl, refl, omega arith)
bits false false true = (refl, refl, refl, omega arith)
bits false false false = (refl, refl, refl, omega arith)

bit_back : (x : ℕ) → x < 2 → bit (eqb x 1) ≡ x
bit_back x h = by_eq x 1 (λ p e. rw e (omega arith)) (λ p e. rw e (omega arith))

weights : (m : ℕ) → m < 8 → m % 2 + (2 * (m / 2 % 2) + 4 * (m / 4 % 2)) ≡ m
weights m h =
    let e₁ : m / 4 % 2 ≡ m / 4 = omega arith in
    let e₂ : m / 4 ≡ m / 2 / 2 = omega arith in
    let e₃ : m / 2 % 2 + 2 * (m / 2 / 2) ≡ m / 2 = omega arith in
    let e₄ : m % 2 + 2 * (m / 2) ≡ m = omega arith in
    omega arith

map_back : (m : ℕ) → m < 8 → map_of (bit1 m) (bit2 m) (bit4 m) ≡ m
unfolding map_of
map_back m h = rw (bit_back (m % 2) (omega arith), bit_back (m / 2 % 2) (omega arith), bit_back (m / 4 % 2) (omega arith)) (weights m h)

-- records
join : (a b c r l₂ l₁ l : List ℕ) → a ++ l₁ ≡ l → b ++ l₂ ≡ l₁ → c ++ r ≡ l₂ → (a ++ (b ++ c)) ++ r ≡ l
join a b c r l₂ l₁ l p q s = simp append_assoc (cc)

fields_sound : (pi pn : ℕ) (a b c : Bool) (l : List ℕ) → Bytes l → (t : Triple) (r : List ℕ) → read_fields pi pn a b c l ≡ some (front t r)
    → (record_bytes pi pn t ++ r ≡ map_of a b c ∷ l) × Bytes r
unfolding read_fields record_bytes
fields_sound pi pn a b c l h t r e =
    then_inv (read_field 2 a (suc pi) l) _ (front t r) e
    (λ i l₁ e₁ k₁. then_inv (read_field 4 b 0 l₁) _ (front t r) k₁
    (λ z l₂ e₂ k₂. then_inv (read_field 4 c pn l₂) _ (front t r) k₂
    (λ o l₃ e₃ k₃.
    let m = front_eq k₃ in
    let f₁ = field_sound 2 a (suc pi) l h i l₁ e₁ in
    let f₂ = field_sound 4 b 0 l₁ f₁.2 z l₂ e₂ in
    let f₃ = field_sound 4 c pn l₂ f₂.2 o l₃ e₃ in
    rw (← m.0, ← m.1, f₁.1, f₂.1, f₃.1)
    (ap (λ x. map_of a b c ∷ x) (join (field 2 a i) (field 4 b z) (field 4 c o) l₃ l₂ l₁ l f₁.0 f₂.0 f₃.0), f₃.2))))

-- what is read re-encodes to exactly the bytes taken
pub record_sound : (pi pn : ℕ) (l : List ℕ) → Bytes l → (t : Triple) (r : List ℕ) → read_record pi pn l ≡ some (front t r) → (record_bytes pi pn t ++ r ≡ l) × Bytes r
unfolding read_record
record_sound pi pn [] h t r e = not_some e
record_sound pi pn (m ∷ l) h t r e =
    by_lt m 8 (λ p k. rw (map_back m p) at (fields_sound pi pn (bit1 m) (bit2 m) (bit4 m) l (λ j. h (suc j)) t r (rw k at e)))
    (λ p k. not_some (rw k at e))

-- the triples whose fields have room
abbrev pub Fits : Triple → Type 0
Fits (triple i z o) = (i < range 2) × (z < range 4) × (o < range 4)

-- what is written is read back
pub record_complete : (pi pn : ℕ) (t : Triple) (r : List ℕ) → Fits t → read_record pi pn (record_bytes pi pn t ++ r) ≡ some (front t r)
unfolding read_record record_bytes read_fields
record_complete pi pn (triple i z o) r h =
    let q = bits (stands i (suc pi)) (stands z 0) (stands o pn) in
    rw (
      q.0,
      q.1,
      q.2,
      lt-ltb _ _ q.3,
      append_assoc,
      append_assoc,
      field_complete 2 i (suc pi) (field 4 (stands z 0) z ++ (field 4 (stands o pn) o ++ r)) h.0,
      field_complete 4 z 0 (field 4 (stands o pn) o ++ r) h.1,
      field_complete 4 o pn r h.2,
    )

-- what is written is bytes
pub bytes_none : Bytes []
bytes_none k = omega arith

pub bytes_cons : (x : ℕ) (l : List ℕ) → x < 256 → Bytes l → Bytes (x ∷ l)
bytes_cons x l h b zero = h
bytes_cons x l h b (suc k) = b k

pub bytes_append : (l r : List ℕ) → Bytes l → Bytes r → Bytes (l ++ r)
bytes_append [] r b c = c
bytes_append (x ∷ l) r b c = bytes_cons x (l ++ r) (b 0) (bytes_append l r (λ k. b (suc k)) c)

pub bytes_number : (n v : ℕ) → Bytes (bytes_of n v)
bytes_number zero v = bytes_none
bytes_number (suc n) v = bytes_cons (v % 256) (bytes_of n (v / 256)) (omega arith) (bytes_number n (v / 256))

bytes_field : (n : ℕ) (s : Bool) (v : ℕ) → Bytes (field n s v)
bytes_field n true v = bytes_number n v
bytes_field n false v = bytes_none

pub bytes_record : (pi pn : ℕ) (t : Triple) → Bytes (record_bytes pi pn t)
unfolding record_bytes
bytes_record pi pn (triple i z o) =
    let item = field 2 (stands i (suc pi)) i in
    let low = field 4 (stands z 0) z in
    let high = field 4 (stands o pn) o in
    bytes_cons (map_of (stands i (suc pi)) (stands z 0) (stands o pn)) (item ++ (low ++ high)) (omega (arith, (bits (stands i (suc pi)) (stands z 0) (stands o pn)).3))
    (bytes_append item (low ++ high) (bytes_field 2 (stands i (suc pi)) i) (bytes_append low high (bytes_field 4 (stands z 0) z) (bytes_field 4 (stands o pn) o)))
