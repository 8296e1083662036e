-- What the readers answer is what the definitions of the file read: a field, the three fields of a record, the record.
-- Each way out is one branch of the definition; a part of the bytes lent from a place on is what is left after
-- dropping so many.
use Prim.Native.Nat.{ℕ, zero, suc, ◌+◌, ◌*◌, ◌-◌, ◌≤◌, ◌<◌}
use mathlib.Core.Path.{◌≡◌, refl, sym, ap, ◌∙◌}
use mathlib.Core.Bool.{Bool, true, false, cond}
use mathlib.Core.List.{List, [], ◌∷◌}
use mathlib.Core.Option.{Option, none, some}
use native.Mathlib.Omega.{arith}
use native.Mathlib.Numerals.{add-one}
use lib.Dec.{ltb}
use lib.ListN.{length, get_or, take, drop, length-drop}
use lib.Seq.{take_all, drop-drop, drop-cons}
use borrow.Author.Tests.{eq-eqb, ne_eqb, lt-ltb, le-ltb}
use Rattle.family.specs.Record.{Front, front, Triple, triple, read_number, read_field, bit1, bit2, bit4, read_fields, read_record}
use Rattle.file_record.specs.declared.field.Last.{Last}
use Rattle.file_record.specs.declared.field.Part.{Part}
use Rattle.file_parse.specs.declared.Taken.{Taken}
use Rattle.file_parse.specs.Inner.{FieldTaken, FieldsTaken, RecordTaken}

-- a part lent from a place on
pub part_from : (l : List ℕ) (a : ℕ) → take (length l - a) (drop a l) ≡ drop a l
part_from l a = take_all (length l - a) (drop a l) (omega (arith, length-drop a l))

-- a number in so many bytes
pub number_short : (n : ℕ) (l : List ℕ) → length l < n → read_number n l ≡ none
number_short zero l h = absurd (omega arith)
number_short (suc n) [] h = refl
number_short (suc n) (x ∷ l) h = rw (number_short n l (omega arith))

-- the numbers of n bytes are below this
abbrev pub bound : ℕ → ℕ
bound zero = 1
bound (suc n) = 256 * bound n

bound_low : (n : ℕ) → n ≤ 3 → bound n ≤ 16777216
bound_low zero h = omega arith
bound_low (suc zero) h = omega arith
bound_low (suc (suc zero)) h = omega arith
bound_low (suc (suc (suc zero))) h = omega arith
bound_low (suc (suc (suc (suc n)))) h = absurd (omega arith)

-- the bytes from a place up to the width, read
pub record BytesRead (l : List ℕ) (width left v : ℕ) : Type 0 where
  pub low : left ≤ width
  pub is : read_number (width - left) (drop left l) ≡ some (front v (drop width l))
  pub small : v < bound (width - left)

pub number_start : (l : List ℕ) (width : ℕ) → BytesRead l width width 0
number_start l width = let z : width - width ≡ 0 = omega arith in record { low = omega arith; is = rw z refl; small = rw z (omega arith) }

pub number_room : {l : List ℕ} {width left v : ℕ} → width ≤ 4 → 0 < left → BytesRead l width left v → v < 16777216
number_room {width = width} {left = left} h s R = omega (arith, R.small, bound_low (width - left) (omega arith))

pub number_step : {l : List ℕ} {width left v b : ℕ} → 0 < left → width ≤ length l → BytesRead l width left v → b ≡ get_or l (left - 1) 0 → b ≤ 255 → BytesRead l width (left - 1) (b + 256 * v)
number_step {l} {width} {left} {v} {b} s h R e low =
    let n : width - (left - 1) ≡ suc (width - left) = omega (arith, R.low) in
    let d : drop (left - 1) l ≡ b ∷ drop left l = drop-cons l (left - 1) 0 (omega (arith, R.low)) ∙ cong₂ (sym e) in
    record { low = omega (arith, R.low); is = rw (n, d, R.is) refl; small = rw n (omega (arith, R.small)) }
  where
    cong₂ : {x y : ℕ} → x ≡ y → x ∷ drop (suc (left - 1)) l ≡ y ∷ drop left l
    cong₂ p = let z : suc (left - 1) ≡ left = omega arith in rw (p, z) refl

pub number_done : {l : List ℕ} {width left v : ℕ} → left ≡ 0 → BytesRead l width left v → read_number width l ≡ some (front v (drop width l))
number_done {width = width} e R = let z : width - 0 ≡ width = omega arith in rw (e, z) at R.is

-- the ways out of a field reader
module _ (n : ℕ) {s : Bool} (other : ℕ) (l : List ℕ) where
  pub field_off : s ≡ false → FieldTaken n s other l (record { value = other; bytes = 0 })
  field_off e = rw e record { is = refl; fits = omega arith; few = omega arith }

  pub field_short : s ≡ true → length l < n → read_field n s other l ≡ none
  field_short e h = rw e (rw (number_short n l h))

  module _ (e : s ≡ true) (v : ℕ) (is : read_number n l ≡ some (front v (drop n l))) where
    pub field_same : v ≡ other → read_field n s other l ≡ none
    field_same d = rw e (rw (is, eq-eqb v other d))

    pub field_value : n ≤ length l → (v ≡ other → ⊥) → FieldTaken n s other l (record { value = v; bytes = n })
    field_value h d = rw e record { is = rw (is, ne_eqb v other d); fits = h; few = omega arith }

-- the three fields
module _ (map : ℕ) (last : Last) (l : List ℕ) where
  pub fields_no_item : read_field 2 (bit1 map) (last.item + 1) l ≡ none → read_fields last.item last.number (bit1 map) (bit2 map) (bit4 map) l ≡ none
  unfolding read_fields
  fields_no_item e = rw (rw add-one at e)

  module _ {i : Taken ℕ} (I : FieldTaken 2 (bit1 map) (last.item + 1) l i) where
    item_is : read_field 2 (bit1 map) (suc last.item) l ≡ some (front i.value (drop i.bytes l))
    item_is = rw add-one at I.is

    pub fields_no_zero : read_field 4 (bit2 map) 0 (drop i.bytes l) ≡ none → read_fields last.item last.number (bit1 map) (bit2 map) (bit4 map) l ≡ none
    unfolding read_fields
    fields_no_zero e = rw (item_is, e)

    module _ {z : Taken ℕ} (Z : FieldTaken 4 (bit2 map) 0 (drop i.bytes l) z) where
      -- how far the first two fields go
      pub fields_reach : i.bytes + z.bytes ≤ length l
      fields_reach = omega (arith, I.fits, Z.fits, length-drop i.bytes l)

      pub fields_no_one : read_field 4 (bit4 map) last.number (drop (i.bytes + z.bytes) l) ≡ none → read_fields last.item last.number (bit1 map) (bit2 map) (bit4 map) l ≡ none
      unfolding read_fields
      fields_no_one e = rw (item_is, Z.is, drop-drop z.bytes i.bytes l, e)

      pub fields_taken : {o : Taken ℕ} → FieldTaken 4 (bit4 map) last.number (drop (i.bytes + z.bytes) l) o
          → FieldsTaken map last l (record { value = record { item = i.value; zero = z.value; one = o.value }; bytes = i.bytes + z.bytes + o.bytes })
      unfolding read_fields
      fields_taken {o} O =
          record {
            is = rw (item_is, Z.is, drop-drop z.bytes i.bytes l, O.is, drop-drop o.bytes (i.bytes + z.bytes) l);
            fits = omega (arith, fields_reach, O.fits, length-drop (i.bytes + z.bytes) l);
            few = omega (arith, I.few, Z.few, O.few);
          }

both : (b : Bool) → ◌≡◌ {A = Option (Front Triple)} (cond b none none) none
both true = refl
both false = refl

-- the record
module _ (last : Last) where
  pub record_end : (l : List ℕ) → length l ≡ 0 → read_record last.item last.number l ≡ none
  unfolding read_record
  record_end [] e = refl
  record_end (x ∷ l) e = absurd (omega arith)

  -- behind a bit map byte
  module _ {l l₁ : List ℕ} {m : ℕ} (e : l ≡ m ∷ l₁) where
    pub record_map : 7 < m → read_record last.item last.number l ≡ none
    unfolding read_record
    record_map h = rw (e, le-ltb m 8 (omega arith))

    pub record_no : read_fields last.item last.number (bit1 m) (bit2 m) (bit4 m) l₁ ≡ none → read_record last.item last.number l ≡ none
    unfolding read_record
    record_no n = rw (e, n) (both (ltb m 8))

    pub record_taken : {t : Taken Part} → m ≤ 7 → FieldsTaken m last l₁ t → RecordTaken last l (record { value = t.value; bytes = 1 + t.bytes })
    unfolding read_record
    record_taken {t} low F =
        rw e record {
          is = rw (lt-ltb m 8 (omega arith), F.is) (ap (λ r. some (front (triple t.value.item t.value.zero t.value.one) r)) (drop-drop t.bytes 1 (m ∷ l₁)));
          fits = omega (arith, F.fits);
          some_bytes = omega arith;
        }
