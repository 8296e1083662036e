-- What the writers leave is the definition's bytes at the front: a field where it stands, then the record of three
-- fields behind the bit map byte.
-- Runs of bytes laid one after another are one run.
use Prim.Native.Nat.{ℕ, zero, suc, ◌+◌, ◌*◌, ◌-◌, ◌/◌, ◌%◌, ◌≤◌, ◌<◌}
use mathlib.Core.Path.{◌≡◌, refl, sym, ap, ◌∙◌}
use mathlib.Core.Bool.{Bool, true, false, cond}
use mathlib.Core.List.{List, [], ◌∷◌, ◌++◌}
use native.Mathlib.Omega.{arith}
use native.Mathlib.Numerals.{add-one}
use lib.ListN.{length, set, length-set, length-append}
use lib.Seq.{sets}
use Rattle.std.specs.Int.{from_bool}
use Rattle.family.specs.Record.{bytes_of, stands, field, map_of, triple, record_bytes}
use Rattle.file_record.specs.declared.field.Part.{Part}
use Rattle.file_record.specs.declared.field.Last.{Last}
use Rattle.file_record.specs.declared.field.Standing.{Standing}
use Rattle.file_record.specs.Widths.{standing_of, widths}

pub sets_append : (xs ys l : List ℕ) (i : ℕ) → sets l i (xs ++ ys) ≡ sets (sets l i xs) (i + length xs) ys
sets_append [] ys l i = ap (λ k. sets l k ys) (omega arith)
sets_append (x ∷ xs) ys l i = sets_append xs ys (set l i x) (suc i) ∙ ap (λ k. sets (sets (set l i x) (suc i) xs) k ys) (omega arith)

-- a flag as a number
one_of : (b : Bool) (k : ℕ) → cond b k 0 ≡ k * from_bool b
one_of true k = omega arith
one_of false k = omega arith

-- the bit map byte
pub map_is : (i z o : Bool) {a b c : ℕ} → a ≡ from_bool i → b ≡ from_bool z → c ≡ from_bool o → a + 2 * b + 4 * c ≡ map_of i z o
unfolding map_of
map_is true true true x y w = rw (x, y, w)
map_is true true false x y w = rw (x, y, w)
map_is true false true x y w = rw (x, y, w)
map_is true false false x y w = rw (x, y, w)
map_is false true true x y w = rw (x, y, w)
map_is false true false x y w = rw (x, y, w)
map_is false false true x y w = rw (x, y, w)
map_is false false false x y w = rw (x, y, w)

-- the length of a record
pub widths_is : (i z o : Bool) {a b c : ℕ} → a ≡ from_bool i → b ≡ from_bool z → c ≡ from_bool o → 1 + 2 * a + 4 * b + 4 * c ≡ widths i z o
unfolding widths
widths_is i z o x y w = omega (arith, one_of i 2, one_of z 4, one_of o 4)

-- the bytes of a field that stands
bytes_length : (n v : ℕ) → length (bytes_of n v) ≡ n
bytes_length zero v = refl
bytes_length (suc n) v = ap suc (bytes_length n (v / 256))

field_length : (n : ℕ) (s : Bool) (v : ℕ) → length (field n s v) ≡ cond s n 0
field_length n true v = bytes_length n v
field_length n false v = refl

-- the bytes of a number are laid up to a place; those of what is left of it complete the run
pub record Laid (l₀ : List ℕ) (at width value place left : ℕ) (l : List ℕ) : Type 0 where
  pub room : at + width ≤ length l₀
  pub long : length l ≡ length l₀
  pub rest : sets l place (bytes_of (at + width - place) left) ≡ sets l₀ at (bytes_of width value)

pub laid_start : (l : List ℕ) (at width value : ℕ) → at + width ≤ length l → Laid l at width value at value l
laid_start l at width value h =
    let w : at + width - at ≡ width = omega arith in
    record { room = h; long = refl; rest = rw w refl }

pub laid_step : {l₀ : List ℕ} {at width value place left : ℕ} {l : List ℕ} → place < at + width → Laid l₀ at width value place left l
    → Laid l₀ at width value (place + 1) (left / 256) (set l place (left % 256))
laid_step {at = at} {width = width} {place = place} {left = left} {l = l} h L =
    let w : at + width - place ≡ suc (at + width - (place + 1)) = omega arith in
    let z : suc place ≡ place + 1 = omega arith in
    record {
      room = L.room;
      long = length-set l place (left % 256) ∙ L.long;
      rest = sym (ap (λ n. sets l place (bytes_of n left)) w ∙ ap (λ j. sets (set l place (left % 256)) j (bytes_of (at + width - (place + 1)) (left / 256))) z) ∙ L.rest;
    }

-- the ways out of a field writer
pub field_off : {s : Bool} (v : ℕ) (l : List ℕ) (at n : ℕ) → s ≡ false → (at ≡ at + cond s n 0) × (l ≡ sets l at (field n s v))
field_off v l at n e = rw e (omega arith, refl)

pub field_laid : {s : Bool} {l₀ : List ℕ} {at width value place left : ℕ} {l : List ℕ} → s ≡ true → at + width ≤ place → Laid l₀ at width value place left l
    → (at + width ≡ at + cond s width 0) × (l ≡ sets l₀ at (field width s value))
field_laid {at = at} {width = width} {place = place} e h L = let z : at + width - place ≡ 0 = omega arith in rw e (refl, rw z at L.rest)

-- the room of a field that stands
pub field_room : {s : Bool} (width at : ℕ) (l : List ℕ) → s ≡ true → at + cond s width 0 ≤ length l → at + width ≤ length l
field_room width at l e h = rw e at h

-- the record's length, by the fields that stand
pub widths_length : (pi pn i z o : ℕ) → widths (stands i (suc pi)) (stands z 0) (stands o pn) ≡ length (record_bytes pi pn (triple i z o))
unfolding widths record_bytes
widths_length pi pn i z o =
    rw (
      length-append (field 2 (stands i (suc pi)) i),
      length-append (field 4 (stands z 0) z),
      field_length 2 (stands i (suc pi)) i,
      field_length 4 (stands z 0) z,
      field_length 4 (stands o pn) o,
    ) (omega arith)

module _ (part : Part) (last : Last) where
  pub standing_length : widths (stands part.item (last.item + 1)) (stands part.zero 0) (stands part.one last.number) ≡ length (record_bytes last.item last.number (triple part.item part.zero part.one))
  standing_length = rw add-one (widths_length last.item last.number part.item part.zero part.one)

  module _ {s : Standing} (e : s ≡ standing_of part last) where
    whole : 1 + cond s.item 2 0 + cond s.zero 4 0 + cond s.one 4 0 ≡ length (record_bytes last.item last.number (triple part.item part.zero part.one))
    unfolding widths
    whole = rw e standing_length

    pub record_length : {n : ℕ} → n ≡ widths s.item s.zero s.one → n ≡ length (record_bytes last.item last.number (triple part.item part.zero part.one))
    record_length d = d ∙ rw e standing_length

    -- the room for each field
    module _ (l : List ℕ) (room : length (record_bytes last.item last.number (triple part.item part.zero part.one)) ≤ length l) where
      pub room_map : 0 < length l
      room_map = omega (arith, whole)

      pub room_item : (m : ℕ) → 1 + cond s.item 2 0 ≤ length (set l 0 m)
      room_item m = omega (arith, whole, length-set l 0 m)

      pub room_zero : (a : ℕ) {n : ℕ} → n ≡ length l → a ≡ 1 + cond s.item 2 0 → a + cond s.zero 4 0 ≤ n
      room_zero a e ea = omega (arith, whole)

      pub room_one : (a b : ℕ) {n : ℕ} → n ≡ length l → a ≡ 1 + cond s.item 2 0 → b ≡ a + cond s.zero 4 0 → b + cond s.one 4 0 ≤ n
      room_one a b e ea eb = omega (arith, whole)

    -- the bit map byte and the fields, each behind the one before
    module _ (l : List ℕ) (m a b c : ℕ) {l₁ l₂ l₃ : List ℕ} (em : m ≡ map_of s.item s.zero s.one)
        (e₁ : (a ≡ 1 + cond s.item 2 0) × (l₁ ≡ sets (set l 0 m) 1 (field 2 s.item part.item)))
        (e₂ : (b ≡ a + cond s.zero 4 0) × (l₂ ≡ sets l₁ a (field 4 s.zero part.zero)))
        (e₃ : (c ≡ b + cond s.one 4 0) × (l₃ ≡ sets l₂ b (field 4 s.one part.one))) where
      pub record_place : c ≡ length (record_bytes last.item last.number (triple part.item part.zero part.one))
      record_place = omega (arith, whole, e₁.0, e₂.0, e₃.0)

      laid : l₃ ≡ sets l 0 (map_of s.item s.zero s.one ∷ (field 2 s.item part.item ++ (field 4 s.zero part.zero ++ field 4 s.one part.one)))
      laid =
          rw (e₃.1, e₂.1, e₁.1, e₂.0, e₁.0, em, ← field_length 2 s.item part.item, ← field_length 4 s.zero part.zero)
          (sym (sets_append (field 2 s.item part.item) (field 4 s.zero part.zero ++ field 4 s.one part.one) (set l 0 (map_of s.item s.zero s.one)) 1
          ∙ sets_append (field 4 s.zero part.zero) (field 4 s.one part.one) (sets (set l 0 (map_of s.item s.zero s.one)) 1 (field 2 s.item part.item)) (1 + length (field 2 s.item part.item))))

      pub record_laid : l₃ ≡ sets l 0 (record_bytes last.item last.number (triple part.item part.zero part.one))
      unfolding record_bytes
      record_laid = laid ∙ rw (e, add-one last.item)
