-- The writing of all parts: turn by turn the family at the cursor is the next one of the local book, and at its end
-- the output has the whole file.
-- Each turn writes the part after those that are written.
use Prim.Native.Nat.{ℕ, ◌+◌, ◌*◌, ◌≤◌, ◌<◌}
use mathlib.Core.Path.{◌≡◌, refl, ap, ◌∙◌}
use mathlib.Core.List.{List, [], ◌++◌}
use native.Mathlib.Omega.{arith}
use lib.ListN.{length, get_or, drop, length-drop, drop_of_length-le}
use lib.Seq.{take_all}
use Rattle.std.specs.Prelude.{⊤}
use Rattle.std.proofs.Common.{Some, None}
use Rattle.family.specs.Family.{Family, largest_item}
use Rattle.family.specs.File.{triples_of, records_bytes}
use Rattle.store.specs.Inner.{Holds}
use Rattle.file_write.specs.declared.Cursor.{Cursor}
use Rattle.file_write.specs.Inner.{CursorFits, Writing, TurnOf, first_cursor, WritesOf}

-- k parts are written
pub record Written (first parts : ℕ) (nodes : List ℕ) (n : ℕ) (links₀ out₀ : List ℕ) (c : Cursor) (k : ℕ) (links out : List ℕ) : Type 0 where
  pub most : k ≤ parts
  pub number_is : c.last.number ≡ k + 1
  pub place_low : c.place ≤ length out
  pub item_low : c.last.item ≤ largest_item
  pub short : c.place ≤ 11 * c.last.number
  pub long : length links ≡ length links₀
  pub long_out : length out ≡ length out₀
  pub rest : (j : ℕ) → n ≤ j → get_or links j 0 ≡ get_or links₀ j 0
  pub sound : {limit : ℕ} (B D : List Family) (lookup whole before : List ℕ) → Holds limit B n nodes lookup → parts + 2 ≡ length D → Writing limit B D 2 (first_cursor first) links₀ whole before out₀
      → Writing limit B D (k + 2) c links whole before out

module _ (first parts : ℕ) (nodes : List ℕ) (n : ℕ) (links₀ out₀ : List ℕ) where
  pub written_start : 5 ≤ length out₀ → Written first parts nodes n links₀ out₀ (first_cursor first) 0 links₀ out₀
  written_start h =
      record {
        most = omega arith;
        number_is = refl;
        place_low = h;
        item_low = omega arith;
        short = omega arith;
        long = refl;
        long_out = refl;
        rest = λ j l. refl;
        sound = λ B D lookup whole before H e W. W;
      }

  module _ (c : Cursor) (k : ℕ) {links out : List ℕ} (L : Written first parts nodes n links₀ out₀ c k links out) where
    pub written_fits : parts ≤ 1000000 → CursorFits c out
    written_fits l = record { within = L.place_low; item_low = L.item_low; number_low = omega (arith, L.number_is, L.most); short = L.short }

    module _ (more : k < parts) {links' out' : List ℕ} where
      pub written_broken : TurnOf c nodes n links out None links' out' → WritesOf first parts nodes n links₀ out₀ None links' out'
      written_broken T =
          record {
            long = T.long ∙ L.long;
            long_out = T.long_out ∙ L.long_out;
            rest = λ j l. T.rest j l ∙ L.rest j l;
            sound = λ B D lookup whole before H q W. T.sound B D (k + 2) lookup whole before H (omega arith) (L.sound B D lookup whole before H q W);
          }

      pub written_step : {d : Cursor} → TurnOf c nodes n links out (Some d) links' out' → Written first parts nodes n links₀ out₀ d (k + 1) links' out'
      written_step T =
          let f = T.next_fits in
          record {
            most = omega arith;
            number_is = omega (arith, f.number_is, L.number_is);
            place_low = f.within;
            item_low = f.item_low;
            short = f.short;
            long = T.long ∙ L.long;
            long_out = T.long_out ∙ L.long_out;
            rest = λ j l. T.rest j l ∙ L.rest j l;
            sound = λ B D lookup whole before H q W.
                let z : k + 2 + 1 ≡ k + 1 + 2 = omega arith in
                rw z at (T.sound B D (k + 2) lookup whole before H (omega arith) (L.sound B D lookup whole before H q W));
          }

    pub written_done : {u : ⊤} → parts ≤ k → WritesOf first parts nodes n links₀ out₀ (Some u) links out
    written_done e =
        record {
          long = L.long;
          long_out = L.long_out;
          rest = L.rest;
          sound = λ B D lookup whole before H q W. whole_is D q (L.sound B D lookup whole before H q W);
        }
      where
        whole_is : {limit : ℕ} {B : List Family} (D : List Family) {whole before : List ℕ} → parts + 2 ≡ length D → Writing limit B D (k + 2) c links whole before out → out ≡ whole ++ drop (length whole) before
        whole_is D {whole} {before} q W =
            let none : drop (k + 2) D ≡ [] = drop_of_length-le D {i = k + 2} (omega arith) in
            let end : drop c.place whole ≡ [] = W.todo_is ∙ ap (λ X. records_bytes c.last.item c.last.number (triples_of D X)) none in
            let p : c.place ≡ length whole = omega (arith, ap length end, length-drop c.place whole, W.place_low) in
            W.out_is ∙ rw (p, take_all (length whole) whole (omega arith))
