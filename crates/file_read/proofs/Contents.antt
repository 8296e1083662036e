-- Each way out of `read_parts`: what the bytes hold is the family that the definition reads from them.
-- Each is one branch of that definition.
use Prim.Native.Nat.{ℕ, ◌≤◌, ◌<◌}
use mathlib.Core.Path.{◌≡◌, refl, ◌∙◌}
use mathlib.Core.List.{List, ◌∷◌}
use mathlib.Core.Option.{none, some}
use Rattle.std.specs.Prelude.{⊤}
use Rattle.std.proofs.Common.{Some, None}
use native.Mathlib.Omega.{arith}
use lib.ListN.{length, drop, length-drop}
use borrow.Author.Tests.{lt-ltb, le-ltb}
use Rattle.family.specs.Family.{largest_item}
use Rattle.family.specs.Book.{start}
use Rattle.family.specs.Record.{front, read_number}
use Rattle.family.specs.File.{and_then, read_records, last_of, read_parts, family_of}
use Rattle.file_parse.proofs.Taking.{number_short}
use Rattle.file_read.specs.declared.file.Content.TheVariants.{Parts}
use Rattle.file_read.specs.Inner.{TableOf, ContentOf}

-- bytes that hold no family
pub content_bad : (file nodes lookup : List ℕ) → family_of largest_item file ≡ none → ContentOf file nodes lookup None nodes lookup
content_bad file nodes lookup e = record { long = refl; long_lookup = refl; outcome = e }

-- the definition, after the number of parts
module _ (l : List ℕ) where
  parts_short : length l < 4 → read_parts largest_item l ≡ none
  unfolding read_parts
  parts_short h = rw (number_short 4 l h)

  module _ (n : ℕ) (r : List ℕ) (e : read_number 4 l ≡ some (front n r)) where
    parts_zero : n ≡ 0 → read_parts largest_item l ≡ none
    unfolding read_parts
    parts_zero z = rw (e, le-ltb 0 n (omega arith))

    module _ (some' : 0 < n) where
      parts_many : n ≡ 4294967295 → read_parts largest_item l ≡ none
      unfolding read_parts
      parts_many z = rw (e, lt-ltb 0 n some', le-ltb n 4294967295 (omega arith))

      module _ (few : n < 4294967295) where
        parts_are : read_parts largest_item l ≡ and_then (read_records largest_item n start 0 1 r) (λ B. last_of n B)
        unfolding read_parts
        parts_are = rw (e, lt-ltb 0 n some', lt-ltb n 4294967295 few)

-- what `read_parts` answers
module _ (l nodes lookup : List ℕ) where
  pub file_short : length l < 4 → ContentOf (1 ∷ l) nodes lookup None nodes lookup
  file_short h = content_bad (1 ∷ l) nodes lookup (parts_short l h)

  module _ (n : ℕ) (h : 4 ≤ length l) (number : read_number 4 l ≡ some (front n (drop 4 l))) where
    pub file_zero : n ≡ 0 → ContentOf (1 ∷ l) nodes lookup None nodes lookup
    file_zero e = content_bad (1 ∷ l) nodes lookup (parts_zero l n (drop 4 l) number e)

    module _ (some' : n ≡ 0 → ⊥) where
      pub file_many : n ≡ 4294967295 → ContentOf (1 ∷ l) nodes lookup None nodes lookup
      file_many e = content_bad (1 ∷ l) nodes lookup (parts_many l n (drop 4 l) number (omega arith) e)

      module _ (few : n < 4294967295) where
        reads : family_of largest_item (1 ∷ l) ≡ and_then (read_records largest_item n start 0 1 (drop 4 l)) (λ B. last_of n B)
        reads = parts_are l n (drop 4 l) number (omega arith) few

        pub file_unread : {nodes' lookup' : List ℕ} → TableOf (drop 4 l) n nodes lookup None nodes' lookup' → ContentOf (1 ∷ l) nodes lookup None nodes' lookup'
        file_unread T = record { long = T.long; long_lookup = T.long_lookup; outcome = reads ∙ T.outcome }

        pub file_parts : {u : ⊤} {nodes' lookup' : List ℕ} → TableOf (drop 4 l) n nodes lookup (Some u) nodes' lookup' → ContentOf (1 ∷ l) nodes lookup (Some (Parts n)) nodes' lookup'
        file_parts T =
            let W = T.outcome.whole in
            record {
              long = T.long;
              long_lookup = T.long_lookup;
              outcome = record {
                book = W.book;
                is = reads ∙ rw W.is T.outcome.last;
                few = omega (arith, length-drop 4 l, W.few);
                low = few;
                table = W.table;
                own = T.outcome.own;
              };
            }
