-- What the functions below `close` promise each other. A reader of the promises can pass this page over.
use Rattle.std.specs.Prelude.{ℕ, suc, ◌+◌, ◌≤◌, ◌≡◌, List, [], Result, Ok, Err}
use Rattle.family.specs.Family.{size, largest_item}
use Rattle.family.specs.Book.{at}
use Rattle.arrayvec.specs.ArrayString.{ArrayString}
use Rattle.store.specs.declared.record.Refusal.{Refusal}
use Rattle.store.specs.declared.record.Store.{Store}
use Rattle.store.specs.Words.{book_of}
use Rattle.store.specs.Sound.{Sound}
use Rattle.report_close.specs.declared.FourHandles.{FourHandles}
use Rattle.report_tally.specs.declared.Ending.{Ending}
use Rattle.report_tally.specs.declared.Ending.TheVariants.{Going, Refused, Full}
use Rattle.report_tally.specs.declared.Tally.{Tally}
use Rattle.report_text.specs.Text.{refused_word, full_word, report_full, line_text, sums_text}
use Rattle.report_tally.specs.Log.{Log, capped}
use Rattle.report_tally.specs.Promise.{Keeps}
use Rattle.report_log.specs.Log.{closing, output_of}

-- the size of a handle that is held, with enough scratch
pub record SizeIt (s : Store) (nodes lookup : List ℕ) (p words r : ℕ) : Type 0 where
  pub is : Sound s nodes lookup [] → p ≤ s.count + 1 → s.count ≤ words → r ≡ capped (size (at (book_of nodes s.count) p))

-- four handles that are held
pub record AllHeld (n : ℕ) (h : FourHandles) : Type 0 where
  pub passed : h.passed ≤ n + 1
  pub returned : h.returned ≤ n + 1
  pub both : h.both ≤ n + 1
  pub only : h.only ≤ n + 1

-- the text of their sizes
pub record SizesIt (s : Store) (nodes lookup : List ℕ) (h : FourHandles) (words : ℕ) (text : List ℕ) : Type 0 where
  pub is : Sound s nodes lookup [] → AllHeld s.count h → s.count ≤ words
      → text ≡ sums_text (capped (size (at (book_of nodes s.count) h.passed))) (capped (size (at (book_of nodes s.count) h.returned)))
      (capped (size (at (book_of nodes s.count) h.both))) (capped (size (at (book_of nodes s.count) h.only)))

-- the text that an answer of the closing sums comes to
abbrev pub text_of : Result ArrayString Refusal → List ℕ
text_of (Ok text) = text.bytes
text_of (Err x) = report_full

-- the closing sums of two handles, in a store with the limit of all items
pub record SumsIt (s : Store) (nodes lookup cache : List ℕ) (passed returned words : ℕ) (r : Result ArrayString Refusal) : Type 0 where
  pub is : Sound s nodes lookup cache → s.limit ≡ largest_item → passed ≤ s.count + 1 → returned ≤ s.count + 1 → s.capacity ≤ words
      → text_of r ≡ closing s.capacity (record { book = book_of nodes s.count; passed = at (book_of nodes s.count) passed; returned = at (book_of nodes s.count) returned })

-- what is printed of a log, by how it ends with its last byte
abbrev pub end_text : ℕ → Log → Ending → List ℕ
end_text capacity g Going = closing capacity g.lot
end_text capacity g Refused = line_text (capped (suc g.lines)) refused_word
end_text capacity g Full = line_text (capped (suc g.lines)) full_word

pub record EndIs (t : Tally) (e : Ending) : Type 0 where
  pub is : (capacity : ℕ) (nodes lookup cache : List ℕ) (g : Log) → Keeps capacity t nodes lookup cache g → output_of capacity g ≡ end_text capacity g e
