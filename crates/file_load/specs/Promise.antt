-- The promise of Load: document 01, 'Calls', 'The file' and 'Numbers and trade words', and document 02, No. 6.
use Rattle.std.specs.Prelude.{ℕ, ◌*◌, ◌<◌, ◌≡◌, false, cond, List, ltb, length, drop}
use Rattle.std.proofs.Math.Option.{Option, none, some}
use Rattle.family.specs.Family.{Family, empty, top, largest_item}
use Rattle.family.specs.File.{family_of}
use Rattle.store.specs.declared.record.Store.{Store}
use Rattle.store.specs.declared.record.Placement.{Placement}
use Rattle.store.specs.declared.record.Answered.{Answered}
use Rattle.store.specs.Capacity.{fitting}
use Rattle.store.specs.Promise.{PlaceCall}

-- 9: "the bytes are the file of no family", of items up to 512 whatever the store's limit; then 13: "a good file holds
-- an item above this store's limit", for which it is enough to see the top; 0 where neither holds
abbrev pub file_number : ℕ → Option Family → ℕ
file_number limit none = 9
file_number limit (some F) = cond (ltb limit (top F)) 13 0

-- 7: "scratch shorter than stated", "six 32-bit words per file byte"; then 9 and 13; 0 where none of them holds
unfoldable pub load_refusal : ℕ → List ℕ → ℕ → ℕ
load_refusal limit file words = cond (ltb words (6 * length file)) 7 (file_number limit (family_of largest_item file))

-- the family, {} where there is none
abbrev pub found_family : Option Family → Family
found_family none = empty
found_family (some F) = F

-- "Load reads a file and places its family"; {} where there is none, and then the call is refused
unfoldable pub load_family : List ℕ → Family
load_family file = found_family (family_of largest_item file)

-- Load's promise. "Needed scratch words are left free, later ones untouched": of the scratch it says which words stay.
pub record LoadCall (s : Store) (nodes lookup cache file scratch : List ℕ) (r : Answered Placement) (nodes' lookup' cache' scratch' : List ℕ) : Type 0 where
  pub places : PlaceCall (load_refusal s.limit file (length scratch)) (load_family file) s nodes lookup cache r nodes' lookup' cache'
  -- after a certain 10 and after 7 the scratch stays
  pub scratch_misfit : fitting s (length nodes) (length lookup) ≡ false → scratch' ≡ scratch
  pub scratch_short : length scratch < 6 * length file → scratch' ≡ scratch
  pub scratch_rest : drop (6 * length file) scratch' ≡ drop (6 * length file) scratch
  pub long : length scratch' ≡ length scratch
