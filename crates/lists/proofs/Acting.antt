-- What every act of a call has on a book: a file is written of a family held, and a family placed keeps to the limit.
-- One line for each call: a handle of the book means a family held, and operations and files keep to the limit.
use Prim.Native.Nat.{ℕ, ◌*◌}
use mathlib.Core.Path.{◌≡◌, refl}
use mathlib.Core.List.{List}
use mathlib.Core.Option.{Option, none, some}
use native.Mathlib.Omega.{arith}
use lib.Dec.{ltb}
use lib.ListN.{length}
use Rattle.words.proofs.Cases.{by_lt, by_test}
use Rattle.family.specs.Family.{Family, top, Within, largest_item}
use Rattle.family.specs.Book.{at, Held, Book}
use Rattle.family.specs.File.{family_of}
use Rattle.family.proofs.Books.{at_held, at_within}
use Rattle.family.proofs.Parity.{within_parity}
use Rattle.file_load.specs.Promise.{file_number, found_family, load_refusal, load_family}
use Rattle.op_promise.specs.Promise.{number_of}
use Rattle.lists.specs.Calls.{Call, Operate, Parity, Size, Has, Weigh, Save, Load, Audit, Fact}
use Rattle.lists.specs.Acts.{count, Act, Gives, Saves, Places, act_of}
use Rattle.lists.proofs.Limits.{named_within, file_within}

-- a file that is not refused is the file of a family within the store's limit
pub load_within : (limit : ℕ) (file : List ℕ) (scratch : ℕ) → load_refusal limit file scratch ≡ 0 → Within limit (load_family file)
unfolding load_refusal load_family
load_within limit file scratch e =
    by_test (ltb scratch (6 * length file)) (λ s. absurd (omega (arith, rw s at e))) (λ s. by_file (family_of largest_item file) refl (rw s at e))
  where
    by_file : (o : Option Family) → family_of largest_item file ≡ o → file_number limit o ≡ 0 → Within limit (found_family o)
    by_file none f d = absurd (omega arith)
    by_file (some F) f d =
        by_lt limit (top F) (λ l t. absurd (omega (arith, rw t at d))) (λ l t. record { ordered = (file_within largest_item file F f).ordered; low = l })

-- a fact asks nothing of the book, a file is of a family held, and a family placed is within the limit unless refused
pub data Grounded (limit : ℕ) (B : List Family) : Act → Type 0 where
  fact_grounded : {n : ℕ} {fact : Fact} → Grounded limit B (Gives n fact)
  file_grounded : {n : ℕ} {F : Family} → Held B F → Grounded limit B (Saves n F)
  family_grounded : {n : ℕ} {F : Family} → (n ≡ 0 → Within limit F) → Grounded limit B (Places n F)

pub grounded : (limit : ℕ) (B : List Family) → Book limit B → (call : Call) → Grounded limit B (act_of limit B call)
grounded limit B book (Operate op p q) = family_grounded (λ e. named_within (number_of op) B book (count B) p q e)
grounded limit B book (Parity even p) = family_grounded (λ e. within_parity _ (at B p) (at_within B book p))
grounded limit B book (Size entry p scratch) = fact_grounded
grounded limit B book (Has p combination) = fact_grounded
grounded limit B book (Weigh way p weights scratch) = fact_grounded
grounded limit B book (Save p scratch output) = file_grounded (at_held B book p)
grounded limit B book (Load file scratch) = family_grounded (λ e. load_within limit file scratch e)
grounded limit B book Audit = fact_grounded

pub places_within : {limit : ℕ} {B : List Family} {n : ℕ} {F : Family} → Grounded limit B (Places n F) → n ≡ 0 → Within limit F
places_within (family_grounded w) = w
