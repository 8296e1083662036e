-- What the promises' definitions give, by the number that refuses a call: each number is a refusal's, and what Size
-- and Save write is as long as what they were lent. Each case of the tests is one line.
use Prim.Native.Nat.{ℕ, ◌+◌, ◌*◌, ◌-◌, ◌≤◌, min}
use mathlib.Core.Path.{◌≡◌, refl, ◌∙◌}
use mathlib.Core.Bool.{Bool, true, false, cond}
use mathlib.Core.List.{List}
use mathlib.Core.Option.{Option, none, some}
use native.Mathlib.Omega.{arith}
use lib.Dec.{eqb, ltb}
use lib.ListN.{length, drop, length-append, length-drop, length-map}
use borrow.Author.Tests.{ne_eqb}
use Rattle.words.proofs.Cases.{by_test, by_lt, by_eq}
use Rattle.family.specs.Family.{Family, size, top, largest_item}
use Rattle.family.specs.Book.{at}
use Rattle.family.specs.File.{file_of, family_of}
use Rattle.store.specs.declared.record.Refusal.{Refusal}
use Rattle.store.specs.declared.record.Refusal.TheVariants.{Item, Handle as NoHandle, Large, Scratch, Output, NoFile, Weights, AboveLimit}
use Rattle.store.specs.Refusals.{refusal_number}
use Rattle.store.specs.Scratch.{scratch_tests}
use Rattle.store.proofs.Calls.{refusal_some}
use Rattle.store.specs.Tests.{is_item, tests_of}
use Rattle.store.proofs.Testing.{passes}
use Rattle.query_has.specs.Promise.{has_refusal}
use Rattle.op_promise.specs.Promise.{operation_refusal}
use Rattle.op_parity.specs.Promise.{parity_refusal}
use Rattle.words.specs.Words.{most}
use Rattle.query_sizes.specs.NodeSizes.{sizes_of}
use Rattle.query_size.specs.Promise.{SizeEntry, by_node, need_of, size_tests, size_refusal, size_scratch}
use Rattle.query_weight.specs.Promise.{Way, sum_by, weight_tests, weight_refusal}
use Rattle.file_save.specs.Promise.{save_refusal, save_output}
use Rattle.file_load.specs.Promise.{file_number, load_refusal}

-- a number that refuses a call before it places: that of a refusal other than 5, or 0 where there is none
pub data Refusing : ℕ → Type 0 where
  nothing : Refusing 0
  refuses : (x : Refusal) → (refusal_number x ≡ 5 → ⊥) → Refusing (refusal_number x)

-- a call's own test
own_refusing : (b : Bool) (x : Refusal) → (refusal_number x ≡ 5 → ⊥) → Refusing (cond b 0 (refusal_number x))
own_refusing true x five = nothing
own_refusing false x five = refuses x five

-- the tests of a call, where its own finds a refusal other than 5 or none
tests_refusing : (n p q : ℕ) {own : ℕ} (scratch need : ℕ) → Refusing own → Refusing (tests_of n p q own scratch need)
unfolding tests_of
tests_refusing n p q scratch need own =
    by_test (ltb (n + 1) p) (λ a. rw a (refuses NoHandle (λ e. omega arith)))
    (λ a. rw a (by_test (ltb (n + 1) q) (λ b. rw b (refuses NoHandle (λ e. omega arith))) (λ b. rw b (by_own own))))
  where
    by_own : {own : ℕ} → Refusing own → Refusing (cond (eqb own 0) (cond (ltb scratch need) 7 0) own)
    by_own nothing = by_test (ltb scratch need) (λ s. rw s (refuses Scratch (λ e. omega arith))) (λ s. rw s nothing)
    by_own (refuses x five) = rw (ne_eqb (refusal_number x) 0 (refusal_some x)) (refuses x five)

pub operation_refusing : (op limit n p q : ℕ) → Refusing (operation_refusal op limit n p q)
unfolding operation_refusal
operation_refusing op limit n p q =
    by_test (ltb op 4)
    (λ t. rw t (tests_refusing n p 0 0 0 (own_refusing (is_item limit q) Item (λ e. omega arith))))
    (λ t. rw t (tests_refusing n p q 0 0 nothing))

pub parity_refusing : (n p : ℕ) → Refusing (parity_refusal n p)
parity_refusing n p = tests_refusing n p 0 0 0 nothing

pub load_refusing : (limit : ℕ) (file : List ℕ) (words : ℕ) → Refusing (load_refusal limit file words)
unfolding load_refusal
load_refusing limit file words =
    by_test (ltb words (6 * length file)) (λ s. rw s (refuses Scratch (λ e. omega arith))) (λ s. rw s (by_file (family_of largest_item file)))
  where
    by_file : (o : Option Family) → Refusing (file_number limit o)
    by_file none = refuses NoFile (λ e. omega arith)
    by_file (some F) = by_test (ltb limit (top F)) (λ t. rw t (refuses AboveLimit (λ e. omega arith))) (λ t. rw t nothing)

pub has_refusing : (B : List Family) (p : ℕ) → Refusing (has_refusal B p)
unfolding has_refusal
has_refusing B p = tests_refusing (length B - 2) p 0 0 0 nothing

-- a number of these is 0 or a refusal's, which is not 0
pub by_refusing {ℓ} : {A : Type ℓ} {n : ℕ} → Refusing n → (n ≡ 0 → A) → ((x : Refusal) → n ≡ refusal_number x → eqb (refusal_number x) 0 ≡ false → A) → A
by_refusing nothing f g = f refl
by_refusing (refuses x five) f g = g x refl (ne_eqb (refusal_number x) 0 (refusal_some x))

-- the tests of the scratch, and then one more
then_refusing : {n : ℕ} (b : Bool) (x : Refusal) → (refusal_number x ≡ 5 → ⊥) → Refusing n → Refusing (cond (eqb n 0) (cond b (refusal_number x) 0) n)
then_refusing b x five nothing = by_test b (λ t. rw t (refuses x five)) (λ t. rw t nothing)
then_refusing b x five (refuses y n) = rw (ne_eqb (refusal_number y) 0 (refusal_some y)) (refuses y n)

pub size_refusing : (entry : SizeEntry) (B : List Family) (p words : ℕ) → Refusing (size_refusal entry B p words)
unfolding size_refusal size_tests
size_refusing entry B p words =
    then_refusing (ltb most (size (at B p))) Large (λ e. omega arith) (tests_refusing (length B - 2) p 0 words (need_of entry B p) nothing)

weights_refusing : (B : List Family) (p long words : ℕ) → Refusing (weight_tests B p long words)
unfolding weight_tests
weights_refusing B p long words =
    tests_refusing (length B - 2) p 0 words (3 * (length B - 2)) (own_refusing (eqb long largest_item) Weights (λ e. omega arith))

pub weight_refusing : (way : Way) (B : List Family) (p : ℕ) (weights : List ℕ) (words : ℕ) → Refusing (weight_refusal way B p weights words)
unfolding weight_refusal
weight_refusing way B p weights words = then_refusing (ltb most (sum_by way weights (at B p))) Large (λ e. omega arith) (weights_refusing B p (length weights) words)

pub save_refusing : (B : List Family) (p words room : ℕ) → Refusing (save_refusal B p words room)
unfolding save_refusal scratch_tests
save_refusing B p words room =
    then_refusing (ltb room (length (file_of (at B p)))) Output (λ e. omega arith) (tests_refusing (length B - 2) p 0 words (length B - 2) nothing)

-- scratch that no test refuses is as long as the entry needs
size_room : (entry : SizeEntry) (B : List Family) (p words : ℕ) → size_tests entry B p words ≡ 0 → need_of entry B p ≤ words
unfolding size_tests
size_room entry B p words e = (passes (length B - 2) p 0 0 words (need_of entry B p) e).room

pub size_long : (B : List Family) (p : ℕ) (scratch : List ℕ) → length (size_scratch B p scratch) ≡ length scratch
unfolding size_scratch sizes_of
size_long B p scratch =
    by_eq (size_tests by_node B p (length scratch)) 0
    (λ z e. rw e (length-append (sizes_of B) (drop (length B - 2) scratch)
    ∙ omega (arith, size_room by_node B p (length scratch) z, length-map (drop 2 B) (λ F. min (size F) most), length-drop 2 B, length-drop (length B - 2) scratch)))
    (λ z e. rw e)

-- an output that Save does not refuse has room for the file
save_room : (B : List Family) (p words room : ℕ) → save_refusal B p words room ≡ 0 → length (file_of (at B p)) ≤ room
unfolding save_refusal
save_room B p words room d =
    by_eq (scratch_tests B p words) 0
    (λ z e. by_lt room (length (file_of (at B p))) (λ l t. absurd (omega (arith, rw (e, t) at d))) (λ l t. l))
    (λ z e. absurd (z (rw e at d)))

pub save_long : (B : List Family) (p words : ℕ) (out : List ℕ) → length (save_output B p words out) ≡ length out
unfolding save_output
save_long B p words out =
    let file = file_of (at B p) in
    by_eq (save_refusal B p words (length out)) 0
    (λ z e. rw e (length-append file (drop (length file) out) ∙ omega (arith, save_room B p words (length out) z, length-drop (length file) out)))
    (λ z e. rw e)
