-- Each way out of Size keeps the promise: what is refused, in its order, and what is answered.
-- The tests of the call decide the definition's own tests; on a sound store the words hold the book that the answer
-- is read in.
use Prim.Native.Nat.{ℕ, ◌≤◌, min}
use mathlib.Core.Path.{◌≡◌, refl, sym, ap, ◌∙◌}
use mathlib.Core.Bool.{Bool, true, false}
use mathlib.Core.List.{List, []}
use native.Mathlib.Omega.{arith}
use lib.ListN.{length}
use borrow.Author.Tests.{ne_eqb, le-ltb, ltb-false}
use Rattle.family.specs.Family.{Family, size}
use Rattle.family.specs.Book.{at}
use Rattle.words.proofs.Cases.{clash}
use Rattle.store.specs.declared.record.Refusal.{Refusal}
use Rattle.store.specs.declared.record.Store.{Store}
use Rattle.store.specs.declared.record.Refusal.TheVariants.{Large}
use Rattle.store.specs.Words.{book_of, word_of}
use Rattle.store.specs.Sound.{Sound}
use Rattle.store.proofs.Decoding.{sound_holds}
use Rattle.store.proofs.Calls.{refusal_some, sound_fits}
use Rattle.store.specs.declared.record.Answered.{Answered}
use Rattle.std.specs.Bool.{⊤}
use Rattle.std.proofs.Common.{Result, Ok, Err}
use Rattle.words.specs.Words.{most}
use Rattle.query_size.specs.Promise.{by_node, size_given_by, size_tests, size_refusal, size_answer, size_scratch, SizeCall}
use Rattle.query_sizes.specs.Inner.{Filled, Exceeding}
use Rattle.query_sizes.proofs.Summing.{size_known, filled_is}
use Rattle.store.specs.Tests.{tests_of, Found}
use Rattle.store.proofs.Testing.{Tested, tested_refuses}
use Rattle.store.proofs.Tested.{count_is}
use Rattle.store.specs.Refusals.{refusal_number}

module _ (s : Store) (nodes lookup : List ℕ) (p : ℕ) where
  -- the book of a sound store
  abbrev B : List Family
  B = book_of nodes s.count

  module _ (scratch : List ℕ) (answer : Result ℕ Refusal) where
    -- what the call gives back, the record as it came
    abbrev r : Answered ℕ
    r = record { store = s; answer = answer }

    tests_are : Sound s nodes lookup [] → size_tests by_node B p (length scratch) ≡ tests_of s.count p 0 0 (length scratch) s.count
    unfolding size_tests
    tests_are S = ap (λ k. tests_of k p 0 0 (length scratch) k) (count_is B (sound_holds S).size)

    pub size_refused : {a : Result ⊤ Refusal} → Found s (length nodes) (length lookup) p 0 0 (length scratch) s.count a → {x : Refusal} → a ≡ Err x → answer ≡ Err x
        → SizeCall s nodes lookup p scratch r scratch
    unfolding size_answer size_refusal size_scratch
    size_refused F {x} e ea =
        tested_refuses nodes lookup F e
        (λ t d. record { misfit = λ q. (ea ∙ ap Err d, refl); answer_is = λ S. clash (sound_fits S) t; scratch_is = λ S. clash (sound_fits S) t; store_is = refl; long = refl })
        (λ t d. record {
          misfit = λ q. clash t q;
          answer_is = λ S. let n = ne_eqb (refusal_number x) 0 (refusal_some x) in ap size_given_by ea ∙ rw (tests_are S, ← d, n, n);
          scratch_is = λ S. rw (tests_are S, ← d, ne_eqb (refusal_number x) 0 (refusal_some x));
          store_is = refl;
          long = refl;
        })

    module _ (P : Tested s nodes lookup p 0 0 (length scratch) s.count) (scratch' : List ℕ) (F : Filled nodes s.count s.count scratch scratch') where
      tests_none : Sound s nodes lookup [] → size_tests by_node B p (length scratch) ≡ 0
      tests_none S = tests_are S ∙ P.number_is

      filled : Sound s nodes lookup [] → scratch' ≡ size_scratch B p scratch
      unfolding size_scratch
      filled S = rw (tests_none S) (filled_is (sound_holds S) P.passed.room F)

      word_is : Sound s nodes lookup [] → word_of scratch' p ≡ min (size (at B p)) most
      word_is S = size_known (sound_holds S) scratch' s.count (F.each B lookup (sound_holds S)) p (omega (arith, P.passed.first))

      -- the size is above the largest number
      pub size_large : (m : ℕ) → m ≡ word_of scratch' p → m ≡ most → {x : Bool} → Exceeding nodes scratch' s.count p x → x ≡ true → answer ≡ Err Large
          → SizeCall s nodes lookup p scratch r scratch'
      unfolding size_answer size_refusal
      size_large m em most-is X ex ea =
          record {
            misfit = λ d. clash P.fits d;
            answer_is = λ S. ap size_given_by ea
                ∙ rw (tests_none S, ← X.is B lookup (sound_holds S) (F.each B lookup (sound_holds S)) (omega (arith, word_is S)), ex);
            scratch_is = filled;
            store_is = refl;
            long = F.long;
          }

      -- it is not: the word has it
      size_told : (m : ℕ) → m ≡ word_of scratch' p → (Sound s nodes lookup [] → size (at B p) ≤ most) → answer ≡ Ok m → SizeCall s nodes lookup p scratch r scratch'
      unfolding size_answer size_refusal
      size_told m em few ea =
          record {
            misfit = λ d. clash P.fits d;
            answer_is = λ S.
                let is : m ≡ size (at B p) = em ∙ word_is S ∙ omega (arith, few S) in
                ap size_given_by ea ∙ rw (tests_none S, le-ltb most (size (at B p)) (few S), is);
            scratch_is = filled;
            store_is = refl;
            long = F.long;
          }

      pub size_brim : (m : ℕ) → m ≡ word_of scratch' p → m ≡ most → {x : Bool} → Exceeding nodes scratch' s.count p x → x ≡ false → answer ≡ Ok m
          → SizeCall s nodes lookup p scratch r scratch'
      size_brim m em most-is X ex ea =
          size_told m em
          (λ S. ltb-false most (size (at B p)) (sym (X.is B lookup (sound_holds S) (F.each B lookup (sound_holds S)) (omega (arith, word_is S))) ∙ ex)) ea

      pub size_below : (m : ℕ) → m ≡ word_of scratch' p → (m ≡ most → ⊥) → answer ≡ Ok m → SizeCall s nodes lookup p scratch r scratch'
      size_below m em n ea = size_told m em (λ S. omega (arith, word_is S)) ea
