-- Each way out of the second entry keeps its promise: what is refused, in its order, and what is counted.
-- The tests of the call find only 10 and 4; on a sound store the need decides 7 as the definition does, and then 6.
use Prim.Native.Nat.{ℕ, ◌+◌, ◌*◌, ◌≤◌, ◌<◌}
use mathlib.Core.Path.{◌≡◌, refl, sym, ap, ◌∙◌}
use mathlib.Core.List.{List, []}
use native.Mathlib.Omega.{arith}
use lib.ListN.{length}
use Rattle.std.specs.Bool.{⊤}
use Rattle.std.proofs.Common.{Result, Err}
use borrow.Author.Tests.{ne_eqb}
use Rattle.words.specs.Words.{most}
use Rattle.words.proofs.Cases.{by_lt, clash}
use Rattle.family.specs.Family.{Family, size}
use Rattle.family.specs.Book.{at}
use Rattle.family.specs.Parts.{part_count}
use Rattle.store.specs.declared.record.Refusal.{Refusal}
use Rattle.store.specs.declared.record.Store.{Store}
use Rattle.store.specs.declared.record.Answered.{Answered}
use Rattle.store.specs.Refusals.{refusal_number}
use Rattle.store.specs.Words.{book_of}
use Rattle.store.specs.Sound.{Sound}
use Rattle.store.specs.Tests.{tests_of, Found}
use Rattle.store.proofs.Decoding.{sound_holds}
use Rattle.store.proofs.Calls.{refusal_some, sound_fits}
use Rattle.store.proofs.Tested.{count_is}
use Rattle.store.proofs.Testing.{Tested, tested_refuses, tests_first, tests_short, tests_clear}
use Rattle.query_size.specs.Promise.{by_part, size_given_by, size_tests, size_refusal, size_answer}
use Rattle.query_size_compact.specs.Promise.{CompactCall}
use Rattle.query_size_compact.specs.Inner.{counted_of, Counted}
use Rattle.query_size_compact.proofs.Counting.{told_short, told_large, told_size}

module _ (s : Store) (nodes lookup : List ℕ) (p : ℕ) (scratch : List ℕ) (r : Answered ℕ) (es : r.store ≡ s) where
  -- the book of a sound store
  abbrev B : List Family
  B = book_of nodes s.count

  tests_are : Sound s nodes lookup [] → size_tests by_part B p (length scratch) ≡ tests_of s.count p 0 0 (length scratch) (2 * part_count (at B p))
  unfolding size_tests
  tests_are S = ap (λ k. tests_of k p 0 0 (length scratch) (2 * part_count (at B p))) (count_is B (sound_holds S).size)

  -- the tests of the call refuse a handle that is not held, and nothing else
  above : (x : Refusal) → refusal_number x ≡ tests_of s.count p 0 0 0 0 → s.count + 1 < p
  above x d = by_lt (s.count + 1) p (λ l t. l) (λ l t. absurd (refusal_some x (d ∙ tests_clear s.count p 0 0 0 0 l (omega arith) refl (omega arith))))

  pub compact_refused : {a : Result ⊤ Refusal} → Found s (length nodes) (length lookup) p 0 0 0 0 a → {x : Refusal} → a ≡ Err x → r.answer ≡ Err x → CompactCall s nodes lookup p scratch r scratch
  unfolding size_answer size_refusal
  compact_refused F {x} e ea =
      tested_refuses nodes lookup F e
      (λ t d. record { misfit = λ q. (ea ∙ ap Err d, refl); answer_is = λ S. clash (sound_fits S) t; scratch_stays = λ q. refl; store_is = es; long = refl })
      (λ t d. record {
        misfit = λ q. clash t q;
        answer_is = λ S.
            let n = ne_eqb (refusal_number x) 0 (refusal_some x) in
            let l = above x d in
            let same : size_tests by_part B p (length scratch) ≡ refusal_number x = tests_are S ∙ tests_first s.count p 0 0 (length scratch) (2 * part_count (at B p)) l ∙ sym (d ∙ tests_first s.count p 0 0 0 0 l) in
            ap size_given_by ea ∙ rw (same, n, n);
        scratch_stays = λ q. refl;
        store_is = es;
        long = refl;
      })

  -- what is counted for a handle that is held is the answer
  counted_answer : Sound s nodes lookup [] → p ≤ s.count + 1 → counted_of (at B p) (length scratch) ≡ size_answer by_part B p (length scratch)
  unfolding size_answer size_refusal
  counted_answer S l =
      by_lt (length scratch) (2 * part_count (at B p))
      (λ m t. told_short (at B p) (length scratch) m ∙ rw (tests_are S, tests_short s.count p 0 0 (length scratch) (2 * part_count (at B p)) l (omega arith) refl m))
      (λ m t.
      let clear = tests_are S ∙ tests_clear s.count p 0 0 (length scratch) (2 * part_count (at B p)) l (omega arith) refl m in
      by_lt most (size (at B p)) (λ h d. told_large (at B p) (length scratch) m h ∙ rw (clear, d)) (λ h d. told_size (at B p) (length scratch) m h ∙ rw (clear, d)))

  pub compact_counted : Tested s nodes lookup p 0 0 0 0 → {scratch' : List ℕ} → Counted nodes s.count p scratch r.answer scratch' → CompactCall s nodes lookup p scratch r scratch'
  compact_counted P C =
      record {
        misfit = λ q. clash P.fits q;
        answer_is = λ S. C.is B lookup (sound_holds S) ∙ counted_answer S P.passed.first;
        scratch_stays = λ q. absurd (omega (arith, P.passed.first));
        store_is = es;
        long = C.long;
      }
