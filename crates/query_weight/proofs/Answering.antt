-- Each way out of the two calls keeps the promise: what is refused, in its order, and the sum or 6.
-- The tests of the call decide the definition's own tests; on a sound store the kept sum is that of the book's family.
use Prim.Native.Nat.{ℕ, ◌*◌}
use mathlib.Core.Path.{◌≡◌, refl, ap, ◌∙◌}
use mathlib.Core.Bool.{cond}
use mathlib.Core.List.{List, []}
use lib.Dec.{eqb, ltb}
use lib.ListN.{length, drop}
use borrow.Author.Tests.{eq-eqb, ne_eqb, le-ltb, lt-ltb}
use Rattle.words.specs.Words.{most}
use Rattle.words.proofs.Cases.{by_lt, clash}
use Rattle.family.specs.Family.{Family}
use Rattle.family.specs.Book.{at}
use Rattle.store.specs.declared.record.Refusal.{Refusal}
use Rattle.store.specs.declared.record.Refusal.TheVariants.{Large}
use Rattle.store.specs.declared.record.Store.{Store}
use Rattle.store.specs.Refusals.{refusal_number}
use Rattle.store.specs.Words.{book_of}
use Rattle.store.specs.Sound.{Sound}
use Rattle.store.specs.Tests.{tests_of, Found}
use Rattle.store.specs.Inner.{Holds}
use Rattle.store.proofs.Decoding.{sound_holds}
use Rattle.store.proofs.Calls.{refusal_some, sound_fits}
use Rattle.store.proofs.Tested.{count_is}
use Rattle.store.proofs.Testing.{Tested, tested_refuses}
use Rattle.store.specs.declared.record.Answered.{Answered}
use Rattle.std.specs.Bool.{⊤}
use Rattle.std.specs.Option.{ok_or}
use Rattle.std.proofs.Common.{Result, Err, Option, None, Some}
use Rattle.query_weight.specs.Promise.{Way, sum_by, WeightGiven, weight_given_by, weights_test, weight_tests, weight_refusal, weight_answer, WeightCall}
use Rattle.query_sums.specs.Inner.{Keeps}

-- the test of a list of weights
pub list_refused : (n : ℕ) → (n ≡ 512 → ⊥) → 11 ≡ weights_test n
list_refused n e = rw (ne_eqb n 512 e)

pub list_taken : (n : ℕ) → n ≡ 512 → 0 ≡ weights_test n
list_taken n e = rw (eq-eqb n 512 e)

module _ (way : Way) (s : Store) (nodes lookup : List ℕ) (p : ℕ) (weights scratch : List ℕ) (answer : Result ℕ Refusal) where
  -- what the call gives back, the record as it came
  abbrev r : Answered ℕ
  r = record { store = s; answer = answer }

  -- the book of a sound store
  abbrev B : List Family
  B = book_of nodes s.count

  tests_are : Sound s nodes lookup [] → weight_tests B p (length weights) (length scratch) ≡ tests_of s.count p 0 (weights_test (length weights)) (length scratch) (3 * s.count)
  unfolding weight_tests
  tests_are S = ap (λ k. tests_of k p 0 (weights_test (length weights)) (length scratch) (3 * k)) (count_is B (sound_holds S).size)

  pub weigh_refused : {a : Result ⊤ Refusal} → Found s (length nodes) (length lookup) p 0 (weights_test (length weights)) (length scratch) (3 * s.count) a → {x : Refusal} → a ≡ Err x
      → answer ≡ Err x → WeightCall way s nodes lookup p weights scratch r scratch
  unfolding weight_answer weight_refusal
  weigh_refused F {x} e ea =
      tested_refuses nodes lookup F e
      (λ t d. record {
        misfit = λ q. (ea ∙ ap Err d, refl);
        answer_is = λ S. clash (sound_fits S) t;
        scratch_stays = λ S q. refl;
        scratch_rest = refl;
        store_is = refl;
        long = refl;
      })
      (λ t d. record {
        misfit = λ q. clash t q;
        answer_is = λ S. let n = ne_eqb (refusal_number x) 0 (refusal_some x) in ap weight_given_by ea ∙ rw (tests_are S, ← d, n, n);
        scratch_stays = λ S q. refl;
        scratch_rest = refl;
        store_is = refl;
        long = refl;
      })

  -- a sum was kept
  module _ (P : Tested s nodes lookup p 0 (weights_test (length weights)) (length scratch) (3 * s.count)) (scratch' : List ℕ) (long : length scratch' ≡ length scratch)
      (rest : drop (3 * s.count) scratch' ≡ drop (3 * s.count) scratch) (k : Option ℕ)
      (K : (limit : ℕ) → Holds limit B s.count nodes lookup → Keeps (sum_by way weights (at B p)) k) where
    tests_none : Sound s nodes lookup [] → weight_tests B p (length weights) (length scratch) ≡ 0
    tests_none S = tests_are S ∙ P.number_is

    given_is : Sound s nodes lookup [] → weight_given_by (ok_or k Large) ≡ weight_answer way B p weights (length scratch)
    unfolding weight_answer weight_refusal
    given_is S = rw (tests_none S) (told k (K _ (sound_holds S)))
      where
        told : {x : ℕ} (k : Option ℕ) → Keeps x k → ◌≡◌ {A = WeightGiven} (weight_given_by (ok_or k Large))
            (record { refusal = cond (ltb most x) 6 0; sum = cond (eqb (cond (ltb most x) 6 0) 0) x 0 })
        told {x} None L = rw (lt-ltb most x (by_lt most x (λ l d. l) (λ l d. absurd (L.is l))))
        told {x} (Some y) L = rw (le-ltb most x L.is.0, L.is.1)

    pub weigh_answered : answer ≡ ok_or k Large → WeightCall way s nodes lookup p weights scratch r scratch'
    weigh_answered ea =
        record {
          misfit = λ q. clash P.fits q;
          answer_is = λ S. ap weight_given_by ea ∙ given_is S;
          scratch_stays = λ S q. absurd (q (tests_none S));
          scratch_rest = rest;
          store_is = refl;
          long = long;
        }
