-- Each way out of Has keeps the promise: what is refused, in its order, and what is answered.
-- The tests of the call decide the definition's own tests; on a sound store the words hold the book that the answer
-- is read in.
use Rattle.std.proofs.Common.{◌≡◌, ℕ, Bool, List, [], Result, Ok, Err, length, refl, ap, ◌∙◌, ne_eqb}
use Rattle.std.specs.Bool.{⊤}
use Rattle.family.specs.Family.{Family}
use Rattle.words.proofs.Cases.{clash}
use Rattle.store.specs.declared.record.Refusal.{Refusal}
use Rattle.store.specs.declared.record.Store.{Store}
use Rattle.store.specs.declared.record.Answered.{Answered}
use Rattle.store.specs.Words.{book_of}
use Rattle.store.specs.Sound.{Sound}
use Rattle.store.specs.Tests.{tests_of, Found}
use Rattle.store.specs.Refusals.{refusal_number}
use Rattle.store.proofs.Decoding.{sound_holds}
use Rattle.store.proofs.Calls.{sound_fits, refusal_some}
use Rattle.store.proofs.Tested.{count_is}
use Rattle.store.proofs.Testing.{Tested, tested_refuses}
use Rattle.query_has.specs.Promise.{has_given_by, has_answer, HasCall, has_refusal}
use Rattle.query_has.specs.Inner.{Memberly}

module _ (s : Store) (nodes lookup : List ℕ) (p : ℕ) where
  -- the book of a sound store, and its tests
  abbrev pub B : List Family
  B = book_of nodes s.count

  pub tests_are : Sound s nodes lookup [] → has_refusal B p ≡ tests_of s.count p 0 0 0 0
  unfolding has_refusal
  tests_are S = ap (λ k. tests_of k p 0 0 0 0) (count_is B (sound_holds S).size)

  module _ (c : List ℕ) where
    pub has_refused : {a : Result ⊤ Refusal} → Found s (length nodes) (length lookup) p 0 0 0 0 a → {x : Refusal} → a ≡ Err x
        → HasCall s nodes lookup p c (record { store = s; answer = Err x })
    unfolding has_answer
    has_refused F {x} e =
        tested_refuses nodes lookup F e
        (λ t d. record { misfit = λ q. ap Err d; answer_is = λ S. clash (sound_fits S) t; store_is = refl })
        (λ t d. record {
          misfit = λ q. clash t q;
          answer_is = λ S. rw (tests_are S, ← d, ne_eqb (refusal_number x) 0 (refusal_some x));
          store_is = refl;
        })

    pub has_answered : {x : Bool} → Tested s nodes lookup p 0 0 0 0 → Memberly nodes s.count p c x → HasCall s nodes lookup p c (record { store = s; answer = Ok x })
    unfolding has_answer
    has_answered P M =
        record { misfit = λ d. clash P.fits d; answer_is = λ S. rw (tests_are S, P.number_is, ← M.is B lookup (sound_holds S)); store_is = refl }

    pub has_call : {a : Result Bool Refusal} (r : Answered Bool) → HasCall s nodes lookup p c (record { store = s; answer = a }) → (r.store ≡ s) × (r.answer ≡ a) → HasCall s nodes lookup p c r
    has_call r C e =
        record { misfit = λ q. e.1 ∙ C.misfit q; answer_is = λ S. ap has_given_by e.1 ∙ C.answer_is S; store_is = e.0 }
