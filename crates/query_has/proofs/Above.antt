-- Has says no to a combination with an item above the store's limit: document 02, No. 6.
-- No item of a member is above the top of its family, and no top of a sound store is above the store's limit.
use Prim.Native.Nat.{ℕ, ◌<◌}
use mathlib.Core.Path.{◌≡◌, sym, ◌∙◌}
use mathlib.Core.Bool.{Bool, true, false}
use mathlib.Core.List.{List, []}
use native.Mathlib.Omega.{arith}
use Rattle.family.specs.Family.{Family, Within, has}
use Rattle.family.specs.Combination.{holds}
use Rattle.family.specs.Book.{at}
use Rattle.family.proofs.Canonical.{member_falls}
use Rattle.family.proofs.Falling.{holds_high}
use Rattle.words.proofs.Cases.{by_test, by_eq, clash}
use Rattle.store.specs.declared.record.Store.{Store}
use Rattle.store.specs.Words.{book_of}
use Rattle.store.specs.Sound.{Sound}
use Rattle.store.proofs.Decoding.{sound_holds}
use Rattle.store.proofs.Held.{within}
use Rattle.store.proofs.Testing.{passes}
use Rattle.store.specs.declared.record.Answered.{Answered}
use Rattle.query_has.specs.Promise.{has_given_by, has_refusal, has_answer, HasCall}
use Rattle.query_has.proofs.Asking.{tests_are}

-- a family of items up to a limit has no member with an item above it
pub above_no : {limit : ℕ} (F : Family) (c : List ℕ) (v : ℕ) → Within limit F → holds v c ≡ true → limit < v → has F c ≡ false
above_no F c v w e l =
    by_test (has F c)
    (λ h. let m = member_falls F c w.ordered h in clash e (holds_high v c m.0 (omega (arith, m.1, w.low))))
    (λ h. h)

-- The answer of a call that keeps Has's promise, for a combination with such an item: it is never yes, and where no
-- test refuses the call it is no.
pub has_above : (s : Store) (nodes lookup : List ℕ) (p : ℕ) (c : List ℕ) (r : Answered Bool) (v : ℕ) → HasCall s nodes lookup p c r → Sound s nodes lookup [] → holds v c ≡ true → s.limit < v
    → has_given_by r.answer ≡ record { refusal = has_refusal (book_of nodes s.count) p; member = false }
unfolding has_answer
has_above s nodes lookup p c r v C S e l =
    by_eq (has_refusal (book_of nodes s.count) p) 0
    (λ z d. C.answer_is S ∙ rw (d, above_no (at (book_of nodes s.count) p) c v (within (sound_holds S) p (omega (arith, (passes s.count p 0 0 0 0 (sym (tests_are s nodes lookup p S) ∙ z)).first))) e l))
    (λ z d. C.answer_is S ∙ rw d)
