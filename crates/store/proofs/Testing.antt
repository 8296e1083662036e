-- The tests before a call: each branch of the definition under its own condition, and what the two answers of
-- `tested` say.
-- Where nothing refuses, every test passed; a refusal has the number of the tests, or is a certain 10.
use Prim.Native.Nat.{ℕ, ◌+◌, ◌≤◌, ◌<◌}
use mathlib.Core.Path.{◌≡◌, refl, sym, ap, ◌∙◌}
use mathlib.Core.Bool.{true, false}
use mathlib.Core.List.{List}
use native.Mathlib.Omega.{arith}
use lib.ListN.{length}
use borrow.Author.Tests.{eq-eqb, ne_eqb, lt-ltb, le-ltb, le-leb, lt-leb}
use Rattle.words.proofs.Cases.{by_test, by_lt, by_eq}
use Rattle.store.specs.declared.record.Store.{Store}
use Rattle.store.specs.declared.record.Refusal.{Refusal}
use Rattle.store.specs.declared.record.Refusal.TheVariants.{Damaged}
use Rattle.std.specs.Bool.{⊤}
use Rattle.std.proofs.Common.{Result, Ok, Err}
use Rattle.store.specs.Capacity.{fitting}
use Rattle.store.specs.Refusals.{refusal_number}
use Rattle.store.specs.Tests.{test_number, is_item, item_test, tests_of, Found}
use Rattle.store.specs.Inner.{fill_in, Roomy}
use Rattle.family.specs.Family.{Family}
use Rattle.store.specs.declared.record.Placement.{Placement}
use Rattle.store.specs.declared.record.Answered.{Answered}
use Rattle.store.specs.Promise.{PlaceCall}
use Rattle.store.proofs.Calls.{refusal_some, fits_roomy, call_misfit, call_refused}

-- the test of an item
pub item_low : (limit v : ℕ) → v < 1 → is_item limit v ≡ false
unfolding is_item
item_low limit v l = rw (le-ltb 0 v (omega arith))

pub item_high : (limit v : ℕ) → limit < v → is_item limit v ≡ false
unfolding is_item
item_high limit v l = rw (lt-ltb 0 v (omega arith), lt-leb v limit l)

pub item_taken : (limit v : ℕ) → 1 ≤ v → v ≤ limit → is_item limit v ≡ true
unfolding is_item
item_taken limit v l m = rw (lt-ltb 0 v l, le-leb v limit m)

pub no_item : (limit v : ℕ) → is_item limit v ≡ false → 3 ≡ item_test limit v
no_item limit v e = rw e

pub an_item : (limit v : ℕ) → is_item limit v ≡ true → 0 ≡ item_test limit v
an_item limit v e = rw e

pub item_passed : (limit v : ℕ) → item_test limit v ≡ 0 → (1 ≤ v) × (v ≤ limit)
item_passed limit v e =
    by_lt v 1 (λ l d. absurd (omega (arith, no_item limit v (item_low limit v l))))
    (λ l d. by_lt limit v (λ k b. absurd (omega (arith, no_item limit v (item_high limit v k)))) (λ k b. (l, k)))

pub item_not_five : (limit v : ℕ) {n : ℕ} → n ≡ item_test limit v → n ≡ 5 → ⊥
item_not_five limit v e d = by_test (is_item limit v) (λ t. omega (arith, an_item limit v t)) (λ t. omega (arith, no_item limit v t))

module _ (n p q own scratch need : ℕ) where
  pub tests_first : n + 1 < p → tests_of n p q own scratch need ≡ 4
  unfolding tests_of
  tests_first l = rw (lt-ltb (n + 1) p l)

  module _ (lp : p ≤ n + 1) where
    pub tests_second : n + 1 < q → tests_of n p q own scratch need ≡ 4
    unfolding tests_of
    tests_second l = rw (le-ltb (n + 1) p lp, lt-ltb (n + 1) q l)

    module _ (lq : q ≤ n + 1) where
      pub tests_own : (own ≡ 0 → ⊥) → tests_of n p q own scratch need ≡ own
      unfolding tests_of
      tests_own some = rw (le-ltb (n + 1) p lp, le-ltb (n + 1) q lq, ne_eqb own 0 some)

      module _ (none : own ≡ 0) where
        pub tests_short : scratch < need → tests_of n p q own scratch need ≡ 7
        unfolding tests_of
        tests_short l = rw (le-ltb (n + 1) p lp, le-ltb (n + 1) q lq, eq-eqb own 0 none, lt-ltb scratch need l)

        pub tests_clear : need ≤ scratch → tests_of n p q own scratch need ≡ 0
        unfolding tests_of
        tests_clear l = rw (le-ltb (n + 1) p lp, le-ltb (n + 1) q lq, eq-eqb own 0 none, le-ltb scratch need l)

-- the ways out of `tested`: 10 where the words do not fit the record, else the number of the tests
module _ (s : Store) (nodes lookup p q own scratch need : ℕ) where
  pub found_misfit : fitting s nodes lookup ≡ false → Found s nodes lookup p q own scratch need (Err Damaged)
  found_misfit e = record { number_is = rw e }

  pub found_number : (a : Result ⊤ Refusal) → fitting s nodes lookup ≡ true → tests_of s.count p q own scratch need ≡ test_number a → Found s nodes lookup p q own scratch need a
  found_number a e d = record { number_is = rw (e, d) }

pub refuses_some : {a : Result ⊤ Refusal} (x : Refusal) → a ≡ Err x → test_number a ≡ 0 → ⊥
refuses_some x e d = refusal_some x (sym (ap test_number e) ∙ d)

only_damaged : (x : Refusal) → refusal_number x ≡ 10 → x ≡ Damaged
only_damaged Refusal.Tiny e = absurd (omega arith)
only_damaged Refusal.ShortLookup e = absurd (omega arith)
only_damaged Refusal.Item e = absurd (omega arith)
only_damaged Refusal.Handle e = absurd (omega arith)
only_damaged Refusal.Full e = absurd (omega arith)
only_damaged Refusal.Large e = absurd (omega arith)
only_damaged Refusal.Scratch e = absurd (omega arith)
only_damaged Refusal.Output e = absurd (omega arith)
only_damaged Refusal.NoFile e = absurd (omega arith)
only_damaged Refusal.Damaged e = refl
only_damaged Refusal.Weights e = absurd (omega arith)
only_damaged Refusal.AboveLimit e = absurd (omega arith)

-- the tests that passed, where nothing refuses
pub record Passes (n p q own scratch need : ℕ) : Type 0 where
  pub first : p ≤ n + 1
  pub second : q ≤ n + 1
  pub none : own ≡ 0
  pub room : need ≤ scratch

pub passes : (n p q own scratch need : ℕ) → tests_of n p q own scratch need ≡ 0 → Passes n p q own scratch need
passes n p q own scratch need e =
    by_lt (n + 1) p (λ l d. absurd (omega (arith, tests_first n p q own scratch need l)))
    (λ lp d. by_lt (n + 1) q (λ l c. absurd (omega (arith, tests_second n p q own scratch need lp l)))
    (λ lq c. by_eq own 0
    (λ z b. by_lt scratch need (λ l a. absurd (omega (arith, tests_short n p q own scratch need lp lq z l))) (λ l a. record { first = lp; second = lq; none = z; room = l }))
    (λ z b. absurd (z (sym (tests_own n p q own scratch need lp lq z) ∙ e)))))

-- no test refuses with 5
pub tests_not_five : (n p q own scratch need : ℕ) → (own ≡ 5 → ⊥) → tests_of n p q own scratch need ≡ 5 → ⊥
tests_not_five n p q own scratch need five e =
    by_lt (n + 1) p (λ l d. omega (arith, tests_first n p q own scratch need l))
    (λ lp d. by_lt (n + 1) q (λ l c. omega (arith, tests_second n p q own scratch need lp l))
    (λ lq c. by_eq own 0
    (λ z b. by_lt scratch need (λ l a. omega (arith, tests_short n p q own scratch need lp lq z l)) (λ l a. omega (arith, tests_clear n p q own scratch need lp lq z l)))
    (λ z b. five (sym (tests_own n p q own scratch need lp lq z) ∙ e))))

-- what `tested` says of words where nothing refuses
pub record Tested (s : Store) (nodes lookup : List ℕ) (p q own scratch need : ℕ) : Type 0 where
  pub fits : fitting s (length nodes) (length lookup) ≡ true
  pub roomy : Roomy (fill_in s) nodes lookup
  pub number_is : tests_of s.count p q own scratch need ≡ 0
  pub passed : Passes s.count p q own scratch need

module _ (nodes lookup : List ℕ) {s : Store} {p q own scratch need : ℕ} {a : Result ⊤ Refusal} (T : Found s (length nodes) (length lookup) p q own scratch need a) where
  pub tested_clear : {u : ⊤} → a ≡ Ok u → Tested s nodes lookup p q own scratch need
  tested_clear e =
      by_test (fitting s (length nodes) (length lookup))
      (λ t. let z : tests_of s.count p q own scratch need ≡ 0 = sym (sym (ap test_number e) ∙ T.number_is ∙ rw t) in
      record { fits = t; roomy = fits_roomy s nodes lookup t; number_is = z; passed = passes s.count p q own scratch need z })
      (λ t. absurd (let z : 0 ≡ 10 = sym (ap test_number e) ∙ T.number_is ∙ rw t in omega arith))

  -- a refusal is a certain 10, or has the number of the tests
  pub tested_refuses {ℓ} : {A : Type ℓ} {x : Refusal} → a ≡ Err x → (fitting s (length nodes) (length lookup) ≡ false → x ≡ Damaged → A)
      → (fitting s (length nodes) (length lookup) ≡ true → refusal_number x ≡ tests_of s.count p q own scratch need → A) → A
  tested_refuses {x = x} e misfit refused =
      by_test (fitting s (length nodes) (length lookup))
      (λ t. refused t (sym (ap test_number e) ∙ T.number_is ∙ rw t))
      (λ t. misfit t (only_damaged x (sym (ap test_number e) ∙ T.number_is ∙ rw t)))

  -- a placing call that tests refuse, where their number is the promise's own
  pub placing_refused : {x : Refusal} → a ≡ Err x → (own ≡ 5 → ⊥) → {number : ℕ} → (refusal_number x ≡ tests_of s.count p q own scratch need → refusal_number x ≡ number)
      → (F : Family) (cache : List ℕ) (r : Answered Placement) → r.store ≡ s → r.answer ≡ Err x → PlaceCall number F s nodes lookup cache r nodes lookup cache
  placing_refused {x} e five {number} is F cache r es ea =
      tested_refuses e (λ t d. call_misfit s nodes lookup cache number F r t es (ea ∙ ap Err d))
      (λ t d. call_refused s nodes lookup cache number F r x t (is d) (λ z. tests_not_five s.count p q own scratch need five (sym d ∙ is d ∙ z)) es ea)
