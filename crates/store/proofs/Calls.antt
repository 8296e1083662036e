-- A call that places keeps its promise where it is refused before it places: it leaves all as it came.
-- The tests decide the promise's own number, and words that do not fit the record are no sound store's.
use Prim.Native.Nat.{ℕ, ◌+◌, ◌-◌, ◌≤◌, ◌<◌}
use mathlib.Core.Path.{◌≡◌, refl, sym, ap, ◌∙◌}
use mathlib.Core.Bool.{true, false}
use mathlib.Core.List.{List}
use native.Mathlib.Omega.{arith}
use lib.ListN.{length}
use borrow.Author.Tests.{ne_eqb, lt-ltb, le-ltb}
use Rattle.family.specs.Family.{Family}
use Rattle.family.specs.Book.{place}
use Rattle.family.proofs.Different.{place_length}
use Rattle.words.proofs.Cases.{clash}
use Rattle.store.specs.declared.record.Store.{Store}
use Rattle.store.specs.declared.record.Refusal.{Refusal}
use Rattle.store.specs.declared.record.Refusal.TheVariants.{Damaged}
use Rattle.std.proofs.Common.{Result, Err}
use Rattle.store.specs.declared.record.Placement.{Placement}
use Rattle.store.specs.declared.record.Answered.{Answered}
use Rattle.store.specs.Capacity.{fitting}
use Rattle.store.specs.Refusals.{refusal_number, Given, given_by}
use Rattle.store.specs.Words.{top_at}
use Rattle.store.specs.Sound.{Sound}
use Rattle.store.specs.Placing.{cost_of, too_large, place_answer}
use Rattle.store.specs.Promise.{Left, placing, cache_refused, PlaceCall}
use Rattle.store.specs.Inner.{fill_in, Roomy}
use Rattle.store.proofs.Fitting.{fits_true, true_fits}
use Rattle.store.proofs.Held.{top_at_lem, within}
use Rattle.store.proofs.Decoding.{sound_holds}

pub placed_is : {r : Answered Placement} {s : Store} {a : Result Placement Refusal} → r.store ≡ s → r.answer ≡ a → r ≡ record { store = s; answer = a }
placed_is p q = λ i. record { store = p i; answer = q i }

pub left_is : {g g' : Given} {s s' : Store} {n n' l l' : List ℕ} → g ≡ g' → s ≡ s' → n ≡ n' → l ≡ l'
    → ◌≡◌ {A = Left} (record { given = g; store = s; nodes = n; lookup = l }) (record { given = g'; store = s'; nodes = n'; lookup = l' })
left_is a b c d = λ i. record { given = a i; store = b i; nodes = c i; lookup = d i }

pub refusal_some : (x : Refusal) → refusal_number x ≡ 0 → ⊥
refusal_some x e = go x e
  where
    go : (x : Refusal) → refusal_number x ≡ 0 → ⊥
    go Refusal.Tiny e = omega arith
    go Refusal.ShortLookup e = omega arith
    go Refusal.Item e = omega arith
    go Refusal.Handle e = omega arith
    go Refusal.Full e = omega arith
    go Refusal.Large e = omega arith
    go Refusal.Scratch e = omega arith
    go Refusal.Output e = omega arith
    go Refusal.NoFile e = omega arith
    go Refusal.Damaged e = omega arith
    go Refusal.Weights e = omega arith
    go Refusal.AboveLimit e = omega arith

pub sound_fits : {s : Store} {nodes lookup cache : List ℕ} → Sound s nodes lookup cache → fitting s (length nodes) (length lookup) ≡ true
sound_fits {s} {nodes} {lookup} S = true_fits s (length nodes) (length lookup) (record { limit_is = (S.limit_some, S.limit_low); is = S.capacity_is; longer = S.longer; within = S.within })

pub fits_roomy : (s : Store) (nodes lookup : List ℕ) → fitting s (length nodes) (length lookup) ≡ true → Roomy (fill_in s) nodes lookup
fits_roomy s nodes lookup e =
    let f = fits_true s (length nodes) (length lookup) e in
    record { within = f.within; words = omega (arith, f.is); small = omega (arith, f.is); longer = f.longer }

-- what placing costs is what the book grows by
pub cost_length : (B : List Family) (F : Family) → length (place B F) ≡ length B + cost_of B F
unfolding cost_of
cost_length B F = place_length B F

-- the room for the parts not held is what the placed book's length says
module _ (capacity : ℕ) (B : List Family) (F : Family) (n : ℕ) (size : length B ≡ n + 2) (within : n ≤ capacity) where
  pub large : capacity + 2 < length (place B F) → too_large capacity B F ≡ true
  unfolding too_large
  large l = lt-ltb (capacity - (length B - 2)) (cost_of B F) (omega (arith, cost_length B F))

  pub not_large : length (place B F) ≤ capacity + 2 → too_large capacity B F ≡ false
  unfolding too_large
  not_large l = le-ltb (capacity - (length B - 2)) (cost_of B F) (omega (arith, cost_length B F))

-- a refusal counts no node
refused_counted : {s : Store} (r : Answered Placement) (x : Refusal) → r.store ≡ s → r.answer ≡ Err x → r.store.count ≡ s.count + (given_by r.answer).added
refused_counted r x es ea = omega (arith, ap (λ s. s.count) es, ap (λ a. (given_by a).added) ea)

module _ (s : Store) (nodes lookup cache : List ℕ) where
  pub call_misfit : (refusal : ℕ) (F : Family) (r : Answered Placement) → fitting s (length nodes) (length lookup) ≡ false → r.store ≡ s → r.answer ≡ Err Damaged
      → PlaceCall refusal F s nodes lookup cache r nodes lookup cache
  call_misfit refusal F r e es ea =
      record {
        misfit = λ d. (placed_is es ea, refl, refl, refl);
        on_sound = λ S. clash (sound_fits S) e;
        lengths = (refl, refl, refl);
        capacity = ap (λ x. x.capacity) es;
        limit = ap (λ x. x.limit) es;
        refused = λ d. es;
        counted = refused_counted r Damaged es ea;
      }

  -- refused as damaged where the store is not sound, all words as they came
  pub call_unsound : (refusal : ℕ) (F : Family) (r : Answered Placement) → fitting s (length nodes) (length lookup) ≡ true → (Sound s nodes lookup cache → ⊥) → (x : Refusal) → r.store ≡ s → r.answer ≡ Err x
      → PlaceCall refusal F s nodes lookup cache r nodes lookup cache
  call_unsound refusal F r e f x es ea =
      record {
        misfit = λ d. clash e d;
        on_sound = λ S. absurd (f S);
        lengths = (refl, refl, refl);
        capacity = ap (λ x. x.capacity) es;
        limit = ap (λ x. x.limit) es;
        refused = λ d. es;
        counted = refused_counted r x es ea;
      }

  -- a top above the limit is in no sound store
  pub call_high : (refusal : ℕ) (F : Family) (r : Answered Placement) → fitting s (length nodes) (length lookup) ≡ true → (p : ℕ) → p ≤ s.count + 1 → s.limit < top_at nodes p → (x : Refusal) → r.store ≡ s → r.answer ≡ Err x
      → PlaceCall refusal F s nodes lookup cache r nodes lookup cache
  call_high refusal F r e p held high x es ea =
      call_unsound refusal F r e (λ S. let H = sound_holds S in omega (arith, top_at_lem H p (omega arith), (within H p (omega arith)).low)) x es ea

  -- refused before anything is placed
  pub call_refused : (n : ℕ) (F : Family) (r : Answered Placement) (x : Refusal) → fitting s (length nodes) (length lookup) ≡ true → refusal_number x ≡ n → (n ≡ 5 → ⊥)
      → r.store ≡ s → r.answer ≡ Err x → PlaceCall n F s nodes lookup cache r nodes lookup cache
  unfolding placing place_answer cache_refused
  call_refused n F r x e en five es ea =
      let some : n ≡ 0 → ⊥ = λ d. refusal_some x (en ∙ d) in
      let number : (given_by r.answer).refusal ≡ n = ap (λ a. (given_by a).refusal) ea ∙ en in
      record {
        misfit = λ d. clash e d;
        on_sound = λ S. record {
          leaves_is = rw (ne_eqb n 0 some, ne_eqb n 0 some) (left_is (ap given_by ea ∙ rw en) es refl refl);
          refused_cache = λ m em dm. let em' : m ≡ n = sym em ∙ number in rw (em', ne_eqb n 5 five);
          sound = rw es S;
          rest = refl;
        };
        lengths = (refl, refl, refl);
        capacity = ap (λ x. x.capacity) es;
        limit = ap (λ x. x.limit) es;
        refused = λ d. es;
        counted = refused_counted r x es ea;
      }
