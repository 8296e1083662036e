-- A call that places a family, as one step of a list: it answers as the book does, and leaves the words of the book
-- after it. By the three ways that its promise has: refused before it places, no room, and placed.
use Prim.Native.Nat.{ℕ, ◌-◌}
use mathlib.Core.Path.{◌≡◌, sym, ap, ◌∙◌}
use mathlib.Core.Bool.{true, false}
use mathlib.Core.List.{List, ◌++◌}
use lib.ListN.{length, take, drop}
use borrow.Author.Tests.{ne_eqb}
use Rattle.words.proofs.Cases.{by_test, by_eq}
use Rattle.family.specs.Family.{Family}
use Rattle.family.specs.Book.{number, place, Grown}
use Rattle.family.proofs.Books.{grown_self}
use Rattle.family.proofs.Placing.{place_grown, book_place}
use Rattle.store.specs.declared.record.Placement.{Placement}
use Rattle.store.specs.declared.record.Answered.{Answered}
use Rattle.store.specs.Refusals.{Given, refused_by, given_by}
use Rattle.store.specs.Words.{book_of, nodes_with}
use Rattle.store.specs.Placing.{cost_of, too_large, place_answer}
use Rattle.store.specs.Promise.{leaves, PlacedSound, PlaceCall}
use Rattle.store.proofs.Recovering.{book_of_words}
use Rattle.store.proofs.Ways.{way_refused, way_full, way_placed}
use Rattle.lists.specs.Calls.{Call}
use Rattle.lists.specs.Acts.{place_returns, Places, act_of, Effect, stays, grows}
use Rattle.lists.specs.Books.{Bounds, book_answer, book_effect}
use Rattle.lists.specs.Runs.{State, with_part}
use Rattle.lists.proofs.Acting.{grounded, places_within}
use Rattle.store.proofs.Sounds.{sound_with}
use Rattle.lists.proofs.Lending.{lent_true, joined_true}
use Rattle.lists.proofs.Invariant.{Inv, BookStep, book}

-- a call that takes the family F, or is refused before that by the number n
pub record TakesFamily (bounds : Bounds) (B : List Family) (call : Call) (n : ℕ) (F : Family) : Type 0 where
  pub act : act_of bounds.limit B call ≡ Places n F

-- what the book answers and does
pub record BookDoes (bounds : Bounds) (B : List Family) (call : Call) (given : Given) (effect : Effect) : Type 0 where
  pub answers : book_answer bounds B call ≡ place_returns given
  pub does : book_effect bounds B call ≡ effect

module _ {bounds : Bounds} {B : List Family} {call : Call} {n : ℕ} {F : Family} (K : TakesFamily bounds B call n F) where
  pub book_refused : (n ≡ 0 → ⊥) → BookDoes bounds B call (refused_by n) stays
  unfolding book_answer book_effect place_answer
  book_refused d = record { answers = rw (K.act, ne_eqb n 0 d); does = rw (K.act, ne_eqb n 0 d) }

  pub book_full : n ≡ 0 → too_large bounds.capacity B F ≡ true → BookDoes bounds B call (refused_by 5) stays
  unfolding book_answer book_effect place_answer
  book_full e t = record { answers = rw (K.act, e, t); does = rw (K.act, e, t) }

  pub book_placed : n ≡ 0 → too_large bounds.capacity B F ≡ false → BookDoes bounds B call (record { refusal = 0; handle = number (place B F) F; added = cost_of B F }) (grows F)
  unfolding book_answer book_effect place_answer
  book_placed e t = record { answers = rw (K.act, e, t); does = rw (K.act, e, t) }

  module _ {slots : ℕ} {x : State} (I : Inv bounds slots B x) (lent : ℕ) {r : Answered Placement} {nodes lookup part : List ℕ}
      (P : PlaceCall n F x.store x.nodes x.lookup (take lent x.cache) r nodes lookup part) where
    promised : PlacedSound n F x.store x.nodes x.lookup (take lent x.cache) r nodes lookup part
    promised = P.on_sound (sound_with (take lent x.cache) I.sound (lent_true x.cache lent I.sound.cached))

    -- the state after it, by the book that its words hold
    next_inv : (C : List Family) → Grown B C → book_of nodes r.store.count ≡ C → Inv bounds slots C (with_part x lent r.store nodes lookup part)
    next_inv C g e =
        record {
          sound = sound_with (part ++ drop lent x.cache) promised.sound
              (rw e (joined_true g x.cache part lent P.lengths.2 promised.rest (rw P.limit (rw I.book_is at I.sound.cached)) (rw e at promised.sound.cached)));
          book_is = e;
          capacity_is = P.capacity ∙ I.capacity_is;
          limit_is = P.limit ∙ I.limit_is;
          slots_are = P.lengths.1 ∙ I.slots_are;
        }

    left : (m : ℕ) → BookDoes bounds B call (refused_by m) stays
        → leaves r nodes lookup ≡ record { given = refused_by m; store = x.store; nodes = x.nodes; lookup = x.lookup }
        → BookStep bounds slots B call (place_returns (given_by r.answer)) (with_part x lent r.store nodes lookup part)
    left m D L =
        record {
          answer_is = ap (λ l. place_returns l.given) L ∙ sym D.answers;
          after = rw D.does (next_inv B (grown_self B) (ap (λ l. book_of l.nodes l.store.count) L ∙ I.book_is));
        }

    grown : n ≡ 0 → too_large bounds.capacity B F ≡ false
        → BookStep bounds slots B call (place_returns (given_by r.answer)) (with_part x lent r.store nodes lookup part)
    grown z f =
        let D = book_placed z f in
        let L = promised.leaves_is ∙ way_placed n F x.store x.nodes x.lookup z (rw (I.capacity_is, I.book_is) f) in
        let w = places_within (rw K.act at (grounded bounds.limit B (book I) call)) z in
        record {
          answer_is = ap (λ l. place_returns l.given) L ∙ ap (λ X. place_returns (record { refusal = 0; handle = number (place X F) F; added = cost_of X F })) I.book_is ∙ sym D.answers;
          after = rw D.does (next_inv (place B F) (place_grown B F)
              (ap (λ l. book_of l.nodes l.store.count) L
              ∙ ap (λ X. book_of (nodes_with x.store.capacity (place X F) x.nodes) (length (place X F) - 2)) I.book_is
              ∙ book_of_words (place B F) (book_place B F (book I) w).0 x.store.capacity x.nodes));
        }

    pub place_step : BookStep bounds slots B call (place_returns (given_by r.answer)) (with_part x lent r.store nodes lookup part)
    place_step =
        by_eq n 0
        (λ z t. by_test (too_large bounds.capacity B F)
        (λ f. left 5 (book_full z f) (promised.leaves_is ∙ way_full n F x.store x.nodes x.lookup z (rw (I.capacity_is, I.book_is) f)))
        (λ f. grown z f))
        (λ z t. left n (book_refused z) (promised.leaves_is ∙ way_refused n F x.store x.nodes x.lookup z))
