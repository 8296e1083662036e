-- The promise of a public call that places a family: what it leaves, on every store.
use Rattle.std.specs.Prelude.{ℕ, ◌+◌, ◌-◌, ◌*◌, ◌/◌, ◌≡◌, false, cond, List, eqb, length, drop, Err}
use Rattle.family.specs.Family.{Family}
use Rattle.words.specs.Words.{zeroed}
use Rattle.store.specs.declared.record.Store.{Store}
use Rattle.store.specs.declared.record.Refusal.TheVariants.{Damaged}
use Rattle.store.specs.declared.record.Placement.{Placement}
use Rattle.store.specs.declared.record.Answered.{Answered}
use Rattle.store.specs.Capacity.{fitting, counting}
use Rattle.store.specs.Refusals.{Given, given_by}
use Rattle.store.specs.Words.{book_of, nodes_with, lookup_of}
use Rattle.store.specs.Sound.{Sound}
use Rattle.store.specs.Placing.{place_answer, place_book}

-- all that a call leaves but the cache words: answer, record, node words, lookup words
pub record Left : Type 0 where
  pub given : Given
  pub store : Store
  pub nodes : List ℕ
  pub lookup : List ℕ

abbrev pub leaves : Answered Placement → List ℕ → List ℕ → Left
leaves r nodes lookup = record { given = given_by r.answer; store = r.store; nodes = nodes; lookup = lookup }

-- what a placing call leaves on a sound store: the answer by the book that the words hold; where refused every word
-- and the record stay, else they are those of the book after the call
unfoldable pub placing : ℕ → Family → Store → List ℕ → List ℕ → Left
placing refusal F s nodes lookup =
    let B = book_of nodes s.count in
    let a = place_answer s.capacity B refusal F in
    let C = place_book s.capacity B refusal F in
    cond (eqb a.refusal 0)
    (record {
      given = a;
      store = counting s (length C - 2);
      nodes = nodes_with s.capacity C nodes;
      lookup = lookup_of (length lookup) C;
    })
    (record { given = a; store = s; nodes = nodes; lookup = lookup })

-- "After 5, .. the whole cache groups are 0"; after another refusal the cache stays
unfoldable pub cache_refused : ℕ → List ℕ → List ℕ
cache_refused refusal cache = cond (eqb refusal 5) (zeroed 0 (length cache / 4 * 4) cache) cache

-- What a placing call promises of a sound store. "Which groups are filled after a success is free": of the cache it
-- says that the store is sound with it, and that words past the whole groups stay.
pub record PlacedSound (refusal : ℕ) (F : Family) (s : Store) (nodes lookup cache : List ℕ) (r : Answered Placement) (nodes' lookup' cache' : List ℕ) : Type 0 where
  pub leaves_is : leaves r nodes' lookup' ≡ placing refusal F s nodes lookup
  pub refused_cache : (n : ℕ) → (given_by r.answer).refusal ≡ n → (n ≡ 0 → ⊥) → cache' ≡ cache_refused n cache
  pub sound : Sound r.store nodes' lookup' cache'
  pub rest : drop (length cache / 4 * 4) cache' ≡ drop (length cache / 4 * 4) cache

-- The promise. `refusal` and `F` say, for the book that the words hold, which number refuses the call before it
-- places, and the family that it takes.
pub record PlaceCall (refusal : ℕ) (F : Family) (s : Store) (nodes lookup cache : List ℕ) (r : Answered Placement) (nodes' lookup' cache' : List ℕ) : Type 0 where
  -- a certain 10: every word and the record stay
  pub misfit : fitting s (length nodes) (length lookup) ≡ false
      → (r ≡ record { store = s; answer = Err Damaged }) × (nodes' ≡ nodes) × (lookup' ≡ lookup) × (cache' ≡ cache)
  pub on_sound : Sound s nodes lookup cache → PlacedSound refusal F s nodes lookup cache r nodes' lookup' cache'
  -- on any store: lengths, capacity and limit stay, and a refusal hands the record back as it came
  pub lengths : (length nodes' ≡ length nodes) × (length lookup' ≡ length lookup) × (length cache' ≡ length cache)
  pub capacity : r.store.capacity ≡ s.capacity
  pub limit : r.store.limit ≡ s.limit
  pub refused : ((given_by r.answer).refusal ≡ 0 → ⊥) → r.store ≡ s
  -- and the count grows by the number added, which a refusal gives as 0
  pub counted : r.store.count ≡ s.count + (given_by r.answer).added
