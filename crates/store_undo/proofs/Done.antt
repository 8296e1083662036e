-- A call that came through to `finish` keeps its promise: it leaves the words of the book with the family placed, or,
-- where that has no room, everything as before and an empty cache.
-- What ran holds the placed book exactly when that fits the capacity, and the words of a book are one only.
use Prim.Native.Nat.{ℕ, ◌+◌, ◌*◌, ◌-◌, ◌/◌, ◌≤◌, ◌<◌}
use mathlib.Core.Path.{◌≡◌, refl, sym, ap, ◌∙◌}
use mathlib.Core.Bool.{true, false}
use mathlib.Core.List.{List}
use native.Mathlib.Omega.{arith}
use lib.ListN.{length, get_or, drop}
use lib.Seq.{ext_get_or}
use Rattle.family.specs.Family.{Family}
use Rattle.family.specs.Book.{number, place}
use Rattle.words.specs.Words.{zeroed}
use Rattle.words.proofs.Cases.{by_lt, clash}
use Rattle.words.proofs.Zeroed.{rest_drop, zeroed_length, zeroed_inside, zeroed_after, zeroed_drop}
use Rattle.table.proofs.OwnSlots.{cleared_length}
use Rattle.store.specs.declared.record.Store.{Store}
use Rattle.store.specs.declared.record.Unplaced.{Unplaced}
use Rattle.store.specs.declared.record.Unplaced.TheVariants.{Full}
use Rattle.store.specs.declared.record.Placement.{Placement}
use Rattle.store.specs.declared.record.Answered.{Answered}
use Rattle.std.proofs.Common.{Result, Ok, Err}
use Rattle.store.specs.Capacity.{capacity_of, counting, fitting}
use Rattle.store.specs.Refusals.{refusal_number, refused_by, given_by}
use Rattle.store.specs.Words.{book_of, lookup_of}
use Rattle.store.specs.Sound.{Sound}
use Rattle.store.specs.Placing.{cost_of, too_large, place_answer, place_book}
use Rattle.store.specs.Promise.{leaves, placing, cache_refused, PlaceCall}
use Rattle.store_undo.specs.Inner.{RolledBack, Finished}
use Rattle.store.specs.declared.record.Fill.{Fill}
use Rattle.store.specs.Inner.{fill_in, reached, refusal_of, Roomy, Holds, Handed, Outcome, gave, full, Kept, Ran}
use Rattle.store.proofs.Held.{handle_of}
use Rattle.store.proofs.Decoding.{sound_holds}
use Rattle.store.proofs.Encoding.{looked_up, laid_out}
use Rattle.store.proofs.Sounds.{holds_sound, zeroed_true, sound_with}
use Rattle.store.proofs.Answers.{handed_of, by_answer}
use Rattle.store_undo.proofs.Undoing.{undone_nodes, undone_lookup}
use Rattle.store.proofs.Calls.{placed_is, fits_roomy, cost_length, not_large, left_is, large}

module _ (s : Store) (nodes lookup cache : List ℕ) where
  module _ (F : List Family → Family) (e : fitting s (length nodes) (length lookup) ≡ true) {least : ℕ} (low : least ≤ s.limit) {fill : Fill} {answer : Result ℕ Unplaced} {nodes₁ lookup₁ cache₁ : List ℕ}
      (R : Ran least F (fill_in s) nodes lookup cache (reached fill answer) nodes₁ lookup₁ cache₁) {r : Answered Placement} {nodes₂ lookup₂ cache₂ : List ℕ} (E : Finished s fill.count answer nodes₁ lookup₁ cache₁ r nodes₂ lookup₂ cache₂) where
    K : Kept (fill_in s) nodes lookup (fill_in (counting s fill.count)) nodes₁ lookup₁
    K =
        record {
          same_capacity = refl;
          grows = R.kept.grows;
          fits = R.kept.fits;
          long = R.kept.long;
          long_lookup = R.kept.long_lookup;
          below = R.kept.below;
          above = R.kept.above;
        }

    roomy : Roomy (fill_in s) nodes lookup
    roomy = fits_roomy s nodes lookup e

    -- words past the whole groups stay
    rest_kept : drop (length cache / 4 * 4) cache₁ ≡ drop (length cache / 4 * 4) cache
    rest_kept = rest_drop (length cache / 4 * 4) cache cache₁ R.long_cache R.rest

    module _ (h : ℕ) (eh : answer ≡ Ok h) where
      module _ (S : Sound s nodes lookup cache) where
        given : Handed s.limit (place (book_of nodes s.count) (F (book_of nodes s.count))) (F (book_of nodes s.count)) h fill.count nodes₁ lookup₁
        given = handed_of eh (R.sound (book_of nodes s.count) low (sound_holds S) S.cached)

        fits : too_large s.capacity (book_of nodes s.count) (F (book_of nodes s.count)) ≡ false
        fits = not_large s.capacity (book_of nodes s.count) (F (book_of nodes s.count)) s.count (sound_holds S).size S.within (omega (arith, given.holds.size, K.fits))

        past : drop (3 * s.capacity) nodes₁ ≡ drop (3 * s.capacity) nodes
        past = rest_drop (3 * s.capacity) nodes nodes₁ K.long (λ k l. K.above k (omega (arith, K.fits)))

        blank : (k : ℕ) → 3 * fill.count ≤ k → k < 3 * s.capacity → get_or nodes₁ k 0 ≡ 0
        blank k l g = K.above k l ∙ S.blank k (omega (arith, K.grows)) g

        words : 3 * fill.count ≤ length nodes₁
        words = omega (arith, K.fits, K.long, roomy.words)

        -- the nodes added are the parts that were not held
        added_is : fill.count - s.count ≡ cost_of (book_of nodes s.count) (F (book_of nodes s.count))
        added_is = omega (arith, given.holds.size, (sound_holds S).size, cost_length (book_of nodes s.count) (F (book_of nodes s.count)))

        left : leaves (record { store = counting s fill.count; answer = Ok (record { handle = h; added = fill.count - s.count }) }) nodes₁ lookup₁ ≡ placing 0 (F (book_of nodes s.count)) s nodes lookup
        unfolding placing place_answer place_book
        left =
            rw fits (left_is
            (λ j. record { refusal = 0; handle = sym (ap (λ X. number (place (book_of nodes s.count) (F (book_of nodes s.count))) X) (sym given.means) ∙ handle_of given.holds h given.within) j; added = added_is j })
            (ap (counting s) (omega (arith, given.holds.size)))
            (sym (laid_out given.holds words s.capacity nodes K.fits (omega (arith, K.long, roomy.words)) blank past))
            (sym (ap (λ k. lookup_of k (place (book_of nodes s.count) (F (book_of nodes s.count)))) (sym K.long_lookup) ∙ looked_up given.holds words)))

        sound : Sound (counting s fill.count) nodes₁ lookup₁ cache₁
        sound =
            holds_sound {B = place (book_of nodes s.count) (F (book_of nodes s.count))} (counting s fill.count) S.limit_some given.holds (S.capacity_is ∙ ap capacity_of (sym K.long)) (omega (arith, K.long_lookup, S.longer)) K.fits
            blank (R.cached (book_of nodes s.count) low (sound_holds S) S.cached h eh)

      gave_call : PlaceCall 0 (F (book_of nodes s.count)) s nodes lookup cache r nodes₂ lookup₂ cache₂
      gave_call =
          let q = E.gave h eh in
          rw (placed_is q.0 q.1, q.2, q.3, q.4) record {
            misfit = λ d. clash e d;
            on_sound = λ S. record {
              leaves_is = left S;
              refused_cache = λ n en dn. absurd (dn (sym en));
              sound = sound S;
              rest = rest_kept;
            };
            lengths = (K.long, K.long_lookup, R.long_cache);
            capacity = refl;
            limit = refl;
            refused = λ d. absurd (d refl);
            counted = omega (arith, K.grows);
          }

    module _ (x : Unplaced) (ex : answer ≡ Err x) where
      as_came : r.store ≡ s
      as_came = (E.undone x ex).0

      ea : r.answer ≡ Err (refusal_of x)
      ea = (E.undone x ex).1

      U : RolledBack (counting s fill.count) nodes₁ lookup₁ s.count nodes₂ lookup₂
      U = (E.undone x ex).2

      -- the cache: its whole groups are zero, and the rest is as it came
      zero_cache : cache₂ ≡ zeroed 0 (length cache / 4 * 4) cache
      zero_cache =
          (E.undone x ex).3
          ∙ ext_get_or 0 (zeroed 0 (length cache₁ / 4 * 4) cache₁) (zeroed 0 (length cache / 4 * 4) cache)
          (zeroed_length 0 (length cache₁ / 4 * 4) cache₁ (omega arith) (omega arith) ∙ R.long_cache ∙ sym (zeroed_length 0 (length cache / 4 * 4) cache (omega arith) (omega arith)))
          (λ k l. rw R.long_cache (by_lt k (length cache / 4 * 4)
          (λ h d. zeroed_inside 0 (length cache / 4 * 4) cache₁ (omega arith) (omega (arith, R.long_cache)) k (omega arith) h ∙ sym (zeroed_inside 0 (length cache / 4 * 4) cache (omega arith) (omega arith) k (omega arith) h))
          (λ h d. zeroed_after 0 (length cache / 4 * 4) cache₁ (omega arith) (omega (arith, R.long_cache)) k h ∙ R.rest k h ∙ sym (zeroed_after 0 (length cache / 4 * 4) cache (omega arith) (omega arith) k h))))

      module _ (S : Sound s nodes lookup cache) where
        record Over : Type 0 where
          is : x ≡ Full
          D : List Family
          holds : Holds s.limit D fill.count nodes₁ lookup₁
          big : s.capacity + 2 < length (place (book_of nodes s.count) (F (book_of nodes s.count)))

        over : Over
        over = out answer ex (R.sound (book_of nodes s.count) low (sound_holds S) S.cached)
          where
            out : (a : Result ℕ Unplaced) → a ≡ Err x
                → Outcome s.limit (place (book_of nodes s.count) (F (book_of nodes s.count))) (F (book_of nodes s.count)) s.capacity fill.count nodes₁ lookup₁ a → Over
            out a q (gave G) = absurd (let z : ◌≡◌ {A = ℕ} 0 1 = cc in omega arith)
            out a q (full D H l) = record { is = cc; D = D; holds = H; big = l }

        full_number_lem : refusal_number (refusal_of x) ≡ 5
        full_number_lem = ap (λ y. refusal_number (refusal_of y)) over.is

        same_nodes : nodes₂ ≡ nodes
        same_nodes = undone_nodes roomy K U S.blank

        same_lookup : lookup₂ ≡ lookup
        same_lookup = undone_lookup roomy K U (sound_holds S) over.holds

        too_large_lem : too_large s.capacity (book_of nodes s.count) (F (book_of nodes s.count)) ≡ true
        too_large_lem = large s.capacity (book_of nodes s.count) (F (book_of nodes s.count)) s.count (sound_holds S).size S.within over.big

        full_left : leaves r nodes₂ lookup₂ ≡ placing 0 (F (book_of nodes s.count)) s nodes lookup
        unfolding placing place_answer place_book
        full_left = rw too_large_lem (left_is (ap given_by ea ∙ ap refused_by full_number_lem) as_came same_nodes same_lookup)

        full_sound : Sound r.store nodes₂ lookup₂ cache₂
        full_sound =
            rw (as_came, same_nodes, same_lookup, zero_cache) (sound_with (zeroed 0 (length cache / 4 * 4) cache) S (zeroed_true (book_of nodes s.count) cache))

      full_call : PlaceCall 0 (F (book_of nodes s.count)) s nodes lookup cache r nodes₂ lookup₂ cache₂
      unfolding cache_refused
      full_call =
          record {
            misfit = λ d. clash e d;
            on_sound = λ S. record {
              leaves_is = full_left S;
              refused_cache = λ n en dn. let five : n ≡ 5 = sym en ∙ ap (λ a. (given_by a).refusal) ea ∙ full_number_lem S in rw five zero_cache;
              sound = full_sound S;
              rest = ap (λ X. drop (length cache / 4 * 4) X) zero_cache ∙ zeroed_drop 0 (length cache / 4 * 4) cache (omega arith) (omega arith);
            };
            lengths = (
              ap length U.nodes_are ∙ zeroed_length (3 * s.count) (3 * fill.count) nodes₁ (omega (arith, K.grows)) (omega (arith, K.fits, K.long, roomy.words)) ∙ K.long,
              ap length U.lookup_is ∙ cleared_length nodes₁ lookup₁ s.count (fill.count - s.count) ∙ K.long_lookup,
              ap length zero_cache ∙ zeroed_length 0 (length cache / 4 * 4) cache (omega arith) (omega arith),
            );
            capacity = ap (λ x. x.capacity) as_came;
            limit = ap (λ x. x.limit) as_came;
            refused = λ d. as_came;
            counted = omega (arith, ap (λ x. x.count) as_came, ap (λ a. (given_by a).added) ea);
          }

    -- a call that came through to `finish`
    pub call_done : PlaceCall 0 (F (book_of nodes s.count)) s nodes lookup cache r nodes₂ lookup₂ cache₂
    call_done = by_answer answer gave_call full_call
