-- Every promise can be kept on a sound store: for each call there is something to return and to leave as it says.
-- What the promises define for the book that the words hold is itself such a thing: the words of a book are sound, a
-- cache that was true stays so as the book grows, and one of zeros is true of every book.
use Prim.Native.Nat.{ℕ, ◌*◌, ◌-◌, ◌/◌, ◌≤◌}
use mathlib.Core.Path.{◌≡◌, refl, sym}
use mathlib.Core.Bool.{Bool, true, false}
use mathlib.Core.List.{List, []}
use native.Mathlib.Omega.{arith}
use lib.ListN.{length}
use borrow.Author.Tests.{ltb-false}
use Rattle.words.specs.Words.{zeroed}
use Rattle.words.proofs.Cases.{by_test, clash}
use Rattle.words.proofs.Zeroed.{zeroed_length, zeroed_drop}
use Rattle.family.specs.Family.{Family, size, has, Within}
use Rattle.family.specs.Book.{at, number, place}
use Rattle.family.specs.File.{file_of}
use Rattle.family.proofs.Placing.{place_grown, book_place}
use Rattle.store.specs.declared.record.Store.{Store}
use Rattle.std.proofs.Common.{Result, Ok, Err}
use Rattle.store.specs.declared.record.Refusal.{Refusal}
use Rattle.store.specs.declared.record.Refusal.TheVariants.{Full}
use Rattle.store.specs.declared.record.Placement.{Placement}
use Rattle.store.specs.declared.record.Answered.{Answered}
use Rattle.store.specs.Capacity.{counting}
use Rattle.store.specs.Refusals.{refusal_number}
use Rattle.store.specs.Words.{book_of, nodes_with, lookup_of}
use Rattle.store.specs.Placing.{cost_of, too_large}
use Rattle.store.specs.Promise.{cache_refused, PlaceCall}
use Rattle.store.specs.Sound.{Sound}
use Rattle.store.proofs.Calls.{sound_fits, cost_length, call_refused}
use Rattle.store.proofs.Ways.{way_full, way_placed}
use Rattle.store.proofs.Decoding.{sound_holds}
use Rattle.store.proofs.Sounds.{zeroed_true, sound_with}
use Rattle.store.proofs.Cached.{true_grown}
use Rattle.query_size.specs.Promise.{SizeEntry, by_node, by_part, size_given_by, size_answer, size_scratch, SizeCall}
use Rattle.query_size_compact.specs.Promise.{CompactCall}
use Rattle.query_has.specs.Promise.{has_given_by, has_answer, HasCall}
use Rattle.query_weight.specs.Promise.{Way, sum_by, weight_given_by, weight_answer, WeightCall}
use Rattle.file_save.specs.Promise.{save_given_by, save_answer, save_output, SaveCall}
use Rattle.store_audit.specs.Promise.{AuditCall}
use Rattle.lists.proofs.Numbers.{Refusing, nothing, refuses, has_refusing, by_refusing, size_refusing, weight_refusing, save_refusing, size_long, save_long}
use Rattle.lists.proofs.Laying.{looked_long, laid_long, laid_sound}

-- a call that places
pub record PlacesKept (n : ℕ) (F : Family) (s : Store) (nodes lookup cache : List ℕ) : Type 0 where
  pub r : Answered Placement
  pub nodes' : List ℕ
  pub lookup' : List ℕ
  pub cache' : List ℕ
  pub call : PlaceCall n F s nodes lookup cache r nodes' lookup' cache'

module _ (F : Family) {s : Store} {nodes lookup cache : List ℕ} (S : Sound s nodes lookup cache) where
  -- no room: the record and the words stay, and the cache is zeroed
  kept_full : too_large s.capacity (book_of nodes s.count) F ≡ true → PlacesKept 0 F s nodes lookup cache
  unfolding cache_refused
  kept_full f =
      let long = zeroed_length 0 (length cache / 4 * 4) cache (omega arith) (omega arith) in
      record {
        r = record { store = s; answer = Err Full };
        nodes' = nodes;
        lookup' = lookup;
        cache' = zeroed 0 (length cache / 4 * 4) cache;
        call = record {
          misfit = λ d. clash (sound_fits S) d;
          on_sound = λ T. record {
            leaves_is = sym (way_full 0 F s nodes lookup refl f);
            refused_cache = λ m em dm. rw (← em) refl;
            sound = sound_with (zeroed 0 (length cache / 4 * 4) cache) S (zeroed_true (book_of nodes s.count) cache);
            rest = zeroed_drop 0 (length cache / 4 * 4) cache (omega arith) (omega arith);
          };
          lengths = (refl, refl, long);
          capacity = refl;
          limit = refl;
          refused = λ d. refl;
          counted = omega arith;
        };
      }

  -- placed: the words are those of the book with the family, and the cache stays
  module _ (w : Within s.limit F) (f : too_large s.capacity (book_of nodes s.count) F ≡ false) where
    fits : length (place (book_of nodes s.count) F) - 2 ≤ s.capacity
    unfolding too_large
    fits =
        let B = book_of nodes s.count in
        omega (arith, ltb-false (s.capacity - (length B - 2)) (cost_of B F) f, cost_length B F, (sound_holds S).size, S.within)

    kept_placed : PlacesKept 0 F s nodes lookup cache
    kept_placed =
        let B = book_of nodes s.count in
        let C = place B F in
        let K = (book_place B F (sound_holds S).book w).0 in
        let room : 3 * s.capacity ≤ length nodes = omega (arith, S.capacity_is) in
        record {
          r = record { store = counting s (length C - 2); answer = Ok (record { handle = number C F; added = cost_of B F }) };
          nodes' = nodes_with s.capacity C nodes;
          lookup' = lookup_of (length lookup) C;
          cache' = cache;
          call = record {
            misfit = λ d. clash (sound_fits S) d;
            on_sound = λ T. record {
              leaves_is = sym (way_placed 0 F s nodes lookup refl f);
              refused_cache = λ m em dm. absurd (dm (sym em));
              sound = laid_sound S.limit_low C K s.capacity nodes (length lookup) fits room cache S.limit_some S.capacity_is S.longer (true_grown (place_grown B F) S.cached);
              rest = refl;
            };
            lengths = (laid_long S.limit_low C K s.capacity nodes (length lookup) fits room, looked_long S.limit_low C K s.capacity nodes (length lookup), refl);
            capacity = refl;
            limit = refl;
            refused = λ d. absurd (d refl);
            counted = omega (arith, cost_length B F, (sound_holds S).size);
          };
        }

  pub place_kept : {n : ℕ} → Refusing n → (n ≡ 0 → Within s.limit F) → PlacesKept n F s nodes lookup cache
  place_kept nothing w = by_test (too_large s.capacity (book_of nodes s.count) F) (λ f. kept_full f) (λ f. kept_placed (w refl) f)
  place_kept (refuses x five) w =
      record {
        r = record { store = s; answer = Err x };
        nodes' = nodes;
        lookup' = lookup;
        cache' = cache;
        call = call_refused s nodes lookup cache (refusal_number x) F (record { store = s; answer = Err x }) x (sound_fits S) refl five refl refl;
      }

-- what either entry of Size answers
record SizeAnswered (entry : SizeEntry) (B : List Family) (p words : ℕ) : Type 0 where
  answer : Result ℕ Refusal
  is : size_given_by answer ≡ size_answer entry B p words

size_answered : (entry : SizeEntry) (B : List Family) (p words : ℕ) → SizeAnswered entry B p words
unfolding size_answer
size_answered entry B p words =
    by_refusing (size_refusing entry B p words)
    (λ z. record { answer = Ok (size (at B p)); is = rw z })
    (λ x d f. record { answer = Err x; is = rw (d, f) })

-- the calls that write no store word
module _ {s : Store} {nodes lookup : List ℕ} (S : Sound s nodes lookup []) where
  pub record HasKept (p : ℕ) (c : List ℕ) : Type 0 where
    pub r : Answered Bool
    pub call : HasCall s nodes lookup p c r

  pub has_kept : (p : ℕ) (c : List ℕ) → HasKept p c
  unfolding has_answer
  has_kept p c =
      let B = book_of nodes s.count in
      by_refusing (has_refusing B p)
      (λ z. by_test (has (at B p) c)
      (λ h. record { r = record { store = s; answer = Ok true }; call = says (Ok true) (rw (z, h)) })
      (λ h. record { r = record { store = s; answer = Ok false }; call = says (Ok false) (rw (z, h)) }))
      (λ x d f. record { r = record { store = s; answer = Err x }; call = says (Err x) (rw (d, f)) })
    where
      says : (a : Result Bool Refusal) → has_given_by a ≡ has_answer (book_of nodes s.count) p c → HasCall s nodes lookup p c (record { store = s; answer = a })
      says a e = record { misfit = λ d. clash (sound_fits S) d; answer_is = λ T. e; store_is = refl }

  -- Audit zeroes the cache lent to it, and says yes
  pub audit_kept : (cache : List ℕ) → AuditCall s nodes lookup cache (record { store = s; sound = true }) (zeroed 0 (length cache / 4 * 4) cache)
  audit_kept cache =
      record {
        cache_is = refl;
        sound_yes = λ T. refl;
        yes_sound = λ e. sound_with (zeroed 0 (length cache / 4 * 4) cache) S (zeroed_true (book_of nodes s.count) cache);
        store_is = refl;
      }

  pub record SizeKept (p : ℕ) (scratch : List ℕ) : Type 0 where
    pub r : Answered ℕ
    pub scratch' : List ℕ
    pub call : SizeCall s nodes lookup p scratch r scratch'

  pub size_kept : (p : ℕ) (scratch : List ℕ) → SizeKept p scratch
  size_kept p scratch =
      let B = book_of nodes s.count in
      let A = size_answered by_node B p (length scratch) in
      record {
        r = record { store = s; answer = A.answer };
        scratch' = size_scratch B p scratch;
        call = record {
          misfit = λ d. clash (sound_fits S) d;
          answer_is = λ T. A.is;
          scratch_is = λ T. refl;
          store_is = refl;
          long = size_long B p scratch;
        };
      }

  pub record CompactKept (p : ℕ) (scratch : List ℕ) : Type 0 where
    pub r : Answered ℕ
    pub call : CompactCall s nodes lookup p scratch r scratch

  -- the second entry may leave its scratch as it came
  pub compact_kept : (p : ℕ) (scratch : List ℕ) → CompactKept p scratch
  compact_kept p scratch =
      let A = size_answered by_part (book_of nodes s.count) p (length scratch) in
      record {
        r = record { store = s; answer = A.answer };
        call = record {
          misfit = λ d. clash (sound_fits S) d;
          answer_is = λ T. A.is;
          scratch_stays = λ l. refl;
          store_is = refl;
          long = refl;
        };
      }

  pub record WeightKept (way : Way) (p : ℕ) (weights scratch : List ℕ) : Type 0 where
    pub r : Answered ℕ
    pub call : WeightCall way s nodes lookup p weights scratch r scratch

  -- either sum may leave its scratch as it came
  pub weight_kept : (way : Way) (p : ℕ) (weights scratch : List ℕ) → WeightKept way p weights scratch
  unfolding weight_answer
  weight_kept way p weights scratch =
      by_refusing (weight_refusing way B p weights (length scratch)) (λ z. says (Ok (sum_by way weights (at B p))) (rw z)) (λ x d f. says (Err x) (rw (d, f)))
    where
      B : List Family
      B = book_of nodes s.count

      says : (a : Result ℕ Refusal) → weight_given_by a ≡ weight_answer way B p weights (length scratch) → WeightKept way p weights scratch
      says a e =
          record {
            r = record { store = s; answer = a };
            call = record {
              misfit = λ d. clash (sound_fits S) d;
              answer_is = λ T. e;
              scratch_stays = λ T d. refl;
              scratch_rest = refl;
              store_is = refl;
              long = refl;
            };
          }

  pub record SaveKept (p : ℕ) (scratch out : List ℕ) : Type 0 where
    pub r : Answered ℕ
    pub out' : List ℕ
    pub call : SaveCall s nodes lookup p scratch out r scratch out'

  pub save_kept : (p : ℕ) (scratch out : List ℕ) → SaveKept p scratch out
  unfolding save_answer
  save_kept p scratch out =
      by_refusing (save_refusing B p (length scratch) (length out)) (λ z. says (Ok (length (file_of (at B p)))) (rw z)) (λ x d f. says (Err x) (rw (d, f)))
    where
      B : List Family
      B = book_of nodes s.count

      says : (a : Result ℕ Refusal) → save_given_by a ≡ save_answer B p (length scratch) (length out) → SaveKept p scratch out
      says a e =
          record {
            r = record { store = s; answer = a };
            out' = save_output B p (length scratch) out;
            call = record {
              misfit = λ d. clash (sound_fits S) d;
              answer_is = λ T. e;
              out_is = λ T. refl;
              scratch_stays = λ T d. refl;
              scratch_rest = refl;
              store_is = refl;
              long = refl;
              long_out = save_long B p (length scratch) out;
            };
          }
