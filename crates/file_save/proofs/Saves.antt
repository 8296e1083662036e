-- Each way out of Save keeps the promise: the trail's parts are those of the family in placing order, its length is
-- the file's, and the file written is the definition's.
-- On words that hold a book nothing on the way is broken.
use Prim.Native.Nat.{ℕ, ◌+◌, ◌-◌, ◌≤◌, ◌<◌}
use mathlib.Core.Path.{◌≡◌, refl, sym, ap, subst, ◌∙◌}
use mathlib.Core.Bool.{cond}
use mathlib.Core.List.{List, [], ◌∷◌, ◌++◌}
use native.Mathlib.Omega.{arith}
use lib.Dec.{eqb}
use lib.ListN.{length, get_or, set, drop}
use lib.Seq.{sets}
use borrow.Author.Tests.{ne_eqb}
use Rattle.std.specs.Prelude.{⊤}
use Rattle.std.proofs.Common.{Option, Some, None, Result, Ok, Err}
use Rattle.family.specs.Family.{Family, empty, base, node}
use Rattle.family.specs.Book.{start, at, place}
use Rattle.family.specs.Record.{bytes_of}
use Rattle.family.specs.File.{triples_of, records_bytes, file_of_book, file_of}
use Rattle.words.specs.Words.{zeroed}
use Rattle.words.proofs.Cases.{by_lt, by_eq, clash}
use Rattle.words.proofs.Zeroed.{rest_drop, zeroed_length, zeroed_inside, zeroed_after}
use Rattle.store.specs.declared.record.Store.{Store}
use Rattle.store.specs.declared.record.Answered.{Answered}
use Rattle.store.specs.declared.record.Refusal.TheVariants.{Output}
use Rattle.store.specs.Scratch.{scratch_tests}
use Rattle.store.specs.Words.{top_at, book_of}
use Rattle.store.specs.Sound.{Sound}
use Rattle.store.specs.Inner.{Holds}
use Rattle.store.proofs.Held.{at_0, at_1, top_at_lem, within, at_node}
use Rattle.store.proofs.Decoding.{sound_holds}
use Rattle.store.proofs.Calls.{refusal_some, sound_fits}
use Rattle.store.proofs.Testing.{Tested, tested_refuses}
use Rattle.store.specs.Tests.{tests_of, Found}
use Rattle.store.specs.Refusals.{refusal_number}
use Rattle.store.specs.declared.record.Refusal.{Refusal}
use Rattle.store.proofs.Tested.{scratch_number}
use Rattle.file_trail.specs.declared.trail.Trail.{Trail}
use Rattle.file_save.specs.Promise.{save_given_by, save_refusal, save_answer, save_output, SaveCall}
use Rattle.file_trail.specs.Inner.{Trailed, WalkOf}
use Rattle.file_write.specs.Inner.{Writing, first_cursor, WritesOf}
use Rattle.file_save.specs.Inner.{LeafOf, FileOf, PartsOf}
use Rattle.file_trail.proofs.Trails.{trail_start}
use Rattle.file_write.proofs.Cursors.{sets_front}

file_length_lem : (D : List Family) → length (file_of_book D) ≡ 5 + length (records_bytes 0 1 (triples_of D (drop 2 D)))
unfolding file_of_book
file_length_lem D = omega arith

-- the file of a trail's parts
pub file_written : (t : Trail) (nodes : List ℕ) (n : ℕ) (links out : List ℕ) {out₁ : List ℕ} {r : Option ⊤} {links' out' : List ℕ} → 5 ≤ length out
    → out₁ ≡ sets out 0 (1 ∷ bytes_of 4 t.parts) → length out₁ ≡ length out → WritesOf t.first t.parts nodes n links out₁ r links' out' → FileOf t nodes n links out r links' out'
unfolding file_of_book
file_written t nodes n links out {out₁} {r} {links'} {out'} h e l W =
    record {
      long = W.long;
      long_out = W.long_out ∙ l;
      rest = W.rest;
      sound = λ B D lookup H T few. W.sound B D lookup (file_of_book D) out H T.parts_is (begun T few);
    }
  where
    begun : {limit : ℕ} {B D : List Family} → Trailed limit B D n t links → t.bytes ≤ length out → Writing limit B D 2 (first_cursor t.first) links (file_of_book D) out out₁
    begun {B} {D} T few =
        let parts : t.parts ≡ length D - 2 = omega (arith, T.parts_is) in
        record {
          book = T.book;
          inside = T.inside;
          two = omega arith;
          at_is = T.first_is;
          number_is = omega arith;
          place_low = omega (arith, file_length_lem D);
          room = omega (arith, file_length_lem D, T.bytes_is);
          todo_is = refl;
          out_is = e ∙ rw parts (sets_front (1 ∷ bytes_of 4 (length D - 2)) out (omega arith));
          numbered = λ m a b c. absurd (omega arith);
          next = T.next;
        }

-- the ways out of `save_parts`
abbrev pub start_trail : Trail
start_trail = record { first = 0; last = 1; item = 0; parts = 0; bytes = 5 }

module _ (s : Store) (p : ℕ) (nodes links out : List ℕ) (two : 2 ≤ p) (lp : p ≤ s.count + 1) where
  pub parts_damaged : (r : Result ℕ Refusal) → s.limit < top_at nodes p → PartsOf s p nodes links out r links out
  parts_damaged r h =
      record {
        long = refl;
        long_out = refl;
        rest = λ k l. refl;
        refused = λ B lookup H l. absurd (omega (arith, top_at_lem H p (omega arith), (within H p (omega arith)).low));
        gave = λ B lookup H l. absurd (omega (arith, top_at_lem H p (omega arith), (within H p (omega arith)).low));
      }

  module _ (room : s.count ≤ length links) {links₁ : List ℕ} (el : links₁ ≡ zeroed 0 s.count links) where
    begun : {limit : ℕ} {B : List Family} {lookup : List ℕ} → Holds limit B s.count nodes lookup → Trailed limit B start s.count start_trail links₁
    begun H = trail_start H links₁ (λ k l. ap (λ X. get_or X k 0) el ∙ zeroed_inside 0 s.count links (omega arith) room k (omega arith) l) start_trail refl refl refl refl

    module _ {x : Option Trail} {links₂ : List ℕ} (W : WalkOf start_trail p nodes s.count links₁ x links₂) where
      long₂ : length links₂ ≡ length links
      long₂ = W.long ∙ ap length el ∙ zeroed_length 0 s.count links (omega arith) room

      rest₂ : (k : ℕ) → s.count ≤ k → get_or links₂ k 0 ≡ get_or links k 0
      rest₂ k l = W.rest k l ∙ ap (λ X. get_or X k 0) el ∙ zeroed_after 0 s.count links (omega arith) room k l

    pub parts_broken : {links₂ : List ℕ} → WalkOf start_trail p nodes s.count links₁ None links₂ → (r : Result ℕ Refusal) → PartsOf s p nodes links out r links₂ out
    parts_broken W r =
        record {
          long = long₂ W;
          long_out = refl;
          rest = rest₂ W;
          refused = λ B lookup H l. absurd (W.sound B start lookup H (begun H));
          gave = λ B lookup H l. absurd (W.sound B start lookup H (begun H));
        }

    module _ {t : Trail} {links₂ : List ℕ} (W : WalkOf start_trail p nodes s.count links₁ (Some t) links₂) where
      trail : {limit : ℕ} {B : List Family} {lookup : List ℕ} → Holds limit B s.count nodes lookup → Trailed limit B (place start (at B p)) s.count t links₂
      trail {B = B} {lookup} H = W.sound B start lookup H (begun H)

      -- the file of a node is that of its own book
      file_is : {limit : ℕ} {B : List Family} {lookup : List ℕ} → Holds limit B s.count nodes lookup → file_of (at B p) ≡ file_of_book (place start (at B p))
      file_is {B} H = go (at B p) (at_node H p two (omega arith))
        where
          go : (F : Family) {i : ℕ} {a b : Family} → F ≡ node i a b → file_of F ≡ file_of_book (place start F)
          go empty e = absurd (let z : ◌≡◌ {A = ℕ} 0 1 = cc in omega arith)
          go base e = absurd (let z : ◌≡◌ {A = ℕ} 0 1 = cc in omega arith)
          go (node i a b) e = refl

      length_is : {limit : ℕ} {B : List Family} {lookup : List ℕ} → Holds limit B s.count nodes lookup → t.bytes ≡ length (file_of (at B p))
      length_is {B} H = (trail H).bytes_is ∙ sym (file_length_lem (place start (at B p))) ∙ ap length (sym (file_is H))

      pub parts_short : length out < t.bytes → PartsOf s p nodes links out (Err Output) links₂ out
      parts_short h =
          record {
            long = long₂ W;
            long_out = refl;
            rest = rest₂ W;
            refused = λ B lookup H l. (refl, refl);
            gave = λ B lookup H l. absurd (omega (arith, length_is H));
          }

      module _ (fit : t.bytes ≤ length out) {links₃ out₃ : List ℕ} where
        pub parts_unwritten : FileOf t nodes s.count links₂ out None links₃ out₃ → (r : Result ℕ Refusal) → PartsOf s p nodes links out r links₃ out₃
        parts_unwritten F r =
            record {
              long = F.long ∙ long₂ W;
              long_out = F.long_out;
              rest = λ k l. F.rest k l ∙ rest₂ W k l;
              refused = λ B lookup H l. absurd (F.sound B (place start (at B p)) lookup H (trail H) fit);
              gave = λ B lookup H l. absurd (F.sound B (place start (at B p)) lookup H (trail H) fit);
            }

        pub parts_done : {u : ⊤} → FileOf t nodes s.count links₂ out (Some u) links₃ out₃ → PartsOf s p nodes links out (Ok t.bytes) links₃ out₃
        parts_done F =
            record {
              long = F.long ∙ long₂ W;
              long_out = F.long_out;
              rest = λ k l. F.rest k l ∙ rest₂ W k l;
              refused = λ B lookup H l. absurd (omega (arith, length_is H));
              gave = λ B lookup H l. (ap Ok (length_is H), rw (file_is H) (F.sound B (place start (at B p)) lookup H (trail H) fit));
            }

-- the ways out of `save`
module _ (s : Store) (nodes lookup : List ℕ) (p : ℕ) (scratch out : List ℕ) where
  abbrev B : List Family
  B = book_of nodes s.count

  tests_are : Sound s nodes lookup [] → scratch_tests B p (length scratch) ≡ tests_of s.count p 0 0 (length scratch) s.count
  tests_are S = scratch_number B s.count p (length scratch) (sound_holds S).size

  -- refused by a test: all words as they came
  pub save_refused : {a : Result ⊤ Refusal} → Found s (length nodes) (length lookup) p 0 0 (length scratch) s.count a → {x : Refusal} → a ≡ Err x
      → SaveCall s nodes lookup p scratch out (record { store = s; answer = Err x }) scratch out
  unfolding save_answer save_refusal save_output
  save_refused F {x} e =
      tested_refuses nodes lookup F e
      (λ t d. record {
        misfit = λ q. (ap Err d, refl, refl);
        answer_is = λ S. clash (sound_fits S) t;
        out_is = λ S. clash (sound_fits S) t;
        scratch_stays = λ S n. refl;
        scratch_rest = refl;
        store_is = refl;
        long = refl;
        long_out = refl;
      })
      (λ t d. record {
        misfit = λ q. clash t q;
        answer_is = λ S. let n = ne_eqb (refusal_number x) 0 (refusal_some x) in rw (tests_are S, ← d, n, n);
        out_is = λ S. let n = ne_eqb (refusal_number x) 0 (refusal_some x) in rw (tests_are S, ← d, n, n);
        scratch_stays = λ S n. refl;
        scratch_rest = refl;
        store_is = refl;
        long = refl;
        long_out = refl;
      })

  module _ (P : Tested s nodes lookup p 0 0 (length scratch) s.count) where
    passed : Sound s nodes lookup [] → scratch_tests B p (length scratch) ≡ 0
    passed S = tests_are S ∙ P.number_is

    -- by whether the output has room for the file
    told : (r : Result ℕ Refusal) (scratch' out' : List ℕ) → length scratch' ≡ length scratch → length out' ≡ length out → ((k : ℕ) → s.count ≤ k → get_or scratch' k 0 ≡ get_or scratch k 0)
        → (Sound s nodes lookup [] → length out < length (file_of (at B p)) → (r ≡ Err Output) × (out' ≡ out))
        → (Sound s nodes lookup [] → length (file_of (at B p)) ≤ length out → (r ≡ Ok (length (file_of (at B p)))) × (out' ≡ file_of (at B p) ++ drop (length (file_of (at B p))) out))
        → SaveCall s nodes lookup p scratch out (record { store = s; answer = r }) scratch' out'
    unfolding save_answer save_refusal save_output
    told r scratch' out' l lo rest short long =
        record {
          misfit = λ d. clash P.fits d;
          answer_is = λ S. by_lt (length out) (length (file_of (at B p)))
              (λ h q. ap save_given_by (short S h).0 ∙ rw (passed S, q))
              (λ h q. ap save_given_by (long S h).0 ∙ rw (passed S, q));
          out_is = λ S. by_lt (length out) (length (file_of (at B p))) (λ h q. (short S h).1 ∙ rw (passed S, q)) (λ h q. (long S h).1 ∙ rw (passed S, q));
          scratch_stays = λ S n. absurd (n (passed S));
          scratch_rest = rest_drop s.count scratch scratch' l rest;
          store_is = refl;
          long = l;
          long_out = lo;
        }

    pub saved_leaf : p < 2 → (r : Result ℕ Refusal) {out' : List ℕ} → LeafOf p out r out' → SaveCall s nodes lookup p scratch out (record { store = s; answer = r }) scratch out'
    saved_leaf h r {out'} L =
        told r scratch out' refl L.long_out (λ k l. refl)
        (λ S l. L.refused (omega (arith, one S)))
        (λ S l. let g = L.gave (λ z. omega (arith, one S)) in (g.0 ∙ ap Ok (sym (one S)), g.1 ∙ laid S (λ z. omega (arith, one S))))
      where
        leaf : Sound s nodes lookup [] → file_of (at B p) ≡ cond (eqb p 0) 0 2 ∷ []
        leaf S = by_eq p 0 (λ q d. rw (d, q, at_0 (sound_holds S))) (λ q d. let one : p ≡ 1 = omega arith in rw (d, one, at_1 (sound_holds S)))

        one : Sound s nodes lookup [] → length (file_of (at B p)) ≡ 1
        one S = ap length (leaf S)

        laid : Sound s nodes lookup [] → (length out ≡ 0 → ⊥) → set out 0 (cond (eqb p 0) 0 2) ≡ file_of (at B p) ++ drop (length (file_of (at B p))) out
        laid S n = rw (leaf S) (sets_front (cond (eqb p 0) 0 2 ∷ []) out (omega arith))

    pub saved_parts : (r : Result ℕ Refusal) {scratch' out' : List ℕ} → PartsOf s p nodes scratch out r scratch' out' → SaveCall s nodes lookup p scratch out (record { store = s; answer = r }) scratch' out'
    saved_parts r {scratch'} {out'} W =
        told r scratch' out' W.long W.long_out W.rest (λ S l. W.refused B lookup (sound_holds S) l) (λ S l. W.gave B lookup (sound_holds S) l)

-- an answer handed back with the record
pub answered_as : {s : Store} {nodes lookup : List ℕ} {p : ℕ} {scratch out scratch' out' : List ℕ} {a : Result ℕ Refusal} (r : Answered ℕ) → (r.store ≡ s) × (r.answer ≡ a)
    → SaveCall s nodes lookup p scratch out (record { store = s; answer = a }) scratch' out' → SaveCall s nodes lookup p scratch out r scratch' out'
answered_as {s} {nodes} {lookup} {p} {scratch} {out} {scratch'} {out'} {a} r e S =
    subst (λ x. SaveCall s nodes lookup p scratch out (record { store = r.store; answer = x }) scratch' out') (sym e.1)
    (subst (λ x. SaveCall s nodes lookup p scratch out (record { store = x; answer = a }) scratch' out') (sym e.0) S)
