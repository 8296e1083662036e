-- Each way out of `load` keeps its promise: refused as damaged, for its scratch, for its bytes or for the store's
-- limit, or with the file's family placed.
-- What the bytes hold decides the promise's own tests, and placing ends as for every call.
use Prim.Native.Nat.{ℕ, ◌+◌, ◌*◌, ◌/◌, ◌≤◌, ◌<◌}
use mathlib.Core.Path.{◌≡◌, refl, ap, ◌∙◌, sym}
use mathlib.Core.Bool.{true}
use mathlib.Core.List.{List, ◌++◌}
use mathlib.Core.Option.{none, some}
use native.Mathlib.Omega.{arith}
use lib.ListN.{length, take, drop, length-append, length-drop, take-append-drop}
use lib.Seq.{drop-drop, drop_at, length-take-le}
use borrow.Author.Tests.{lt-ltb, le-ltb}
use Rattle.family.specs.Family.{Family, top, largest_item}
use Rattle.family.specs.Book.{start, at}
use Rattle.family.specs.File.{family_of}
use Rattle.words.proofs.Cases.{by_eq, clash, by_lt}
use Rattle.std.specs.Prelude.{⊤}
use Rattle.std.proofs.Common.{Some, None, Result, Ok, Err}
use Rattle.store.specs.declared.record.Refusal.{Refusal}
use Rattle.store.specs.declared.record.Unplaced.{Unplaced}
use Rattle.store.specs.Tests.{tests_of, Found}
use Rattle.store.specs.Refusals.{refusal_number}
use Rattle.store.proofs.Testing.{tests_short, tests_clear, Tested, placing_refused}
use Rattle.store.specs.declared.record.Store.{Store}
use Rattle.store.specs.declared.record.Refusal.TheVariants.{NoFile, AboveLimit}
use Rattle.store.specs.declared.record.Placement.{Placement}
use Rattle.store.specs.declared.record.Answered.{Answered}
use Rattle.store.specs.declared.record.Fill.{Fill}
use Rattle.store.specs.Capacity.{fitting}
use Rattle.store.specs.Promise.{PlaceCall}
use Rattle.store_undo.specs.Inner.{Finished}
use Rattle.store.specs.Inner.{fill_in, reached, Holds}
use Rattle.store.specs.Words.{top_at}
use Rattle.store.proofs.Held.{at_0, at_1, top_at_lem}
use Rattle.store_undo.proofs.Finishing.{finished_held}
use Rattle.store_undo.proofs.Done.{call_done}
use Rattle.store.proofs.Calls.{refusal_some, call_refused}
use Rattle.store.proofs.Plain.{plain_held, plain_ran}
use Rattle.file_read.specs.declared.file.Content.TheVariants.{Leaf, Parts}
use Rattle.file_load.specs.Promise.{load_refusal, load_family, LoadCall}
use Rattle.file_place.specs.Inner.{PlacedOf}
use Rattle.file_read.specs.Inner.{ContentOf}

-- the promise's tests
module _ (limit : ℕ) (file : List ℕ) (n : ℕ) where
  refusal_short : n < 6 * length file → load_refusal limit file n ≡ 7
  unfolding load_refusal
  refusal_short l = rw (lt-ltb n (6 * length file) l)

  module _ (l : 6 * length file ≤ n) where
    refusal_none : family_of largest_item file ≡ none → load_refusal limit file n ≡ 9
    unfolding load_refusal
    refusal_none e = rw (le-ltb n (6 * length file) l, e)

    module _ (F : Family) (e : family_of largest_item file ≡ some F) where
      refusal_above : limit < top F → load_refusal limit file n ≡ 13
      unfolding load_refusal
      refusal_above h = rw (le-ltb n (6 * length file) l, e, lt-ltb limit (top F) h)

      refusal_found : top F ≤ limit → load_refusal limit file n ≡ 0
      unfolding load_refusal
      refusal_found h = rw (le-ltb n (6 * length file) l, e, le-ltb limit (top F) h)

family_found : (file : List ℕ) (F : Family) → family_of largest_item file ≡ some F → load_family file ≡ F
unfolding load_family
family_found file F e = rw e

-- the word read is the top of the family
top_is : {file parts slots parts₁ slots₁ : List ℕ} {n : ℕ} (A : ContentOf file parts slots (Some (Parts n)) parts₁ slots₁) → top_at parts₁ (n + 1) ≡ top (at A.outcome.book (n + 1))
top_is {n = n} A = top_at_lem A.outcome.table (n + 1) (omega arith)

-- a scratch whose words past those of so many bytes stay
pub record ScratchKept (b : ℕ) (words words' : List ℕ) : Type 0 where
  pub size : length words' ≡ length words
  pub same : drop (6 * b) words' ≡ drop (6 * b) words

-- behind three parts of these lengths
behind : (b : ℕ) (p s h r : List ℕ) → length p ≡ 3 * b → length s ≡ 2 * b → length h ≡ b → drop (6 * b) (p ++ (s ++ (h ++ r))) ≡ r
behind b p s h r ep es eh =
    let e : 6 * b ≡ 3 * b + 2 * b + b = omega arith in
    ap (λ k. drop k (p ++ (s ++ (h ++ r)))) e ∙ sym (drop-drop b (3 * b + 2 * b) (p ++ (s ++ (h ++ r))))
    ∙ ap (λ x. drop b x) (sym (drop-drop (2 * b) (3 * b) (p ++ (s ++ (h ++ r)))) ∙ ap (λ x. drop (2 * b) x) (drop_at p (s ++ (h ++ r)) (3 * b) ep) ∙ drop_at s (h ++ r) (2 * b) es)
    ∙ drop_at h r b eh

pub scratch_room : {s : Store} {nodes lookup : List ℕ} {words b : ℕ} → Tested s nodes lookup 0 0 0 (words / 6) b → 6 * b ≤ words
scratch_room P = omega (arith, P.passed.room)

-- the lengths of three parts
long : {words rest : List ℕ} (parts slots others : List ℕ) → words ≡ parts ++ rest → rest ≡ slots ++ others → length words ≡ length parts + (length slots + length others)
long {rest = rest} parts slots others e d = ap length e ∙ length-append parts rest ∙ ap (λ n. length parts + n) (ap length d ∙ length-append slots others)

-- the scratch of so many bytes lent in three parts, and what is left of it
module _ {b : ℕ} {words rest : List ℕ} (room : 6 * b ≤ length words) (parts slots others : List ℕ) (e : words ≡ parts ++ rest) (ep : length parts ≡ 3 * b) (d : rest ≡ slots ++ others) (es : length slots ≡ 2 * b) where
  pub handles_room : length (take b others) ≡ b
  handles_room = length-take-le b others (omega (arith, long parts slots others e d))

  pub scratch_kept : (parts' slots' handles : List ℕ) → length parts' ≡ length parts → length slots' ≡ length slots → length handles ≡ length (take b others) → ScratchKept b words (parts' ++ (slots' ++ (handles ++ drop b others)))
  scratch_kept parts' slots' handles fp fs fh =
      let whole : words ≡ parts ++ (slots ++ (take b others ++ drop b others)) = e ∙ ap (λ x. parts ++ x) (d ∙ ap (λ x. slots ++ x) (sym (take-append-drop b others))) in
      record {
        size = rw (length-append parts', length-append slots', length-append handles) (omega (arith, long parts slots others e d, handles_room, length-drop b others));
        same = behind b parts' slots' handles (drop b others) (omega arith) (omega arith) (omega (arith, handles_room))
            ∙ sym (ap (λ x. drop (6 * b) x) whole ∙ behind b parts slots (take b others) (drop b others) ep es handles_room);
      }

module _ (s : Store) (nodes lookup cache file words : List ℕ) (r : Answered Placement) where
  -- the tests decide the promise's own: no handle, no item, and six words per byte
  short_number : (x : Refusal) → refusal_number x ≡ tests_of s.count 0 0 0 (length words / 6) (length file) → refusal_number x ≡ load_refusal s.limit file (length words)
  short_number x d =
      by_lt (length words / 6) (length file)
      (λ l e. d ∙ tests_short s.count 0 0 0 (length words / 6) (length file) (omega arith) (omega arith) refl l ∙ sym (refusal_short s.limit file (length words) (omega arith)))
      (λ l e. absurd (refusal_some x (d ∙ tests_clear s.count 0 0 0 (length words / 6) (length file) (omega arith) (omega arith) refl l)))

  pub load_refused : {a : Result ⊤ Refusal} → Found s (length nodes) (length lookup) 0 0 0 (length words / 6) (length file) a → {x : Refusal} → a ≡ Err x → r.store ≡ s → r.answer ≡ Err x
      → LoadCall s nodes lookup cache file words r nodes lookup cache words
  load_refused F {x} e es ea =
      record {
        places = placing_refused nodes lookup F e (λ z. omega arith) (short_number x) _ cache r es ea;
        scratch_misfit = λ d. refl;
        scratch_short = λ d. refl;
        scratch_rest = refl;
        long = refl;
      }

  module _ (P : Tested s nodes lookup 0 0 0 (length words / 6) (length file)) where
    e : fitting s (length nodes) (length lookup) ≡ true
    e = P.fits

    room : 6 * length file ≤ length words
    room = omega (arith, P.passed.room)

    -- the scratch, where no test refuses it
    kept : {n : ℕ} {F : Family} {nodes' lookup' cache' words' : List ℕ} → load_refusal s.limit file (length words) ≡ n → load_family file ≡ F → PlaceCall n F s nodes lookup cache r nodes' lookup' cache'
        → ScratchKept (length file) words words' → LoadCall s nodes lookup cache file words r nodes' lookup' cache' words'
    kept en ef Q K =
        record {
          places = rw (en, ef) Q;
          scratch_misfit = λ d. clash e d;
          scratch_short = λ d. absurd (omega (arith, room));
          scratch_rest = K.same;
          long = K.size;
        }

    module _ {words' : List ℕ} (K : ScratchKept (length file) words words') where
      pub load_none : {parts slots parts₁ slots₁ : List ℕ} → ContentOf file parts slots None parts₁ slots₁ → r.store ≡ s → r.answer ≡ Err NoFile → LoadCall s nodes lookup cache file words r nodes lookup cache words'
      load_none A es ea =
          kept (refusal_none s.limit file (length words) room A.outcome) refl (call_refused s nodes lookup cache 9 _ r NoFile e refl (omega arith) es ea) K

      pub load_leaf : {parts slots parts₁ slots₁ : List ℕ} {h : ℕ} → ContentOf file parts slots (Some (Leaf h)) parts₁ slots₁ → r.store ≡ s → r.answer ≡ Ok (record { handle = h; added = 0 }) → LoadCall s nodes lookup cache file words r nodes lookup cache words'
      load_leaf {h = h} A es ea =
          let L = A.outcome in
          kept (refusal_found s.limit file (length words) room (at start h) L.is (leaf_top h L.low)) (family_found file (at start h) L.is)
          (call_done s nodes lookup cache (λ B. at start h) e (leaf_top h L.low)
          (plain_ran (top (at start h)) (λ B. at start h) (fill_in s) nodes lookup cache
          (plain_held (top (at start h)) (λ B. at start h) (fill_in s) nodes lookup P.roomy h (omega (arith, L.low)) (λ l B H. same_leaf B H h L.low)))
          (finished_held s h nodes lookup cache r es ea)) K
        where
          leaf_top : (h : ℕ) → h < 2 → top (at start h) ≤ s.limit
          leaf_top h l = by_eq h 0 (λ p t. rw p (omega arith)) (λ d t. let p : h ≡ 1 = omega arith in rw p (omega arith))

          same_leaf : {limit : ℕ} (B : List Family) → Holds limit B s.count nodes lookup → (h : ℕ) → h < 2 → at B h ≡ at start h
          same_leaf B H h l = by_eq h 0 (λ p t. rw p (at_0 H)) (λ d t. let p : h ≡ 1 = omega arith in rw p (at_1 H))

      module _ {parts slots parts₁ slots₁ : List ℕ} {n : ℕ} (A : ContentOf file parts slots (Some (Parts n)) parts₁ slots₁) where
        pub load_above : s.limit < top_at parts₁ (n + 1) → r.store ≡ s → r.answer ≡ Err AboveLimit → LoadCall s nodes lookup cache file words r nodes lookup cache words'
        load_above h es ea =
            kept (refusal_above s.limit file (length words) room (at A.outcome.book (n + 1)) A.outcome.is (omega (arith, top_is A))) refl
            (call_refused s nodes lookup cache 13 _ r AboveLimit e refl (omega arith) es ea) K

        pub load_parts : {fill : Fill} {answer : Result ℕ Unplaced} {handles nodes₁ lookup₁ handles₁ : List ℕ} → PlacedOf (fill_in s) nodes lookup parts₁ handles n (reached fill answer) nodes₁ lookup₁ handles₁
            → top_at parts₁ (n + 1) ≤ s.limit → {nodes₂ lookup₂ cache₂ : List ℕ} → Finished s fill.count answer nodes₁ lookup₁ cache r nodes₂ lookup₂ cache₂ → LoadCall s nodes lookup cache file words r nodes₂ lookup₂ cache₂ words'
        load_parts W h E =
            let R = A.outcome in
            let F = at R.book (n + 1) in
            let low : top F ≤ s.limit = omega (arith, top_is A) in
            kept (refusal_found s.limit file (length words) room F R.is low) (family_found file F R.is)
            (call_done s nodes lookup cache (λ B. F) e low (plain_ran (top F) (λ B. F) (fill_in s) nodes lookup cache (W.ran R.book slots₁ R.table R.own)) E)
            K
