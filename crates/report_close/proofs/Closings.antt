-- The end of a report: the sizes of the two families, of what is in both and only in the returned one; or the line
-- that ended the log. The two calls leave the families' handles as they are, and Size tells the size of each family
-- that the store holds.
use Prim.Native.Nat.{ℕ, ◌+◌, ◌≤◌, ◌<◌}
use mathlib.Core.Path.{◌≡◌, refl, sym, ap, ◌∙◌}
use mathlib.Core.Bool.{Bool, true, false}
use mathlib.Core.List.{List, []}
use native.Mathlib.Omega.{arith}
use Rattle.std.specs.Prelude.{Result, Ok, Err}
use Rattle.std.specs.Result.{IsErr, result_unwrap_or}
use lib.ListN.{length}
use borrow.Author.Tests.{lt-ltb, le-ltb}
use Rattle.words.proofs.Cases.{by_test, by_lt}
use Rattle.family.specs.Family.{Family, size, largest_item}
use Rattle.family.specs.Operation.{intsec, diff}
use Rattle.family.specs.Book.{at}
use Rattle.arrayvec.specs.ArrayString.{ArrayString}
use Rattle.store.specs.declared.record.Store.{Store}
use Rattle.store.specs.declared.record.Refusal.{Refusal}
use Rattle.store.specs.declared.record.Placement.{Placement}
use Rattle.store.specs.declared.record.Answered.{Answered}
use Rattle.store.specs.Words.{book_of}
use Rattle.store.specs.Operations.{rule}
use Rattle.store.specs.Sound.{Sound}
use Rattle.store.specs.Scratch.{scratch_tests}
use Rattle.store.specs.Placing.{too_large}
use Rattle.store.proofs.Decoding.{sound_holds}
use Rattle.store.proofs.Sounds.{bare}
use Rattle.store.proofs.Calls.{refusal_some}
use Rattle.store.proofs.Tested.{tests_passed}
use Rattle.op_promise.specs.Promise.{OperationCall}
use Rattle.words.specs.Words.{most}
use Rattle.query_size.specs.Promise.{by_node, size_given_by, size_tests, size_refusal, size_answer, SizeCall}
use Rattle.report_line.specs.declared.Panel.{Panel}
use Rattle.report_line.specs.declared.Stage.{Stage}
use Rattle.report_tally.specs.declared.Ending.{Ending}
use Rattle.report_tally.specs.declared.Ending.TheVariants.{Going}
use Rattle.report_tally.specs.declared.Tally.{Tally}
use Rattle.report_line.specs.Line.{progress_of}
use Rattle.report_add.specs.Promise.{Added, called, After}
use Rattle.report_text.specs.Text.{report_full, sums_text}
use Rattle.report_tally.specs.Log.{Log, capped}
use Rattle.report_tally.specs.Promise.{Keeps}
use Rattle.report_log.specs.Log.{closing, last_line, end_of, output_of}
use Rattle.report_close.specs.Inner.{SizeIt, SizesIt, text_of, SumsIt, end_text, EndIs}
use Rattle.report_add.proofs.Placings.{combine_after}
use Rattle.report_add.proofs.Makings.{gives, refused_full, placed_grown}
use Rattle.report_log.proofs.Logs.{Stays, stays}

-- the size of a handle that is held
module _ (B : List Family) (p words : ℕ) (passed : size_tests by_node B p words ≡ 0) where
  size_low : size (at B p) ≤ most → size_answer by_node B p words ≡ record { refusal = 0; size = size (at B p) }
  unfolding size_answer size_refusal
  size_low l = rw (passed, le-ltb most (size (at B p)) l)

  size_high : most < size (at B p) → size_answer by_node B p words ≡ record { refusal = 6; size = 0 }
  unfolding size_answer size_refusal
  size_high l = rw (passed, lt-ltb most (size (at B p)) l)

module _ {s : Store} {nodes lookup : List ℕ} {p : ℕ} {sizes : List ℕ} {m : Answered ℕ} {sizes' : List ℕ} (C : SizeCall s nodes lookup p sizes m sizes') where
  module _ (S : Sound s nodes lookup []) (l : p ≤ s.count + 1) (w : s.count ≤ length sizes) where
    tested : size_tests by_node (book_of nodes s.count) p (length sizes) ≡ 0
    unfolding size_tests scratch_tests
    tested = tests_passed (book_of nodes s.count) s.count p (length sizes) (sound_holds S).size l w

    told : (n : ℕ) → m.answer ≡ Ok n → n ≡ capped (size (at (book_of nodes s.count) p))
    told n e =
        by_lt most (size (at (book_of nodes s.count) p))
        (λ h d. absurd (omega (arith, ap (λ x. x.refusal) (sym (ap size_given_by e) ∙ C.answer_is S ∙ size_high (book_of nodes s.count) p (length sizes) tested h))))
        (λ h d. omega (arith, ap (λ x. x.size) (sym (ap size_given_by e) ∙ C.answer_is S ∙ size_low (book_of nodes s.count) p (length sizes) tested h)))

    brimmed : (x : Refusal) → m.answer ≡ Err x → most ≡ capped (size (at (book_of nodes s.count) p))
    brimmed x e =
        by_lt most (size (at (book_of nodes s.count) p))
        (λ h d. omega arith)
        (λ h d. absurd (refusal_some x (ap (λ y. y.refusal) (sym (ap size_given_by e) ∙ C.answer_is S ∙ size_low (book_of nodes s.count) p (length sizes) tested h))))

  pub size_told : {n : ℕ} → n ≡ result_unwrap_or m.answer most → SizeIt s nodes lookup p (length sizes) n
  size_told {n} d = go m.answer refl d
    where
      go : (a : Result ℕ Refusal) → m.answer ≡ a → n ≡ result_unwrap_or a most → SizeIt s nodes lookup p (length sizes) n
      go (Ok k) e d = rw d record { is = λ S l w. told S l w k e }
      go (Err x) e d = rw d record { is = λ S l w. brimmed S l w x e }

-- what the closing sums come to, by the two calls
module _ (capacity : ℕ) (B : List Family) (P R : Family) where
  closing_first : (called capacity B (intsec P R)).full ≡ true → closing capacity (record { book = B; passed = P; returned = R }) ≡ report_full
  unfolding closing
  closing_first e = rw e

  module _ (first : (called capacity B (intsec P R)).full ≡ false) where
    closing_second : (called capacity (called capacity B (intsec P R)).book (diff R P)).full ≡ true → closing capacity (record { book = B; passed = P; returned = R }) ≡ report_full
    unfolding closing
    closing_second e = rw (first, e)

    closing_sums : (called capacity (called capacity B (intsec P R)).book (diff R P)).full ≡ false
        → closing capacity (record { book = B; passed = P; returned = R }) ≡ sums_text (capped (size P)) (capped (size R)) (capped (size (intsec P R))) (capped (size (diff R P)))
    unfolding closing
    closing_sums e = rw (first, e)

pub placed_family : (capacity : ℕ) (B : List Family) (F : Family) → (called capacity B F).family ≡ F
unfolding called
placed_family capacity B F = by_test (too_large capacity B F) (λ t. rw t) (λ t. rw t)

-- the second call, on the book of the first
diff_after : {capacity : ℕ} {m : Answered Placement} {nodes lookup cache : List ℕ} {a : Added} → After capacity m nodes lookup cache a → {p q : ℕ} {P R : Family}
    → Stays m.store.count (book_of nodes m.store.count) p P → Stays m.store.count (book_of nodes m.store.count) q R
    → {r : Answered Placement} {nodes' lookup' cache' : List ℕ} → OperationCall 6 q p m.store nodes lookup cache r nodes' lookup' cache' → After capacity r nodes' lookup' cache' (called capacity a.book (diff R P))
unfolding rule
diff_after A {p} {q} G H O = rw (← A.capacity_is, ← A.book_is, ← G.means, ← H.means) (combine_after A.sound A.limit_is q H.held 6 (omega arith) (omega arith) p G.held O)

module _ {s : Store} {nodes lookup cache : List ℕ} (S : Sound s nodes lookup cache) (i : s.limit ≡ largest_item) {p q : ℕ} {P R : Family} (G : Stays s.count (book_of nodes s.count) p P) (H : Stays s.count (book_of nodes s.count) q R)
    {m : Answered Placement} {nodes₁ lookup₁ cache₁ : List ℕ} (O : OperationCall 5 p q s nodes lookup cache m nodes₁ lookup₁ cache₁) where
  first_after : After s.capacity m nodes₁ lookup₁ cache₁ (called s.capacity (book_of nodes s.count) (intsec P R))
  unfolding rule
  first_after = rw (← G.means, ← H.means) (combine_after S i p G.held 5 (omega arith) (omega arith) q H.held O)

  first_stays : (h : ℕ) (F : Family) → Stays s.count (book_of nodes s.count) h F → Stays m.store.count (book_of nodes₁ m.store.count) h F
  first_stays h F T = stays S first_after (placed_grown s.capacity (book_of nodes s.count) (intsec P R)) h F T.held T.means

  end_first : {x : Refusal} → m.answer ≡ Err x → closing s.capacity (record { book = book_of nodes s.count; passed = P; returned = R }) ≡ report_full
  end_first e = closing_first s.capacity (book_of nodes s.count) P R (refused_full first_after e)

  module _ {b : Placement} (eb : m.answer ≡ Ok b) {r : Answered Placement} {nodes₂ lookup₂ cache₂ : List ℕ} (O₂ : OperationCall 6 q p m.store nodes₁ lookup₁ cache₁ r nodes₂ lookup₂ cache₂) where
    second_after : After s.capacity r nodes₂ lookup₂ cache₂ (called s.capacity (called s.capacity (book_of nodes s.count) (intsec P R)).book (diff R P))
    second_after = diff_after first_after (first_stays p P G) (first_stays q R H) O₂

    second_stays : (k : ℕ) (F : Family) → Stays m.store.count (book_of nodes₁ m.store.count) k F → Stays r.store.count (book_of nodes₂ r.store.count) k F
    second_stays k F T =
        stays first_after.sound second_after
        (rw first_after.book_is (placed_grown s.capacity (called s.capacity (book_of nodes s.count) (intsec P R)).book (diff R P))) k F T.held T.means

    end_second : {x : Refusal} → r.answer ≡ Err x → closing s.capacity (record { book = book_of nodes s.count; passed = P; returned = R }) ≡ report_full
    end_second e = closing_second s.capacity (book_of nodes s.count) P R (gives first_after eb).going (refused_full second_after e)

    end_sums : {o : Placement} → r.answer ≡ Ok o → {words : ℕ} {text : List ℕ} → SizesIt r.store nodes₂ lookup₂ (record { passed = p; returned = q; both = b.handle; only = o.handle }) words text → s.capacity ≤ words
        → text ≡ closing s.capacity (record { book = book_of nodes s.count; passed = P; returned = R })
    end_sums {o} eo Z w =
        let g = gives first_after eb in
        let d = gives second_after eo in
        let p₂ = second_stays p P (first_stays p P G) in
        let q₂ = second_stays q R (first_stays q R H) in
        let h₂ = second_stays b.handle (intsec P R) (record { held = g.inside; means = g.means ∙ placed_family s.capacity (book_of nodes s.count) (intsec P R) }) in
        Z.is (bare second_after.sound) (record { passed = p₂.held; returned = q₂.held; both = h₂.held; only = d.inside }) (omega (arith, second_after.sound.within, second_after.capacity_is))
        ∙ (λ i. sums_text (capped (size (p₂.means i))) (capped (size (q₂.means i))) (capped (size (h₂.means i))) (capped (size ((d.means ∙ placed_family s.capacity (called s.capacity (book_of nodes s.count) (intsec P R)).book (diff R P)) i))))
        ∙ sym (closing_sums s.capacity (book_of nodes s.count) P R g.going d.going)

refused_text : (t : Result ArrayString Refusal) → IsErr t → text_of t ≡ report_full
refused_text (Ok text) f = let e : ◌≡◌ {A = Bool} false true = f in cc
refused_text (Err x) f = refl

module _ {s : Store} {nodes lookup cache : List ℕ} {p q : ℕ} {m : Answered Placement} {nodes₁ lookup₁ cache₁ : List ℕ} (O : OperationCall 5 p q s nodes lookup cache m nodes₁ lookup₁ cache₁) {words : ℕ} where
  pub sums_first : {x : Refusal} {t : Result ArrayString Refusal} → m.answer ≡ Err x → IsErr t → SumsIt s nodes lookup cache p q words t
  sums_first {t = t} e f =
      record { is = λ S i lp lq w. refused_text t f ∙ sym (end_first S i (record { held = lp; means = refl }) (record { held = lq; means = refl }) O e) }

  module _ {b : Placement} (eb : m.answer ≡ Ok b) {r : Answered Placement} {nodes₂ lookup₂ cache₂ : List ℕ} (O₂ : OperationCall 6 q p m.store nodes₁ lookup₁ cache₁ r nodes₂ lookup₂ cache₂) where
    pub sums_second : {x : Refusal} {t : Result ArrayString Refusal} → r.answer ≡ Err x → IsErr t → SumsIt s nodes lookup cache p q words t
    sums_second {t = t} e f =
        record { is = λ S i lp lq w. refused_text t f ∙ sym (end_second S i (record { held = lp; means = refl }) (record { held = lq; means = refl }) O eb O₂ e) }

    pub sums_told : {o : Placement} → r.answer ≡ Ok o → {text : ArrayString} → SizesIt r.store nodes₂ lookup₂ (record { passed = p; returned = q; both = b.handle; only = o.handle }) words text.bytes → SumsIt s nodes lookup cache p q words (Ok text)
    sums_told eo Z =
        record { is = λ S i lp lq w. end_sums S i (record { held = lp; means = refl }) (record { held = lq; means = refl }) O eb O₂ eo Z w }

-- how a log ends with its last byte
ended_text : (capacity : ℕ) (g : Log) (x : Ending) → (x ≡ Going → ⊥) → end_of capacity g x ≡ end_text capacity g x
ended_text capacity g Ending.Going b = absurd (b refl)
ended_text capacity g Ending.Refused b = refl
ended_text capacity g Ending.Full b = refl

begun_text : (capacity : ℕ) (g : Log) (st : Stage) (q : Panel) → (st ≡ Stage.Blank → ⊥) → last_line capacity g (progress_of st q) ≡ end_text capacity g Ending.Refused
begun_text capacity g Stage.Blank q b = absurd (b refl)
begun_text capacity g Stage.Letter q b = refl
begun_text capacity g Stage.Space q b = refl
begun_text capacity g (Stage.Number n) q b = refl
begun_text capacity g Stage.Whole q b = refl
begun_text capacity g Stage.Malformed q b = refl

module _ {t : Tally} where
  pub end_told : (t.ending ≡ Going → ⊥) → EndIs t t.ending
  unfolding output_of
  end_told b = record { is = λ capacity nodes lookup cache g K. ap (λ x. end_of capacity g x) (sym K.ending_is) ∙ ended_text capacity g t.ending b }

  module _ (e : t.ending ≡ Going) where
    at_progress : {capacity : ℕ} {nodes lookup cache : List ℕ} {g : Log} → Keeps capacity t nodes lookup cache g → {st : Stage} → t.reading.stage ≡ st
        → output_of capacity g ≡ last_line capacity g (progress_of st t.reading.panel)
    unfolding output_of
    at_progress {capacity} {g = g} K d =
        ap (λ x. end_of capacity g x) (sym K.ending_is ∙ e)
        ∙ ap (λ p. last_line capacity g p) (sym (ap (λ s. s.progress) K.line_is) ∙ ap (λ st. progress_of st t.reading.panel) d)

    pub end_blank : t.reading.stage ≡ Stage.Blank → EndIs t Going
    end_blank d = record { is = λ capacity nodes lookup cache g K. at_progress K d }

    pub end_begun : (t.reading.stage ≡ Stage.Blank → ⊥) → EndIs t Ending.Refused
    end_begun b =
        record { is = λ capacity nodes lookup cache g K. at_progress K refl ∙ begun_text capacity g t.reading.stage t.reading.panel b }
