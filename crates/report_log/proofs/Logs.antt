-- A log taken byte by byte: what each function leaves keeps the log that the definitions name.
-- Families held before a call keep their handles, so the other family's handle stays; the rest is by the tally's
-- fields.
use Prim.Native.Nat.{ℕ, suc, ◌+◌, ◌≤◌}
use mathlib.Core.Path.{◌≡◌, refl, sym, ap, subst, ◌∙◌}
use mathlib.Core.Bool.{true, false}
use mathlib.Core.List.{List, [], ◌∷◌}
use native.Mathlib.Omega.{arith}
use Rattle.std.specs.Prelude.{Ok, Err}
use lib.ListN.{length}
use Rattle.family.specs.Family.{Family}
use Rattle.family.specs.Operation.{union}
use Rattle.family.specs.Combination.{items_of}
use Rattle.family.specs.Book.{at, Grown}
use Rattle.family.proofs.Books.{grown_at, grown_length}
use Rattle.store.specs.declared.record.Store.{Store}
use Rattle.store.specs.declared.record.Refusal.{Refusal}
use Rattle.store.specs.declared.record.Placement.{Placement}
use Rattle.store.specs.declared.record.Answered.{Answered}
use Rattle.store.specs.Words.{book_of}
use Rattle.store.specs.Sound.{Sound}
use Rattle.store.proofs.Decoding.{sound_holds}
use Rattle.report_line.specs.declared.Side.{Side}
use Rattle.report_line.specs.declared.Side.TheVariants.{Passed, Returned}
use Rattle.report_line.specs.declared.Panel.{Panel}
use Rattle.report_line.specs.declared.Stage.{Stage}
use Rattle.report_line.specs.declared.Reading.{Reading}
use Rattle.report_tally.specs.declared.Ending.{Ending}
use Rattle.report_tally.specs.declared.Ending.TheVariants.{Going, Refused, Full}
use Rattle.report_tally.specs.declared.Tally.{Tally}
use Rattle.report_line.specs.Line.{LineState, begin, next_byte, progress_of, state_of}
use Rattle.report_add.specs.Promise.{Added, line_made, added, After, AddCall}
use Rattle.report_tally.specs.Log.{Log, capped}
use Rattle.report_tally.specs.Promise.{Keeps}
use Rattle.report_log.specs.Log.{of_side, put_side, lot_after, counted, read_on, while_going, log_byte}
use Rattle.report_log.specs.Promise.{TakeCall}
use Rattle.report_log.specs.Inner.{side_handle, LineEnd, LineIt}
use Rattle.report_add.proofs.Makings.{gives, refused_full, next_grown, made_grown}

-- the line read on, the lot as it was
read_keeps : {capacity : ℕ} {t : Tally} {nodes lookup cache : List ℕ} {g : Log} → Keeps capacity t nodes lookup cache g → {s : LineState} {next : Reading} (e : Ending) → state_of next ≡ s
    → Keeps capacity (record t { reading = next; ending = e }) nodes lookup cache (record { lot = g.lot; lines = g.lines; line = s; ending = e })
read_keeps K e f =
    record {
      sound = K.sound;
      capacity_is = K.capacity_is;
      limit_is = K.limit_is;
      book_is = K.book_is;
      passed_held = K.passed_held;
      passed_is = K.passed_is;
      returned_held = K.returned_held;
      returned_is = K.returned_is;
      lines_is = K.lines_is;
      line_is = f;
      ending_is = refl;
    }

-- a line added
pub added_grown : (capacity : ℕ) (B : List Family) (F : Family) (c : List ℕ) → Grown B (added capacity B F c).book
added_grown capacity B F c = next_grown capacity (union F) (line_made capacity B c) (made_grown capacity B c)

-- a tally with another handle for the family of a side
abbrev with_handle : Side → ℕ → Tally → Tally
with_handle Passed h t = record t { passed = h }
with_handle Returned h t = record t { returned = h }

pub record Stays (n : ℕ) (B : List Family) (q : ℕ) (F : Family) : Type 0 where
  pub held : q ≤ n + 1
  pub means : at B q ≡ F

pub stays : {capacity : ℕ} {s : Store} {nodes lookup cache : List ℕ} → Sound s nodes lookup cache → {m : Answered Placement} {nodes' lookup' cache' : List ℕ} {a : Added} → After capacity m nodes' lookup' cache' a
    → Grown (book_of nodes s.count) a.book → (q : ℕ) (F : Family) → q ≤ s.count + 1 → at (book_of nodes s.count) q ≡ F → Stays m.store.count (book_of nodes' m.store.count) q F
stays S A g q F l e =
    let z = (sound_holds S).size in
    record {
      held = omega (arith, grown_length g, z, ap length A.book_is, (sound_holds A.sound).size);
      means = ap (λ B. at B q) A.book_is ∙ grown_at g q (omega arith) ∙ e;
    }

module _ {capacity : ℕ} {t : Tally} {nodes lookup cache : List ℕ} {g : Log} (K : Keeps capacity t nodes lookup cache g) {m : Answered Placement} {nodes' lookup' cache' : List ℕ} where
  -- the promise of adding, on the log's own book and families
  for_side : (d : Side) {c : List ℕ} → AddCall t.store nodes lookup cache (side_handle d t) c m nodes' lookup' cache' → After capacity m nodes' lookup' cache' (added capacity g.lot.book (of_side d g.lot) c)
  for_side Passed C = rw (K.capacity_is, K.passed_is, K.book_is) at (C.on_sound K.sound K.limit_is K.passed_held)
  for_side Returned C = rw (K.capacity_is, K.returned_is, K.book_is) at (C.on_sound K.sound K.limit_is K.returned_held)

  module _ {a : Added} (A : After capacity m nodes' lookup' cache' a) (w : Grown g.lot.book a.book) where
    same : (q : ℕ) (F : Family) → q ≤ t.store.count + 1 → at (book_of nodes t.store.count) q ≡ F → Stays m.store.count (book_of nodes' m.store.count) q F
    same q F l e = stays K.sound A (rw K.book_is w) q F l e

    -- the tally behind a line: what the two handles mean, the lines counted, and how the log goes on
    line_keeps : {p q n k : ℕ} {next : Reading} {P R : Family} {e : Ending} → Stays m.store.count (book_of nodes' m.store.count) p P → Stays m.store.count (book_of nodes' m.store.count) q R
        → n ≡ capped k → state_of next ≡ begin
        → Keeps capacity (record { store = m.store; passed = p; returned = q; lines = n; reading = next; ending = e }) nodes' lookup' cache' (record { lot = record { book = a.book; passed = P; returned = R }; lines = k; line = begin; ending = e })
    line_keeps p q e f =
        record {
          sound = A.sound;
          capacity_is = A.capacity_is;
          limit_is = A.limit_is;
          book_is = A.book_is;
          passed_held = p.held;
          passed_is = p.means;
          returned_held = q.held;
          returned_is = q.means;
          lines_is = e;
          line_is = f;
          ending_is = refl;
        }

    passed_stays : Stays m.store.count (book_of nodes' m.store.count) t.passed g.lot.passed
    passed_stays = same t.passed g.lot.passed K.passed_held K.passed_is

    returned_stays : Stays m.store.count (book_of nodes' m.store.count) t.returned g.lot.returned
    returned_stays = same t.returned g.lot.returned K.returned_held K.returned_is

    -- the store was full: the families stay
    full_keeps : {next : Reading} → state_of next ≡ begin
        → Keeps capacity (record t { store = m.store; reading = next; ending = Full }) nodes' lookup' cache' (record { lot = record { book = a.book; passed = g.lot.passed; returned = g.lot.returned }; lines = g.lines; line = begin; ending = Full })
    full_keeps f = line_keeps passed_stays returned_stays K.lines_is f

    -- one line more of a side: its handle is the one given, the other stays
    more_keeps : (d : Side) {q : Placement} {n : ℕ} (next : Reading) → m.answer ≡ Ok q → n ≡ capped (suc t.lines) → state_of next ≡ begin
        → Keeps capacity (with_handle d q.handle (record t { store = m.store; lines = n; reading = next; ending = Going })) nodes' lookup' cache'
        (record { lot = put_side d g.lot a.book a.family; lines = suc g.lines; line = begin; ending = Going })
    more_keeps d {q} {n} next e en f = go d
      where
        given : Stays m.store.count (book_of nodes' m.store.count) q.handle a.family
        given = let G = gives A e in record { held = G.inside; means = G.means }

        counts : n ≡ capped (suc g.lines)
        counts = en ∙ omega (arith, K.lines_is)

        go : (d : Side) → Keeps capacity (with_handle d q.handle (record t { store = m.store; lines = n; reading = next; ending = Going })) nodes' lookup' cache'
            (record { lot = put_side d g.lot a.book a.family; lines = suc g.lines; line = begin; ending = Going })
        go Passed = line_keeps given returned_stays counts f
        go Returned = line_keeps passed_stays given counts f

-- what is counted, by whether the store was full
module _ (g : Log) (a : Added) where
  pub side_full : (d : Side) → a.full ≡ true
      → record { lot = record { book = a.book; passed = g.lot.passed; returned = g.lot.returned }; lines = g.lines; line = begin; ending = Full } ≡ counted g (lot_after d g.lot a)
  side_full Passed e = rw e
  side_full Returned e = rw e

  pub side_more : (d : Side) → a.full ≡ false → record { lot = put_side d g.lot a.book a.family; lines = suc g.lines; line = begin; ending = Going } ≡ counted g (lot_after d g.lot a)
  side_more d e = rw e

-- the tally behind a line of a side, by what adding it gave
module _ {t : Tally} {m : Answered Placement} (next : Reading) where
  pub end_full : (d : Side) {x : Refusal} → m.answer ≡ Err x → state_of next ≡ begin → LineEnd t d m (record t { store = m.store; reading = next; ending = Full })
  end_full d e f =
      record {
        is = λ nodes lookup cache c nodes' lookup' cache' C. record {
          keeps = λ capacity g K.
              let A = for_side K d C in
              let w = added_grown capacity g.lot.book (of_side d g.lot) c in
              subst (λ y. Keeps capacity (record t { store = m.store; reading = next; ending = Full }) nodes' lookup' cache' y) (side_full g (added capacity g.lot.book (of_side d g.lot) c) d (refused_full A e)) (full_keeps K A w f);
        };
      }

  end_more : (d : Side) {q : Placement} {n : ℕ} → m.answer ≡ Ok q → n ≡ capped (suc t.lines) → state_of next ≡ begin
      → LineEnd t d m (with_handle d q.handle (record t { store = m.store; lines = n; reading = next; ending = Going }))
  end_more d {q} {n} e en f =
      record {
        is = λ nodes lookup cache c nodes' lookup' cache' C. record {
          keeps = λ capacity g K.
              let A = for_side K d C in
              let w = added_grown capacity g.lot.book (of_side d g.lot) c in
              subst (λ y. Keeps capacity (with_handle d q.handle (record t { store = m.store; lines = n; reading = next; ending = Going })) nodes' lookup' cache' y) (side_more g (added capacity g.lot.book (of_side d g.lot) c) d (gives A e).going) (more_keeps K A w d next e en f);
        };
      }

  module _ {d : Side} {q : Placement} {n : ℕ} where
    pub end_passed : d ≡ Passed → m.answer ≡ Ok q → n ≡ capped (suc t.lines) → state_of next ≡ begin
        → LineEnd t d m (record t { store = m.store; passed = q.handle; lines = n; reading = next; ending = Going })
    end_passed p e en f = rw p (end_more Passed e en f)

    pub end_returned : d ≡ Returned → m.answer ≡ Ok q → n ≡ capped (suc t.lines) → state_of next ≡ begin
        → LineEnd t d m (record t { store = m.store; returned = q.handle; lines = n; reading = next; ending = Going })
    end_returned p e en f = rw p (end_more Returned e en f)

pub line_added : {t : Tally} {nodes lookup cache : List ℕ} {f : ℕ} {c : List ℕ} {m : Answered Placement} {r : Tally} {nodes' lookup' cache' : List ℕ} (d : Side) → f ≡ side_handle d t
    → AddCall t.store nodes lookup cache f c m nodes' lookup' cache' → LineEnd t d m r → LineIt t nodes lookup cache d c r nodes' lookup' cache'
line_added d e C E = E.is _ _ _ _ _ _ _ (rw e at C)

-- one byte more of the line, whatever the ending was
pub record NextIt (t : Tally) (nodes lookup cache : List ℕ) (b : ℕ) (r : Tally) (nodes' lookup' cache' : List ℕ) : Type 0 where
  pub keeps : (capacity : ℕ) (g : Log) → Keeps capacity t nodes lookup cache g → Keeps capacity r nodes' lookup' cache' (read_on capacity g (next_byte g.line b) (next_byte g.line b).progress)

-- at a stage that is neither whole nor malformed a line goes on
going_on : (st : Stage) (q : Panel) → (st ≡ Stage.Whole → ⊥) → (st ≡ Stage.Malformed → ⊥) → (capacity : ℕ) (g : Log) (s : LineState)
    → read_on capacity g s (progress_of st q) ≡ record { lot = g.lot; lines = g.lines; line = s; ending = Going }
going_on Stage.Blank q w m capacity g s = refl
going_on Stage.Letter q w m capacity g s = refl
going_on Stage.Space q w m capacity g s = refl
going_on (Stage.Number n) q w m capacity g s = refl
going_on Stage.Whole q w m capacity g s = absurd (w refl)
going_on Stage.Malformed q w m capacity g s = absurd (m refl)

module _ {t : Tally} {nodes lookup cache : List ℕ} (b : ℕ) (next : Reading) (e : state_of next ≡ next_byte (state_of t.reading) b) where
  read_is : {capacity : ℕ} {g : Log} → Keeps capacity t nodes lookup cache g → state_of next ≡ next_byte g.line b
  read_is K = e ∙ ap (λ s. next_byte s b) K.line_is

  staged : {capacity : ℕ} {g : Log} → Keeps capacity t nodes lookup cache g → {st : Stage} → next.stage ≡ st → progress_of st next.panel ≡ (next_byte g.line b).progress
  staged K d = sym (ap (λ st. progress_of st next.panel) d) ∙ ap (λ s. s.progress) (read_is K)

  pub next_whole : {r : Tally} {nodes' lookup' cache' : List ℕ} → next.stage ≡ Stage.Whole → LineIt t nodes lookup cache next.panel.side (items_of next.panel.items.words) r nodes' lookup' cache' → NextIt t nodes lookup cache b r nodes' lookup' cache'
  next_whole {r} {nodes'} {lookup'} {cache'} d L =
      record { keeps = λ capacity g K. subst (λ p. Keeps capacity r nodes' lookup' cache' (read_on capacity g (next_byte g.line b) p)) (staged K d) (L.keeps capacity g K) }

  -- a line that is not whole, by how the log goes on
  next_read : (st : Stage) → next.stage ≡ st → (end : Ending) → ((capacity : ℕ) (g : Log) (s : LineState) → read_on capacity g s (progress_of st next.panel) ≡ record { lot = g.lot; lines = g.lines; line = s; ending = end })
      → NextIt t nodes lookup cache b (record t { reading = next; ending = end }) nodes lookup cache
  next_read st d end h =
      record {
        keeps = λ capacity g K.
            subst (λ x. Keeps capacity (record t { reading = next; ending = end }) nodes lookup cache x)
            (sym (h capacity g (next_byte g.line b)) ∙ ap (λ p. read_on capacity g (next_byte g.line b) p) (staged K d))
            (read_keeps K end (read_is K));
      }

  pub next_malformed : next.stage ≡ Stage.Malformed → NextIt t nodes lookup cache b (record t { reading = next; ending = Refused }) nodes lookup cache
  next_malformed d = next_read Stage.Malformed d Refused (λ capacity g s. refl)

  pub next_going : (next.stage ≡ Stage.Whole → ⊥) → (next.stage ≡ Stage.Malformed → ⊥) → t.ending ≡ Going → NextIt t nodes lookup cache b (record t { reading = next }) nodes lookup cache
  next_going w m h = rw (← h) at (next_read next.stage refl Going (λ capacity g s. going_on next.stage next.panel w m capacity g s))

stopped : (x : Ending) → (x ≡ Going → ⊥) → (u w : Log) → while_going x u w ≡ w
stopped Ending.Going k u w = absurd (k refl)
stopped Ending.Refused k u w = refl
stopped Ending.Full k u w = refl

-- one byte, by whether the log goes on
module _ {t : Tally} {nodes lookup cache : List ℕ} {b : ℕ} where
  pub byte_going : {r : Tally} {nodes' lookup' cache' : List ℕ} → t.ending ≡ Going → NextIt t nodes lookup cache b r nodes' lookup' cache' → TakeCall t nodes lookup cache (b ∷ []) r nodes' lookup' cache'
  unfolding log_byte
  byte_going {r} {nodes'} {lookup'} {cache'} e N =
      record {
        keeps = λ capacity g K.
            subst (λ x. Keeps capacity r nodes' lookup' cache' (while_going x (read_on capacity g (next_byte g.line b) (next_byte g.line b).progress) g)) (sym e ∙ K.ending_is) (N.keeps capacity g K);
      }

  -- a log that ended, either way
  pub byte_ended : (t.ending ≡ Going → ⊥) → TakeCall t nodes lookup cache (b ∷ []) t nodes lookup cache
  unfolding log_byte
  byte_ended k =
      record {
        keeps = λ capacity g K.
            subst (λ y. Keeps capacity t nodes lookup cache y)
            (sym (stopped t.ending k (read_on capacity g (next_byte g.line b) (next_byte g.line b).progress) g) ∙ ap (λ y. while_going y (read_on capacity g (next_byte g.line b) (next_byte g.line b).progress) g) K.ending_is) K;
      }
