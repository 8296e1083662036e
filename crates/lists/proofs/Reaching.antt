-- What every list of calls comes to: the store holds the book of the calls, and the answers are the book's; from it
-- each part of demand 3. By induction on the list: the store stays sound with its whole cache and holds the book of
-- the calls so far, so each promise speaks of that book.
use Prim.Native.Nat.{ℕ, ◌+◌, ◌≤◌}
use mathlib.Core.Path.{◌≡◌, refl, sym, ap}
use mathlib.Core.List.Memᴰ
use mathlib.Core.List.{List, [], ◌∷◌, ◌++◌, Memᴰ}
use mathlib.Core.Logic.{◌↔◌, ⊎_elim}
use native.Mathlib.Omega.{arith}
use lib.ListN.{length, take, length-append}
use lib.Seq.{take-nil, take_all, take-append-le}
use Rattle.words.proofs.Cases.{by_lt}
use Rattle.family.specs.Family.{Within}
use Rattle.family.specs.Book.{start, distinct}
use Rattle.family.proofs.Books.{grown_self, grown_length, grown_at, at_within}
use Rattle.store.specs.Words.{book_of}
use Rattle.store.proofs.Decoding.{sound_holds}
use Rattle.store.proofs.Held.{at_inj}
use Rattle.lists.specs.Calls.{Call, Answer}
use Rattle.lists.specs.Books.{Bounds, answers_from, book_from, answers_of, book_of_calls, Handout, first_handouts, handed_from, handed_out, all_parts, SavedFile, files_from, files_of}
use Rattle.lists.specs.Runs.{State, Opening, bounds_of, Step, Runs, fresh, next}
use Rattle.lists.specs.Demand3.{meaning}
use Rattle.lists.proofs.Invariant.{Inv, limit_low, book, size, count_fits, capacity_low, fresh_inv}
use Rattle.lists.proofs.Steps.{step}
use Rattle.lists.proofs.Growth.{numbered_at, book_append, book_snoc, answers_snoc, MadeBy, first_handed, handed_from_lem, handed_length, book_grown}
use Rattle.lists.proofs.Filing.{Filed, now_filed, files_snoc}

-- what a list of calls has come to
pub record Reached (bounds : Bounds) (slots : ℕ) (calls : List Call) (answers : List Answer) (x : State) : Type 0 where
  pub inv : Inv bounds slots (book_from bounds start calls) x
  pub answered : answers ≡ answers_from bounds start calls
  pub filed : (f : SavedFile) → Memᴰ f (files_from bounds start calls (answers_from bounds start calls)) → Filed f

more : {bounds : Bounds} {slots : ℕ} {calls : List Call} {answers : List Answer} {x y : State} {call : Call} {answer : Answer}
    → Reached bounds slots calls answers x → Step x call answer y → Reached bounds slots (calls ++ (call ∷ [])) (answers ++ (answer ∷ [])) y
more {bounds} {slots} {calls} {answers} {x} {y} {call} {answer} R s =
    let S = step R.inv s in
    record {
      inv = rw (book_snoc bounds start calls call) S.after;
      answered = rw (R.answered, S.answer_is) (sym (answers_snoc bounds start calls call));
      filed = λ f m. ⊎_elim (λ l. R.filed f l)
          (λ r. now_filed bounds (book_from bounds start calls) (book R.inv) (limit_low R.inv) (omega (arith, size R.inv, count_fits R.inv, capacity_low R.inv)) call f r)
          (Memᴰ.append_cases (files_from bounds start calls (answers_from bounds start calls)) (rw (files_snoc bounds start calls call) at m));
    }

pub reached : {o : Opening} {calls : List Call} {answers : List Answer} {x : State} → Runs o calls answers x → Reached (bounds_of o) (length o.lookup) calls answers x
reached {o} (fresh P e) = record { inv = fresh_inv o P e; answered = refl; filed = λ f m. absurd (Memᴰ.not-nil m) }
reached (next R s) = more (reached R) s

-- each beginning of a list is such a list
beginning : {o : Opening} {calls : List Call} {answers : List Answer} {x : State} → Runs o calls answers x
    → (length answers ≡ length calls) × ((n : ℕ) → (y : State) × Runs o (take n calls) (take n answers) y)
beginning (fresh P e) = (refl, λ n. rw (take-nil {A = Call} n, take-nil {A = Answer} n) (_, fresh P e))
beginning (next {calls = calls} {answers = answers} {y = y} {call = call} {answer = answer} R s) =
    let q = beginning R in
    let l : length (answers ++ (answer ∷ [])) ≡ length (calls ++ (call ∷ [])) = rw (length-append answers (answer ∷ []), length-append calls (call ∷ []), q.0) in (
      l,
      λ n. by_lt (length calls) n
          (λ h e. rw (take_all n (calls ++ (call ∷ [])) (omega (arith, length-append calls (call ∷ []))), take_all n (answers ++ (answer ∷ [])) (omega (arith, length-append calls (call ∷ [])))) (y, next R s))
          (λ h e. rw (take-append-le n calls (call ∷ []) h, take-append-le n answers (answer ∷ []) (omega (arith, q.0))) (q.1 n)),
    )

pub beginnings : {o : Opening} {calls : List Call} {answers : List Answer} {x : State} → Runs o calls answers x
    → (n : ℕ) → (y : State) × Runs o (take n calls) (take n answers) y
beginnings run = (beginning run).1

module _ {bounds : Bounds} {slots : ℕ} {calls : List Call} {answers : List Answer} {x : State} (R : Reached bounds slots calls answers x) where
  pub held_is : book_of x.nodes x.store.count ≡ book_of_calls bounds calls
  unfolding book_of_calls
  held_is = R.inv.book_is

  -- a handle's family is the book's
  pub means_within : (h : ℕ) → Within bounds.limit (meaning x h)
  means_within h = at_within (book_of x.nodes x.store.count) (rw R.inv.limit_is at (sound_holds R.inv.sound).book) h

  pub handles_equal : (h k : ℕ) → h ≤ x.store.count + 1 → k ≤ x.store.count + 1 → (h ≡ k) ↔ (meaning x h ≡ meaning x k)
  handles_equal h k l m = (λ e. ap (λ j. meaning x j) e, λ e. at_inj (sound_holds R.inv.sound) h k (omega arith) (omega arith) e)

  handed : MadeBy (book_from bounds start calls) (handed_from bounds start first_handouts calls)
  handed = handed_from_lem bounds start first_handouts calls (grown_self start) first_handed

  pub counts : x.store.count ≡ length (distinct (all_parts (handed_out bounds calls)))
  unfolding handed_out
  counts = omega (arith, handed_length handed, size R.inv)

  pub keeps : (g : Handout) → Memᴰ g (handed_out bounds calls) → (g.handle ≤ x.store.count + 1) × (meaning x g.handle ≡ g.family)
  unfolding handed_out
  keeps g m =
      let N = handed.each g m in
      (omega (arith, N.held, N.is, size R.inv), rw R.inv.book_is (numbered_at N))

  pub files_filed : (f : SavedFile) → Memᴰ f (files_of bounds calls answers) → Filed f
  unfolding files_of
  files_filed f m = R.filed f (rw R.answered at m)

  pub lasts : (more : List Call) {theirs : List Answer} {y : State} → Reached bounds slots (calls ++ more) theirs y → (h : ℕ) → h ≤ x.store.count + 1 → (h ≤ y.store.count + 1) × (meaning y h ≡ meaning x h)
  lasts more Q h l =
      let g = rw (← book_append bounds start calls more) at (book_grown bounds (book_from bounds start calls) more) in
      (omega (arith, grown_length g, size R.inv, size Q.inv), rw (Q.inv.book_is, R.inv.book_is) (grown_at g h (omega (arith, size R.inv))))

  pub as_book : answers ≡ answers_of bounds calls
  unfolding answers_of
  as_book = R.answered
