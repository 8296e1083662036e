-- Each step of a list: the call answers as the book does, and leaves what the book has after it.
-- A call's promise gives the answer of the book that the store holds, and the placing calls the words of the next.
use Prim.Native.Nat.{ℕ, ◌*◌, ◌/◌}
use mathlib.Core.Path.{◌≡◌, refl, ap, ◌∙◌}
use mathlib.Core.Bool.{Bool}
use mathlib.Core.List.{List, [], ◌++◌}
use native.Mathlib.Omega.{arith}
use lib.Dec.{eqb}
use lib.ListN.{length, take, drop}
use lib.Seq.{take-append_seam}
use Rattle.words.proofs.Cases.{by_test}
use Rattle.words.proofs.Zeroed.{zeroed_length, zeroed_drop}
use Rattle.family.specs.Family.{Family}
use Rattle.family.specs.Combination.{items_of}
use Rattle.family.specs.Book.{at}
use Rattle.family.specs.File.{file_of}
use Rattle.family.proofs.Books.{grown_self}
use Rattle.store.specs.declared.record.Store.{Store}
use Rattle.store.specs.declared.record.Placement.{Placement}
use Rattle.store.specs.declared.record.Answered.{Answered}
use Rattle.store.specs.Refusals.{given_by}
use Rattle.store.specs.Words.{book_of}
use Rattle.store.specs.Cache.{True}
use Rattle.store.specs.Sound.{Sound}
use Rattle.store.proofs.Sounds.{zeroed_true, sound_with, bare}
use Rattle.op_promise.specs.Promise.{OperationCall, number_of}
use Rattle.op_parity.specs.Promise.{ParityCall}
use Rattle.query_size.specs.Promise.{SizeGiven, SizeEntry, by_node, by_part, size_answer}
use Rattle.query_has.specs.Promise.{has_given_by, has_answer, HasCall}
use Rattle.query_weight.specs.Promise.{Way, weight_given_by, weight_answer, WeightCall}
use Rattle.file_save.specs.Promise.{save_given_by, save_refusal, save_answer, save_output, SaveCall}
use Rattle.file_load.specs.Promise.{LoadCall}
use Rattle.store_audit.specs.declared.audit.Audited.{Audited}
use Rattle.store_audit.specs.Promise.{AuditCall}
use Rattle.op_promise.specs.declared.Operation.{Operation}
use Rattle.lists.specs.Calls.{Call, Operate, Parity, Size, Has, Weigh, Save, Load, Audit, Answer}
use Rattle.lists.specs.Acts.{place_returns, size_returns, has_returns, weight_returns, save_returns, audit_returns, Saves, act_answer, stays}
use Rattle.lists.specs.Books.{Bounds, book_answer, book_effect}
use Rattle.lists.specs.Runs.{State, same_words, with_part, Step, operates, parts, sizes, sizes_by_part, asks, weighs, saves, loads, audits}
use Rattle.lists.proofs.Lending.{joined_true}
use Rattle.lists.proofs.Invariant.{Inv, BookStep, count_is}
use Rattle.lists.proofs.Placings.{place_step}

-- the front of Save's output, as long as Save says, is the file
save_answers : (capacity : ℕ) (B : List Family) (p words : ℕ) (out : List ℕ)
    → save_returns (save_answer B p words (length out)) (save_output B p words out) ≡ act_answer capacity B (Saves (save_refusal B p words (length out)) (at B p))
unfolding save_answer save_output
save_answers capacity B p words out =
    by_test (eqb (save_refusal B p words (length out)) 0)
    (λ t. rw (t, take-append_seam (file_of (at B p)) (drop (length (file_of (at B p))) out)))
    (λ t. rw t)

module _ {bounds : Bounds} {slots : ℕ} {B : List Family} {x : State} (I : Inv bounds slots B x) where
  operate_step : (lent : ℕ) {op : Operation} {p q : ℕ} {r : Answered Placement} {nodes lookup part : List ℕ}
      → OperationCall (number_of op) p q x.store x.nodes x.lookup (take lent x.cache) r nodes lookup part
      → BookStep bounds slots B (Operate op p q) (place_returns (given_by r.answer)) (with_part x lent r.store nodes lookup part)
  operate_step lent P = place_step (record { act = rw (← count_is I, ← I.limit_is) refl }) I lent (rw I.book_is at P)

  parity_step : (lent : ℕ) {even : Bool} {p : ℕ} {r : Answered Placement} {nodes lookup part : List ℕ}
      → ParityCall even p x.store x.nodes x.lookup (take lent x.cache) r nodes lookup part
      → BookStep bounds slots B (Parity even p) (place_returns (given_by r.answer)) (with_part x lent r.store nodes lookup part)
  parity_step lent P = place_step (record { act = rw (← count_is I) refl }) I lent (rw I.book_is at P)

  load_step : (lent : ℕ) {file scratch : List ℕ} {r : Answered Placement} {nodes lookup part scratch' : List ℕ}
      → LoadCall x.store x.nodes x.lookup (take lent x.cache) file scratch r nodes lookup part scratch'
      → BookStep bounds slots B (Load file (length scratch)) (place_returns (given_by r.answer)) (with_part x lent r.store nodes lookup part)
  load_step lent P = place_step (record { act = rw (← I.limit_is) refl }) I lent P.places

  -- the store with no cache
  pub no_cache : Sound x.store x.nodes x.lookup []
  no_cache = bare I.sound

  -- a call that writes no store word, hands the record back as it came and answers by the book that the words hold
  query_step : (call : Call) (told : List Family → Answer) {answer : Answer} {s : Store} → book_effect bounds B call ≡ stays → told B ≡ book_answer bounds B call
      → answer ≡ told (book_of x.nodes x.store.count) → s ≡ x.store → BookStep bounds slots B call answer (same_words x s)
  query_step call told t b a e = record { answer_is = a ∙ ap told I.book_is ∙ b; after = rw (e, t) I }

  -- either entry of Size
  size_step : (entry : SizeEntry) {p scratch : ℕ} {given : SizeGiven} {s : Store} → given ≡ size_answer entry (book_of x.nodes x.store.count) p scratch → s ≡ x.store
      → BookStep bounds slots B (Size entry p scratch) (size_returns given) (same_words x s)
  unfolding book_answer book_effect
  size_step entry {p} {scratch} a e = query_step (Size entry p scratch) (λ X. size_returns (size_answer entry X p scratch)) refl refl (ap size_returns a) e

  has_step : {p : ℕ} (w : List ℕ) {r : Answered Bool} → HasCall x.store x.nodes x.lookup p (items_of w) r
      → BookStep bounds slots B (Has p w) (has_returns (has_given_by r.answer)) (same_words x r.store)
  unfolding book_answer book_effect
  has_step {p} w P = query_step (Has p w) (λ X. has_returns (has_answer X p (items_of w))) refl refl (ap has_returns (P.answer_is no_cache)) P.store_is

  weigh_step : {way : Way} {p : ℕ} {weights scratch scratch' : List ℕ} {r : Answered ℕ} → WeightCall way x.store x.nodes x.lookup p weights scratch r scratch'
      → BookStep bounds slots B (Weigh way p weights (length scratch)) (weight_returns (weight_given_by r.answer)) (same_words x r.store)
  unfolding book_answer book_effect
  weigh_step {way} {p} {weights} {scratch} P =
      query_step (Weigh way p weights (length scratch)) (λ X. weight_returns (weight_answer way X p weights (length scratch))) refl refl
      (ap weight_returns (P.answer_is no_cache)) P.store_is

  save_step : {p : ℕ} {scratch out scratch' out' : List ℕ} {r : Answered ℕ} → SaveCall x.store x.nodes x.lookup p scratch out r scratch' out'
      → BookStep bounds slots B (Save p (length scratch) (length out)) (save_returns (save_given_by r.answer) out') (same_words x r.store)
  unfolding book_answer book_effect
  save_step {p} {scratch} {out} {out' = out'} P =
      query_step (Save p (length scratch) (length out)) (λ X. save_returns (save_answer X p (length scratch) (length out)) (save_output X p (length scratch) out)) refl
      (save_answers bounds.capacity B p (length scratch) out)
      (ap (λ g. save_returns g out') (P.answer_is no_cache)
      ∙ ap (λ l. save_returns (save_answer (book_of x.nodes x.store.count) p (length scratch) (length out)) l) (P.out_is no_cache)) P.store_is

  audit_step : (lent : ℕ) {r : Audited} {part : List ℕ} → AuditCall x.store x.nodes x.lookup (take lent x.cache) r part
      → BookStep bounds slots B Audit (audit_returns r.sound) (with_part x lent r.store x.nodes x.lookup part)
  unfolding book_answer book_effect
  audit_step lent {r} {part} P =
      record {
        answer_is = ap audit_returns (P.sound_yes (sound_with part I.sound (true_of (book_of x.nodes x.store.count))));
        after = rw P.store_is record {
          sound = sound_with (part ++ drop lent x.cache) I.sound
              (joined_true (grown_self (book_of x.nodes x.store.count)) x.cache part lent long rest I.sound.cached (true_of (book_of x.nodes x.store.count)));
          book_is = I.book_is;
          capacity_is = I.capacity_is;
          limit_is = I.limit_is;
          slots_are = I.slots_are;
        };
      }
    where
      true_of : (C : List Family) → True x.store.limit C part
      true_of C = rw P.cache_is (zeroed_true C (take lent x.cache))

      long : length part ≡ length (take lent x.cache)
      long = ap length P.cache_is ∙ zeroed_length 0 (length (take lent x.cache) / 4 * 4) (take lent x.cache) (omega arith) (omega arith)

      rest : drop (length (take lent x.cache) / 4 * 4) part ≡ drop (length (take lent x.cache) / 4 * 4) (take lent x.cache)
      rest =
          ap (λ l. drop (length (take lent x.cache) / 4 * 4) l) P.cache_is
          ∙ zeroed_drop 0 (length (take lent x.cache) / 4 * 4) (take lent x.cache) (omega arith) (omega arith)

  pub step : {call : Call} {answer : Answer} {y : State} → Step x call answer y → BookStep bounds slots B call answer y
  step (operates lent {op = op} {p = p} {q = q} P) = operate_step lent {op = op} {p = p} {q = q} P
  step (parts lent {even = even} {p = p} P) = parity_step lent {even = even} {p = p} P
  step (sizes P) = size_step by_node (P.answer_is no_cache) P.store_is
  step (sizes_by_part P) = size_step by_part (P.answer_is no_cache) P.store_is
  step (asks {combination = w} P) = has_step w P
  step (weighs P) = weigh_step P
  step (saves P) = save_step P
  step (loads lent P) = load_step lent P
  step (audits lent P) = audit_step lent P
