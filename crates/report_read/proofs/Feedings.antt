-- What the reads of a log leave: by the answer of each, and turn by turn.
-- A read's answer has three cases; the bytes of all reads are one run, since feeding two runs is feeding the one
-- behind the other.
use Prim.Native.Nat.{ℕ, zero, suc, ◌+◌, min}
use mathlib.Core.Path.{◌≡◌, refl, sym, ap, subst, ◌∙◌}
use mathlib.Core.List.{List, [], ◌∷◌, ◌++◌, foldl-append, append_assoc, append-nil}
use native.Mathlib.Omega.{arith}
use lib.ListN.{length, take, length-append}
use Rattle.std.specs.Prelude.{Option, Some, None}
use Rattle.std.proofs.lemmas.List.{take_min}
use Rattle.report_tally.specs.declared.Tally.{Tally}
use Rattle.report_tally.specs.Log.{Log, opening}
use Rattle.report_tally.specs.Promise.{Keeps}
use Rattle.report_log.specs.Log.{log_byte, feed}
use Rattle.report_log.specs.Promise.{TakeCall}
use Rattle.report_read.specs.declared.Input.{Input}
use Rattle.report_read.specs.declared.Input.TheVariants.{More, Done, Failed}
use Rattle.report_read.specs.declared.Fed.{Fed}
use Rattle.report_read.specs.Answers.{Moved, ReadAnswer, brought_by, input_of, behind, input_after, Heard, none_heard, next_heard}
use Rattle.report_read.specs.Promise.{ReadCall, failed, ended, brought, Reads, none, turn, ReadAllCall}
use Rattle.report_read.specs.Inner.{OneRead}

-- one read, by what the reader answered
module _ {t : Tally} {nodes lookup cache buffer : List ℕ} where
  pub read_failed : {got : Option ℕ} → got ≡ None → ReadCall t nodes lookup cache buffer got (record { tally = t; input = Failed }) nodes lookup cache
  read_failed e = rw e failed

  pub read_ended : {got : Option ℕ} → got ≡ Some 0 → ReadCall t nodes lookup cache buffer got (record { tally = t; input = Done }) nodes lookup cache
  read_ended e = rw e ended

  pub read_brought : {got : Option ℕ} {k n : ℕ} → got ≡ Some k → (k ≡ 0 → ⊥) → n ≡ min k (length buffer) → {t' : Tally} {nodes' lookup' cache' : List ℕ} → TakeCall t nodes lookup cache (take n buffer) t' nodes' lookup' cache'
      → {i : Input} → i ≡ behind t'.ending → ReadCall t nodes lookup cache buffer got (record { tally = t'; input = i }) nodes' lookup' cache'
  read_brought {k = k} e d en {t'} {nodes'} {lookup'} {cache'} C {i} ei = rw e (go k d (rw (en, take_min k buffer) at C))
    where
      go : (k : ℕ) → (k ≡ 0 → ⊥) → TakeCall t nodes lookup cache (take k buffer) t' nodes' lookup' cache' → ReadCall t nodes lookup cache buffer (Some k) (record { tally = t'; input = i }) nodes' lookup' cache'
      go zero d C = absurd (d refl)
      go (suc k) d C = rw ei (brought k C)

  pub one_read : {got : Option ℕ} {n : ℕ} → Moved n got → length buffer ≡ n → {f : Fed} {nodes' lookup' cache' : List ℕ} → ReadCall t nodes lookup cache buffer got f nodes' lookup' cache'
      → OneRead t nodes lookup cache f nodes' lookup' cache'
  one_read {got} moved e C = record { answer = record { got = got; buffer = buffer; moved = subst (λ n. Moved n got) (sym e) moved }; taken = C }

-- the loop over the reads: before each turn the reads so far left more to read
pub record Onward (t₀ : Tally) (nodes₀ lookup₀ cache₀ nodes lookup cache : List ℕ) (f : Fed) (turns : ℕ) : Type 0 where
  pub more : f.input ≡ More
  pub answers : List ReadAnswer
  pub reads : Reads t₀ nodes₀ lookup₀ cache₀ answers f nodes lookup cache
  pub made : length answers ≡ turns

pub onward_start : (t : Tally) (nodes lookup cache : List ℕ) → Onward t nodes lookup cache nodes lookup cache (record { tally = t; input = More }) 0
onward_start t nodes lookup cache = record { more = refl; answers = []; reads = none; made = refl }

module _ {t₀ : Tally} {nodes₀ lookup₀ cache₀ nodes lookup cache : List ℕ} {f : Fed} {turns : ℕ} (I : Onward t₀ nodes₀ lookup₀ cache₀ nodes lookup cache f turns) where
  pub one_more : {f' : Fed} {nodes' lookup' cache' : List ℕ} → OneRead f.tally nodes lookup cache f' nodes' lookup' cache' → (f'.input ≡ More → ⊥)
      → ReadAllCall t₀ nodes₀ lookup₀ cache₀ f' nodes' lookup' cache'
  one_more O n =
      record { answers = I.answers ++ (O.answer ∷ []); reads = turn I.reads I.more O.answer O.taken; all_made = λ e. absurd (n e) }

  pub onward_again : {f' : Fed} {nodes' lookup' cache' : List ℕ} → OneRead f.tally nodes lookup cache f' nodes' lookup' cache' → f'.input ≡ More
      → Onward t₀ nodes₀ lookup₀ cache₀ nodes' lookup' cache' f' (turns + 1)
  onward_again O e =
      record {
        more = e;
        answers = I.answers ++ (O.answer ∷ []);
        reads = turn I.reads I.more O.answer O.taken;
        made = omega (arith, length-append I.answers (O.answer ∷ []), I.made);
      }

-- what a read leaves keeps the log fed with what it brought, and says how the input stands
read_keeps : {t : Tally} {nodes lookup cache buffer : List ℕ} {got : Option ℕ} {f : Fed} {nodes' lookup' cache' : List ℕ} → ReadCall t nodes lookup cache buffer got f nodes' lookup' cache'
    → (capacity : ℕ) (g : Log) → Keeps capacity t nodes lookup cache g → Keeps capacity f.tally nodes' lookup' cache' (feed capacity g (brought_by got buffer))
read_keeps failed capacity g K = K
read_keeps ended capacity g K = K
read_keeps (brought k C) capacity g K = C.keeps capacity g K

read_input : {t : Tally} {nodes lookup cache buffer : List ℕ} {got : Option ℕ} {f : Fed} {nodes' lookup' cache' : List ℕ} → ReadCall t nodes lookup cache buffer got f nodes' lookup' cache'
    → f.input ≡ input_after got f.tally.ending
read_input failed = refl
read_input ended = refl
read_input (brought k C) = refl

input_more : (qs : List ReadAnswer) (a : ReadAnswer) → input_of (qs ++ (a ∷ [])) ≡ input_of qs ++ brought_by a.got a.buffer
input_more [] a = append-nil (brought_by a.got a.buffer)
input_more (b ∷ qs) a = ap (λ l. brought_by b.got b.buffer ++ l) (input_more qs a) ∙ sym (append_assoc (brought_by b.got b.buffer) (input_of qs) (brought_by a.got a.buffer))

-- and so do all the reads of a log
module _ {t : Tally} {nodes lookup cache : List ℕ} (capacity : ℕ) (K : Keeps capacity t nodes lookup cache opening) where
  pub reads_keep : {qs : List ReadAnswer} {f : Fed} {nodes' lookup' cache' : List ℕ} → Reads t nodes lookup cache qs f nodes' lookup' cache'
      → Keeps capacity f.tally nodes' lookup' cache' (feed capacity opening (input_of qs))
  reads_keep none = K
  reads_keep (turn {qs} {f} R e a {f'} {nodes₂} {lookup₂} {cache₂} C) =
      subst (λ g. Keeps capacity f'.tally nodes₂ lookup₂ cache₂ g)
      (sym (ap (λ l. feed capacity opening l) (input_more qs a) ∙ foldl-append (log_byte capacity) opening (input_of qs) (brought_by a.got a.buffer)))
      (read_keeps C capacity (feed capacity opening (input_of qs)) (reads_keep R))

  pub reads_heard : {qs : List ReadAnswer} {f : Fed} {nodes' lookup' cache' : List ℕ} → Reads t nodes lookup cache qs f nodes' lookup' cache' → Heard capacity qs f.input
  reads_heard none = none_heard
  reads_heard (turn {qs} {f} R e a {f'} C) =
      subst (λ i. Heard capacity (qs ++ (a ∷ [])) i)
      (sym (read_input C ∙ ap (λ x. input_after a.got x) (reads_keep (turn R e a C)).ending_is))
      (next_heard (subst (λ i. Heard capacity qs i) e (reads_heard R)) a)
