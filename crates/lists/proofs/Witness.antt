-- Every list of calls can be run: the statement is `WitnessClaim` of specs/Witness.
-- What a list has come to is a sound store, on which each call's promise can be kept; the theorem's own step then says
-- that the answer is the book's.
use Prim.Native.Nat.{ℕ}
use mathlib.Core.Path.{◌≡◌, refl, sym}
use mathlib.Core.List.{List, [], ◌∷◌, ◌++◌, append_assoc, append-nil}
use lib.ListN.{length, take, replicate}
use Rattle.words.proofs.Zeroed.{zeros_length}
use Rattle.family.specs.Family.{Family}
use Rattle.family.specs.Combination.{items_of}
use Rattle.family.specs.Book.{start, at}
use Rattle.family.specs.Parity.{parity}
use Rattle.family.proofs.Books.{at_within}
use Rattle.family.proofs.Parity.{within_parity}
use Rattle.store.specs.Words.{book_of}
use Rattle.store.specs.Operations.{named}
use Rattle.store.specs.Sound.{Sound}
use Rattle.store.proofs.Decoding.{sound_holds}
use Rattle.std.proofs.Common.{Ok}
use Rattle.store_fresh.specs.Promise.{fresh_leaves, fresh_of}
use Rattle.file_load.specs.Promise.{load_family}
use Rattle.op_promise.specs.Promise.{number_of}
use Rattle.query_size.specs.Promise.{SizeEntry, by_node, by_part}
use Rattle.query_weight.specs.Promise.{Way}
use Rattle.lists.specs.Calls.{Call, Operate, Parity, Size, Has, Weigh, Save, Load, Audit, Answer}
use Rattle.lists.specs.Books.{Bounds, book_answer, answers_of, book_of_calls}
use Rattle.lists.specs.Runs.{State, Opening, bounds_of, Step, operates, parts, sizes, sizes_by_part, asks, weighs, saves, loads, audits, Runs, fresh, next}
use Rattle.lists.specs.Witness.{WitnessClaim}
use Rattle.lists.proofs.Limits.{named_within}
use Rattle.lists.proofs.Acting.{load_within}
use Rattle.store.proofs.Sounds.{sound_with}
use Rattle.lists.proofs.Lending.{lent_true}
use Rattle.lists.proofs.Invariant.{Inv}
use Rattle.lists.proofs.Steps.{no_cache, step}
use Rattle.lists.proofs.Growth.{answers_snoc}
use Rattle.lists.proofs.Reaching.{reached}
use Rattle.lists.proofs.Numbers.{operation_refusing, parity_refusing, load_refusing}
use Rattle.lists.proofs.Promising.{place_kept, has_kept, audit_kept, size_kept, compact_kept, weight_kept, save_kept}

-- a step with some answer
data Steps (x : State) (call : Call) : Type 0 where
  taken : {answer : Answer} {y : State} → Step x call answer y → Steps x call

module _ {bounds : Bounds} {slots : ℕ} {B : List Family} {x : State} (I : Inv bounds slots B x) where
  -- the store with the part of the cache that is lent
  lent_sound : (lent : ℕ) → Sound x.store x.nodes x.lookup (take lent x.cache)
  lent_sound lent = sound_with (take lent x.cache) I.sound (lent_true x.cache lent I.sound.cached)

  -- one call, whatever part of the cache it is lent; scratch and output of the lengths that it says are there
  size_steps : (entry : SizeEntry) (p : ℕ) (scratch : List ℕ) → Steps x (Size entry p (length scratch))
  size_steps by_node p scratch = taken (sizes (size_kept (no_cache I) p scratch).call)
  size_steps by_part p scratch = taken (sizes_by_part (compact_kept (no_cache I) p scratch).call)

  weigh_steps : (way : Way) (p : ℕ) (weights scratch : List ℕ) → Steps x (Weigh way p weights (length scratch))
  weigh_steps way p weights scratch = taken (weighs (weight_kept (no_cache I) way p weights scratch).call)

  save_steps : (p : ℕ) (scratch out : List ℕ) → Steps x (Save p (length scratch) (length out))
  save_steps p scratch out = taken (saves (save_kept (no_cache I) p scratch out).call)

  load_steps : ℕ → (file scratch : List ℕ) → Steps x (Load file (length scratch))
  load_steps lent file scratch =
      let K = place_kept (load_family file) (lent_sound lent) (load_refusing x.store.limit file (length scratch)) (λ e. load_within x.store.limit file (length scratch) e) in
      taken (loads lent {scratch = scratch} {scratch' = scratch} (record { places = K.call; scratch_misfit = λ d. refl; scratch_short = λ d. refl; scratch_rest = refl; long = refl }))

  steps : ℕ → (call : Call) → Steps x call
  steps lent (Operate op p q) =
      let n = x.store.count in
      let book = (sound_holds I.sound).book in
      taken (operates lent (place_kept (named (number_of op) (book_of x.nodes n) p q) (lent_sound lent)
      (operation_refusing (number_of op) x.store.limit n p q) (λ e. named_within (number_of op) (book_of x.nodes n) book n p q e)).call)
  steps lent (Parity even p) =
      let n = x.store.count in
      let F = at (book_of x.nodes n) p in
      let w = at_within (book_of x.nodes n) (sound_holds I.sound).book p in
      taken (parts lent (place_kept (parity even F) (lent_sound lent) (parity_refusing n p) (λ e. within_parity even F w)).call)
  steps lent (Size entry p scratch) = rw (zeros_length scratch) at (size_steps entry p (replicate scratch 0))
  steps lent (Has p combination) = taken (asks (has_kept (no_cache I) p (items_of combination)).call)
  steps lent (Weigh way p weights scratch) = rw (zeros_length scratch) at (weigh_steps way p weights (replicate scratch 0))
  steps lent (Save p scratch output) = rw (zeros_length scratch, zeros_length output) at (save_steps p (replicate scratch 0) (replicate output 0))
  steps lent (Load file scratch) = rw (zeros_length scratch) at (load_steps lent file (replicate scratch 0))
  steps lent Audit = taken (audits lent (audit_kept (no_cache I) (take lent x.cache)))

  -- its answer is the book's
  answered : {call : Call} → Steps x call → (y : State) × Step x call (book_answer bounds B call) y
  answered (taken {y = y} s) = (y, rw (step I s).answer_is at s)

-- the whole cache is lent to each call
module _ (o : Opening) where
  follows : {calls : List Call} {answers : List Answer} {x : State} → Runs o calls answers x
      → (call : Call) → (y : State) × Step x call (book_answer (bounds_of o) (book_of_calls (bounds_of o) calls) call) y
  unfolding book_of_calls
  follows {x = x} run call = let I = (reached run).inv in answered I (steps I (length x.cache) call)

  goes_on : (done more : List Call) {x : State} → Runs o done (answers_of (bounds_of o) done) x
      → (y : State) × Runs o (done ++ more) (answers_of (bounds_of o) (done ++ more)) y
  unfolding answers_of book_of_calls
  goes_on done [] {x} run = rw (append-nil done) (x, run)
  goes_on done (call ∷ more) run =
      let q = follows run call in
      let onward = goes_on (done ++ (call ∷ [])) more {x = q.0} (rw (answers_snoc (bounds_of o) start done call) (next run q.1)) in
      rw (append_assoc done (call ∷ []) more) at onward

  begun : (fresh_of o.limit o.nodes o.lookup o.cache).refusal ≡ 0 → (x : State) × Runs o [] [] x
  begun e = (_, fresh {r = record { store = (fresh_of o.limit o.nodes o.lookup o.cache).store; answer = Ok tt }} (record { leaves_is = left }) refl)
    where
      left : fresh_leaves (record { store = (fresh_of o.limit o.nodes o.lookup o.cache).store; answer = Ok tt }) (fresh_of o.limit o.nodes o.lookup o.cache).nodes (fresh_of o.limit o.nodes o.lookup o.cache).lookup (fresh_of o.limit o.nodes o.lookup o.cache).cache
          ≡ fresh_of o.limit o.nodes o.lookup o.cache
      left =
          let l = fresh_of o.limit o.nodes o.lookup o.cache in
          λ i. record { refusal = sym e i; store = l.store; nodes = l.nodes; lookup = l.lookup; cache = l.cache }

  runs : (fresh_of o.limit o.nodes o.lookup o.cache).refusal ≡ 0 → (calls : List Call) → (x : State) × Runs o calls (answers_of (bounds_of o) calls) x
  unfolding answers_of
  runs e calls = goes_on [] calls (begun e).1

pub witness : WitnessClaim
witness o = record { follows = follows o; runs = runs o }
