-- What an answer says of the book: a handle that a call took means the same family in the book after the whole list, one
-- that it gave is its family's number there, a number that it told is that of the handle's family there, and a family
-- that the book holds is placed for no new node. An answer is that of the book before its call, and the book only grows.
use Prim.Native.Nat.{ℕ, ◌+◌, ◌≤◌, ◌<◌}
use mathlib.Core.Path.{◌≡◌, sym, ap, ◌∙◌}
use mathlib.Core.Bool.{cond}
use mathlib.Core.List.{List, [], ◌∷◌}
use native.Mathlib.Omega.{arith}
use lib.Dec.{eqb, ltb}
use lib.ListN.{length}
use Rattle.words.specs.Words.{most}
use Rattle.words.proofs.Cases.{by_test, by_eq}
use Rattle.family.specs.Family.{Family}
use Rattle.family.specs.Book.{start, at, number, place, Grown, Book}
use Rattle.family.proofs.Books.{grown_self, grown_trans, grown_length, grown_at}
use Rattle.store.specs.Placing.{too_large}
use Rattle.store.proofs.Holding.{held_answer}
use Rattle.lists.specs.Calls.{Call, Number, Tells, Answer, gives, tells, Answered, here, later}
use Rattle.lists.specs.Acts.{place_returns, count}
use Rattle.lists.specs.Books.{Bounds, book_answer, book_after, answers_from, book_from}
use Rattle.lists.proofs.Placings.{TakesFamily, book_refused, book_full, book_placed}
use Rattle.lists.proofs.Growth.{Numbered, placed_held, book_grown}

-- a call and its answer, at some book on the way from one book to another
pub record Between (bounds : Bounds) (call : Call) (answer : Answer) (B C : List Family) : Type 0 where
  pub before : List Family
  pub begun : Grown B before
  pub answer_is : answer ≡ book_answer bounds before call
  pub after : Grown (book_after bounds before call) C

pub between : (bounds : Bounds) {call : Call} {answer : Answer} {calls : List Call} {answers : List Answer} (B : List Family) → Answered call answer calls answers → answers ≡ answers_from bounds B calls
    → Between bounds call answer B (book_from bounds B calls)
between bounds {call} {answer} B (here {calls = calls}) e =
    let is : answer ≡ book_answer bounds B call = cc in
    record { before = B; begun = grown_self B; answer_is = is; after = book_grown bounds (book_after bounds B call) calls }
between bounds B (later {c = c} {calls = calls} {answers = answers} found) e =
    let rest : answers ≡ answers_from bounds (book_after bounds B c) calls = cc in
    let N = between bounds (book_after bounds B c) found rest in
    record { before = N.before; begun = grown_trans (book_grown bounds B (c ∷ [])) N.begun; answer_is = N.answer_is; after = N.after }

-- a handle that stood in the book before a call
module _ {bounds : Bounds} {call : Call} {answer : Answer} {C : List Family} (N : Between bounds call answer start C) {p : ℕ} (l : p ≤ count N.before + 1) where
  stood : p < length N.before
  stood = omega (arith, grown_length N.begun)

  onward : Grown N.before C
  onward = grown_trans (book_grown bounds N.before (call ∷ [])) N.after

  pub still_held : p < length C
  still_held = omega (arith, stood, grown_length onward)

  pub still_means : at C p ≡ at N.before p
  still_means = grown_at onward p stood

-- what a call answers that asks a number of a family: what its tests find, else 6, else the number
abbrev pub told_by : ℕ → ℕ → Answer
told_by tests n =
    let refusal = cond (eqb tests 0) (cond (ltb most n) 6 0) tests in
    record { refusal = refusal; value = Tells (Number (cond (eqb refusal 0) n 0)) }

told_tested : (tests n : ℕ) {m : ℕ} → tells m ≡ told_by tests n → tests ≡ 0
told_tested tests n e = by_eq tests 0 (λ z t. z) (λ z t. absurd (z (rw t at (sym (ap (λ a. a.refusal) e)))))

told_number : (n : ℕ) {m : ℕ} → tells m ≡ told_by 0 n → m ≡ n
told_number n e =
    by_test (ltb most n)
    (λ t. absurd (omega (arith, rw t at (ap (λ a. a.refusal) e))))
    (λ t. let v = rw t at (ap (λ a. a.value) e) in cc)

-- a call that asks a number of what the handle p means, which its tests look for
pub record Asks (bounds : Bounds) (call : Call) (p : ℕ) (what : Family → ℕ) : Type 0 where
  pub tests : List Family → ℕ
  pub held : (B : List Family) → tests B ≡ 0 → p ≤ count B + 1
  pub told : (B : List Family) → book_answer bounds B call ≡ told_by (tests B) (what (at B p))

-- the number that it was told, in every later book
module _ {bounds : Bounds} {call : Call} {p : ℕ} {what : Family → ℕ} (A : Asks bounds call p what) {n : ℕ} where
  told_in : {C : List Family} → Between bounds call (tells n) start C → n ≡ what (at C p)
  told_in N =
      let e = N.answer_is ∙ A.told N.before in
      let z = told_tested (A.tests N.before) (what (at N.before p)) e in
      told_number (what (at N.before p)) (e ∙ ap (λ t. told_by t (what (at N.before p))) z) ∙ ap what (sym (still_means N (A.held N.before z)))

  pub told_after : {calls : List Call} {answers : List Answer} → Answered call (tells n) calls answers → answers ≡ answers_from bounds start calls → n ≡ what (at (book_from bounds start calls) p)
  told_after found e = told_in (between bounds start found e)

-- a call that takes the family F
module _ {bounds : Bounds} {B : List Family} {call : Call} {n : ℕ} {F : Family} (K : TakesFamily bounds B call n F) where
  -- where it gave a handle, nothing refused it, and the handle is F's number from then on
  module _ {h added : ℕ} (e : gives h added ≡ book_answer bounds B call) where
    pub unrefused : n ≡ 0
    unrefused = by_eq n 0 (λ z t. z) (λ z t. absurd (z (sym (ap (λ a. a.refusal) (e ∙ (book_refused K z).answers)))))

    pub numbered : Grown start B → Numbered (book_after bounds B call) F h
    numbered s =
        by_test (too_large bounds.capacity B F)
        (λ f. absurd (omega (arith, ap (λ a. a.refusal) (e ∙ (book_full K unrefused f).answers))))
        (λ f. let D = book_placed K unrefused f in
        let v = ap (λ a. a.value) (e ∙ D.answers) in
        let is : number (place B F) F ≡ h = cc in
        rw D.does record { held = placed_held B F s; is = is })

  -- where nothing refuses it and the book holds F, it gives F's number
  pub held_given : {limit h : ℕ} → Book limit B → n ≡ 0 → Numbered B F h → book_answer bounds B call ≡ gives h 0
  unfolding book_answer
  held_given book z N = rw (K.act, z) (ap place_returns (held_answer B F book N.held bounds.capacity) ∙ ap (λ k. gives k 0) N.is)
