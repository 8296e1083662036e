-- What Even and Odd of one family gave, over lists of calls: the statement is `PartedClaim` of specs/Parted.
-- After the list the two handles still mean the two parts; these share no member and together are the family, and the
-- book holds both {} and the family.
use Prim.Native.Nat.{ℕ, ◌+◌, ◌≤◌, ◌<◌}
use mathlib.Core.Path.{◌≡◌, refl, sym, ap, ◌∙◌}
use mathlib.Core.Bool.{Bool, not}
use mathlib.Core.List.{List}
use native.Mathlib.Omega.{arith}
use lib.ListN.{length}
use Rattle.family.specs.Family.{Family}
use Rattle.family.specs.Operation.{combine}
use Rattle.family.specs.Parity.{parity}
use Rattle.family.specs.Book.{start, at, Book}
use Rattle.family.proofs.Books.{number_empty, held_empty, held_at, at_within}
use Rattle.family.proofs.Parity.{parity_apart, parity_union}
use Rattle.store.specs.Operations.{rule, named}
use Rattle.store.proofs.Naming.{named_families, rule_4, rule_5}
use Rattle.store.proofs.Testing.{tests_clear, passes}
use Rattle.op_promise.specs.declared.Operation.{Operation}
use Rattle.op_promise.specs.declared.Operation.TheVariants.{Union, Intsec}
use Rattle.op_promise.specs.Promise.{operation_refusal, number_of}
use Rattle.op_promise.proofs.Refusing.{family_number}
use Rattle.op_parity.specs.Promise.{parity_refusal}
use Rattle.lists.specs.Calls.{Call, Operate, Parity, Answer, gives, Answered}
use Rattle.lists.specs.Acts.{count}
use Rattle.lists.specs.Books.{Bounds, book_answer, book_from}
use Rattle.lists.specs.Runs.{State, bounds_of}
use Rattle.lists.specs.Parted.{PartedClaim}
use Rattle.lists.proofs.Invariant.{book}
use Rattle.lists.proofs.Placings.{TakesFamily}
use Rattle.lists.proofs.Steps.{step}
use Rattle.lists.proofs.Growth.{Numbered, numbered_grown, numbered_at}
use Rattle.lists.proofs.Reaching.{Reached, reached}
use Rattle.lists.proofs.Answering.{Between, between, still_held, still_means, unrefused, numbered, held_given}

-- h means the even part of what p means, or the odd part
record PartOf (C : List Family) (even : Bool) (p h : ℕ) : Type 0 where
  family_held : p < length C
  part_held : h < length C
  is : at C h ≡ parity even (at C p)

-- the handle that Even or Odd gave, in every later book
module _ {bounds : Bounds} {even : Bool} {p h added : ℕ} {C : List Family} (N : Between bounds (Parity even p) (gives h added) start C) where
  takes : TakesFamily bounds N.before (Parity even p) (parity_refusal (count N.before) p) (parity even (at N.before p))
  takes = record { act = refl }

  inside : p ≤ count N.before + 1
  inside = (passes (count N.before) p 0 0 0 0 (unrefused takes N.answer_is)).first

  part_in : PartOf C even p h
  part_in =
      let part = numbered_grown N.after (numbered takes N.answer_is N.begun) in
      record {
        family_held = still_held N inside;
        part_held = omega (arith, part.held, part.is);
        is = numbered_at part ∙ ap (λ X. parity even X) (sym (still_means N inside));
      }

-- an operation on the two parts that names a family held
module _ (bounds : Bounds) {C : List Family} (book : Book bounds.limit C) {even : Bool} {p e o : ℕ} (E : PartOf C even p e) (O : PartOf C (not even) p o) where
  names : (op : Operation) {F : Family} {h : ℕ} → 4 ≤ number_of op → number_of op ≤ 6 → combine (rule (number_of op)) (parity even (at C p)) (parity (not even) (at C p)) ≡ F
      → Numbered C F h → book_answer bounds C (Operate op e o) ≡ gives h 0
  names op {F} l m is N = held_given joins book none N
    where
      none : operation_refusal (number_of op) bounds.limit (count C) e o ≡ 0
      none =
          family_number (number_of op) bounds.limit (count C) e o l
          ∙ tests_clear (count C) e o 0 0 0 (omega (arith, E.part_held)) (omega (arith, O.part_held)) refl (omega arith)

      named_is : named (number_of op) C e o ≡ F
      named_is = named_families (number_of op) C e o l m ∙ rw (E.is, O.is) is

      joins : TakesFamily bounds C (Operate op e o) (operation_refusal (number_of op) bounds.limit (count C) e o) F
      joins = record { act = rw named_is refl }

  shared_none : book_answer bounds C (Operate Intsec e o) ≡ gives 0 0
  shared_none =
      names Intsec (omega arith) (omega arith) (rw (rule_5 (number_of Intsec) refl) (parity_apart even (at C p) (at_within C book p).ordered))
      (record { held = held_empty C book; is = number_empty C book })

  joined_all : book_answer bounds C (Operate Union e o) ≡ gives p 0
  joined_all =
      names Union (omega arith) (omega arith) (rw (rule_4 (number_of Union) refl) (parity_union even (at C p) (at_within C book p).ordered))
      (record { held = held_at C book p E.family_held; is = book.unique p E.family_held })

part_after : {bounds : Bounds} {slots : ℕ} {calls : List Call} {answers : List Answer} {x : State} → Reached bounds slots calls answers x → {even : Bool} {p h added : ℕ}
    → Answered (Parity even p) (gives h added) calls answers → PartOf (book_from bounds start calls) even p h
part_after {bounds} R found = part_in (between bounds start found R.answered)

pub parted : PartedClaim
parted opening calls answers x run =
    let R = reached run in
    record {
      apart = λ even p e o added more first second s. (step R.inv s).answer_is ∙ shared_none (bounds_of opening) (book R.inv) (part_after R first) (part_after R second);
      whole = λ even p e o added more first second s. (step R.inv s).answer_is ∙ joined_all (bounds_of opening) (book R.inv) (part_after R first) (part_after R second);
    }
