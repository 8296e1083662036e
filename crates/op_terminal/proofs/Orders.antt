-- The order of operands and the terminal cases: what `ordered` and `shortcut` answer names the same family.
-- Each case is one law of the operations on families.
use Prim.Native.Nat.{◌≤◌}
use native.Mathlib.Omega.{arith}
use mathlib.Core.Path.{◌≡◌, refl, sym, ap, ◌∙◌}
use mathlib.Core.Logic.{inl, inr}
use Rattle.family.specs.Operation.{combine}
use Rattle.family.specs.Book.{at}
use Rattle.store.specs.Operations.{rule}
use Rattle.op_cache.specs.declared.Call.{Call}
use Rattle.op_terminal.specs.declared.families.SetOperation.{SetOperation}
use Rattle.op_terminal.specs.declared.families.SetOperation.TheVariants.{Union, Intsec, Diff}
use Rattle.op_terminal.specs.Inner.{OnFamilies, set_number, OrderedAs, Shortcut}
use Rattle.store.proofs.Naming.{named_families, families_swap, both_same, both_none, first_union, first_none, second_none, second_same}

pub on_families : (op : SetOperation) → OnFamilies (set_number op)
on_families Union = record { some = omega arith; low = omega arith }
on_families Intsec = record { some = omega arith; low = omega arith }
on_families Diff = record { some = omega arith; low = omega arith }

-- each number is one operation's
pub four : (op : SetOperation) → set_number op ≡ 4 → op ≡ Union
four Union e = refl
four Intsec e = absurd (omega arith)
four Diff e = absurd (omega arith)

pub five : (op : SetOperation) → set_number op ≡ 5 → op ≡ Intsec
five Union e = absurd (omega arith)
five Intsec e = refl
five Diff e = absurd (omega arith)

pub six : (op : SetOperation) → set_number op ≡ 6 → op ≡ Diff
six Union e = absurd (omega arith)
six Intsec e = absurd (omega arith)
six Diff e = refl

module _ (call : Call) (O : OnFamilies call.op) where
  l : 4 ≤ call.op
  l = O.some

  m : call.op ≤ 6
  m = O.low

  pub as_asked : OrderedAs call call
  as_asked = record { op_is = refl; operands = inl (refl, refl); named_is = λ B f g. refl }

  pub as_swapped : (call.op ≡ 6 → ⊥) → OrderedAs call (record { op = call.op; p = call.q; q = call.p })
  as_swapped n =
      record {
        op_is = refl;
        operands = inr (refl, refl);
        named_is = λ B f g.
            named_families call.op B call.q call.p l m
            ∙ families_swap call.op (at B call.q) (at B call.p) l m n g f
            ∙ sym (named_families call.op B call.p call.q l m);
      }

  pub same_none : call.p ≡ call.q → call.op ≡ 6 → Shortcut call 0
  same_none e s =
      record {
        one_of = inl refl;
        means = λ B z f g. z ∙ sym (named_families call.op B call.p call.q l m ∙ ap (λ k. combine (rule call.op) (at B call.p) (at B k)) (sym e) ∙ both_none call.op (at B call.p) s f);
      }

  pub same_same : call.p ≡ call.q → (call.op ≡ 6 → ⊥) → Shortcut call call.p
  same_same e s =
      record {
        one_of = inr (inl refl);
        means = λ B z f g. sym (named_families call.op B call.p call.q l m ∙ ap (λ k. combine (rule call.op) (at B call.p) (at B k)) (sym e) ∙ both_same call.op (at B call.p) l m s f);
      }

  pub empty_second : call.p ≡ 0 → call.op ≡ 4 → Shortcut call call.q
  empty_second e s =
      record {
        one_of = inr (inr refl);
        means = λ B z f g. sym (named_families call.op B call.p call.q l m ∙ ap (λ X. combine (rule call.op) X (at B call.q)) (ap (λ k. at B k) e ∙ z) ∙ first_union call.op (at B call.q) s g);
      }

  pub empty_none : call.p ≡ 0 → (call.op ≡ 4 → ⊥) → Shortcut call 0
  empty_none e s =
      record {
        one_of = inl refl;
        means = λ B z f g. z ∙ sym (named_families call.op B call.p call.q l m ∙ ap (λ X. combine (rule call.op) X (at B call.q)) (ap (λ k. at B k) e ∙ z) ∙ first_none call.op (at B call.q) l m s g);
      }

  pub none_second : call.q ≡ 0 → call.op ≡ 5 → Shortcut call 0
  none_second e s =
      record {
        one_of = inl refl;
        means = λ B z f g. z ∙ sym (named_families call.op B call.p call.q l m ∙ ap (λ X. combine (rule call.op) (at B call.p) X) (ap (λ k. at B k) e ∙ z) ∙ second_none call.op (at B call.p) s f);
      }

  pub first_second : call.q ≡ 0 → (call.op ≡ 5 → ⊥) → Shortcut call call.p
  first_second e s =
      record {
        one_of = inr (inl refl);
        means = λ B z f g. sym (named_families call.op B call.p call.q l m ∙ ap (λ X. combine (rule call.op) (at B call.p) X) (ap (λ k. at B k) e ∙ z) ∙ second_same call.op (at B call.p) l m s f);
      }
