-- Each way out of the whole test, and Audit's promise.
-- The tests passed are the rules of a sound store: the nodes' own slots and the used slots say that the lookup is
-- what entering gives and that no two nodes have equal words; and in a sound store every test passes.
use Prim.Native.Nat.{ℕ, ◌*◌, ◌/◌, ◌<◌}
use mathlib.Core.Path.{◌≡◌, refl}
use mathlib.Core.Bool.{Bool, true, false}
use mathlib.Core.List.{List}
use native.Mathlib.Omega.{arith}
use lib.ListN.{length}
use Rattle.words.specs.Words.{zeroed}
use Rattle.words.proofs.Cases.{by_test, clash}
use Rattle.table.specs.Entered.{used}
use Rattle.table.proofs.OwnSlots.{Distinct, Items}
use Rattle.store.specs.declared.record.Store.{Store}
use Rattle.store.specs.Capacity.{fitting}
use Rattle.store.specs.Words.{book_of}
use Rattle.store.specs.Cache.{True}
use Rattle.store.specs.Sound.{Sound}
use Rattle.store.proofs.Fitting.{fits_true}
use Rattle.store.proofs.Sounds.{zeroed_true}
use Rattle.store_audit.specs.Promise.{AuditCall}
use Rattle.store_audit.specs.Inner.{Decides, NodesTo, Blank}
use Rattle.store_audit.specs.Inner.{TellsSound}
use Rattle.store_audit.proofs.Entering.{is_entered, are_distinct, entered_used, entered_own}

module _ (s : Store) (nodes lookup : List ℕ) where
  pub tells_no : ((cache : List ℕ) → Sound s nodes lookup cache → ⊥) → TellsSound s nodes lookup false
  tells_no d = record { says_yes = λ e. clash e refl; says_no = λ e. d }

  -- a sound store passes each test
  module _ {cache : List ℕ} (S : Sound s nodes lookup cache) where
    shorter : s.count < length lookup
    shorter = omega (arith, S.within, S.longer)

    pub sound_used : used lookup ≡ s.count
    sound_used = entered_used nodes lookup s.count shorter S.lookup_is

    pub sound_blank : Blank nodes (3 * s.count) (3 * s.capacity)
    sound_blank = record { is = S.blank }

    distinct : Distinct nodes s.count
    distinct = record { apart = λ j k f h w. S.apart j k f h w.item_is w.zero_is w.one_is }

    items : Items nodes s.count
    items = record { low = λ k h. omega (arith, (S.each k h).zero_below); high = λ k h. omega (arith, (S.each k h).item_limit, S.limit_low) }

    pub sound_nodes : NodesTo s.limit nodes lookup s.count
    sound_nodes = record { each = S.each; own = entered_own nodes lookup s.count shorter S.lookup_is distinct items }

  -- a store that passes each test is sound
  pub tells_last : (r : Bool) → fitting s (length nodes) (length lookup) ≡ true → used lookup ≡ s.count → Blank nodes (3 * s.count) (3 * s.capacity)
      → Decides (NodesTo s.limit nodes lookup s.count) r → TellsSound s nodes lookup r
  tells_last r e many blank d = record { says_yes = λ p. sound (d.says_yes p); says_no = λ p cache S. d.says_no p (sound_nodes S) }
    where
      sound : NodesTo s.limit nodes lookup s.count → (cache : List ℕ) → True s.limit (book_of nodes s.count) cache → Sound s nodes lookup cache
      sound N cache T =
          let f = fits_true s (length nodes) (length lookup) e in
          let g : s.count < length lookup = omega (arith, f.longer, f.within) in
          record {
            capacity_is = f.is;
            longer = f.longer;
            within = f.within;
            limit_some = f.limit_is.0;
            limit_low = f.limit_is.1;
            each = N.each;
            apart = λ j k l h a b c. (are_distinct nodes lookup s.count g N.own many).apart j k l h (record { item_is = a; zero_is = b; one_is = c });
            blank = blank.is;
            lookup_is = is_entered nodes lookup s.count g N.own many;
            cached = T;
          }

  pub audit_call : (cache cache' : List ℕ) (r : Bool) → cache' ≡ zeroed 0 (length cache / 4 * 4) cache → TellsSound s nodes lookup r → AuditCall s nodes lookup cache (record { store = s; sound = r }) cache'
  audit_call cache cache' r e t =
      record {
        cache_is = e;
        sound_yes = λ S. by_test r (λ p. p) (λ p. absurd (t.says_no p cache' S));
        yes_sound = λ p. t.says_yes p cache' (rw e (zeroed_true (book_of nodes s.count) cache));
        store_is = refl;
      }
