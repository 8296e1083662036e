-- Each way out of `enter`: where the local table holds a book, the probe's slot tells whether the book holds the
-- node, and a new node's words and slot give the table of the book with that node.
-- The laws are those of the store's own table.
use Prim.Native.Nat.{ℕ, ◌+◌, ◌*◌, ◌<◌}
use mathlib.Core.Path.{◌≡◌, refl}
use mathlib.Core.List.{List}
use mathlib.Core.Logic.{⊎_elim}
use native.Mathlib.Omega.{arith}
use lib.ListN.{length, get_or, set, length-set}
use Rattle.std.specs.Prelude.{⊤}
use Rattle.std.proofs.Common.{Some, None}
use Rattle.family.specs.Family.{Family, node}
use Rattle.family.specs.Book.{at}
use Rattle.table.specs.Probe.{probe_of}
use Rattle.store.specs.Inner.{put_node}
use Rattle.store.proofs.Held.{held}
use Rattle.store.proofs.Put.{put_length}
use Rattle.store.proofs.Probing.{Present, Absent, probe_cases}
use Rattle.store_node.proofs.Nodes.{new_handed}
use Rattle.file_table.specs.Inner.{Local, TableRoom, EnterOf}

-- the stores of a new node
pub stored : (nodes : List ℕ) (k i z o : ℕ) → set (set (set nodes (3 * k) i) (3 * k + 1) z) (3 * k + 2) o ≡ put_node nodes k i z o
unfolding put_node
stored nodes k i z o = refl

module _ {nodes lookup : List ℕ} {k i z o slot : ℕ} (room : TableRoom nodes lookup k) (is : slot ≡ probe_of nodes lookup k i z o) where
  -- what the probe found
  cases : {A : Type 0} {C : List Family} → Local C k nodes lookup → z < k + 2 → o < k + 2 → (Present C k lookup (node i (at C z) (at C o)) slot → A)
      → (Absent C k nodes lookup i z o (node i (at C z) (at C o)) slot → A) → A
  cases H lz lo f g = ⊎_elim (λ p. f (rw is p)) (λ a. g (rw is a)) (probe_cases H room.slots i z o lz lo)

  pub enter_past : slot ≡ length lookup → EnterOf nodes lookup k i z o None nodes lookup
  enter_past l =
      record {
        long = refl;
        long_lookup = refl;
        sound = λ C H lz lo w. cases H lz lo (λ p. absurd (omega (arith, p.here))) (λ a. absurd (omega (arith, a.here)));
      }

  pub enter_old : (get_or lookup slot 0 ≡ 0 → ⊥) → EnterOf nodes lookup k i z o None nodes lookup
  enter_old d =
      record {
        long = refl;
        long_lookup = refl;
        sound = λ C H lz lo w. cases H lz lo (λ p. rw p.means at (held H (p.k + 2) (omega (arith, p.below)))) (λ a. absurd (d a.free));
      }

  pub enter_new : get_or lookup slot 0 ≡ 0 → {nodes' : List ℕ} → nodes' ≡ put_node nodes k i z o → {u : ⊤} → EnterOf nodes lookup k i z o (Some u) nodes' (set lookup slot (k + 2))
  enter_new e put =
      rw put record {
        long = put_length nodes k i z o;
        long_lookup = length-set lookup slot (k + 2);
        sound = λ C H lz lo w. cases H lz lo (λ p. absurd (omega (arith, p.holds_it)))
            (λ a. record { new = a.lacks; table = (new_handed H i z o slot lz lo w a (omega (arith, room.words))).holds });
      }
