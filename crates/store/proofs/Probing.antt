-- The probe for a node's words where the words hold a book: it finds the node's number where the book holds the node,
-- and else an empty slot.
-- The book holds the node exactly when some node has its words.
use Prim.Native.Nat.{ℕ, ◌+◌, ◌-◌, ◌≤◌, ◌<◌}
use mathlib.Core.Path.{◌≡◌, refl, sym, ap, ◌∙◌}
use mathlib.Core.List.{List}
use mathlib.Core.Logic.{◌⊎◌, inl, inr}
use native.Mathlib.Omega.{arith}
use lib.ListN.{length, get_or}
use Rattle.family.specs.Family.{Family, node}
use Rattle.family.specs.Book.{at, number}
use Rattle.family.proofs.Books.{number_at}
use Rattle.words.proofs.Cases.{by_lt}
use Rattle.table.specs.Start.{start_of}
use Rattle.table.specs.Probe.{probe_of}
use Rattle.table.specs.Entered.{entered, start_at, first_free}
use Rattle.table.proofs.Starts.{start_lt}
use Rattle.table.proofs.Stops.{Has}
use Rattle.table.proofs.Filled.{slot_at, length_entered, filled, first_free_lem, slot_lt, holds}
use Rattle.table.proofs.Found.{starts_in, found, missing}
use Rattle.store.specs.Inner.{Holds}
use Rattle.store.proofs.Held.{handle_of, node_handle, has_node, node_has, at_inj}

-- the slot holds the number of the node F
pub record Present (B : List Family) (n : ℕ) (lookup : List ℕ) (F : Family) (slot : ℕ) : Type 0 where
  pub k : ℕ
  pub below : k < n
  pub here : slot < length lookup
  pub holds_it : get_or lookup slot 0 ≡ k + 2
  pub means : at B (k + 2) ≡ F

-- the slot is the first empty one, and the book lacks F
pub record Absent (B : List Family) (n : ℕ) (nodes lookup : List ℕ) (i z o : ℕ) (F : Family) (slot : ℕ) : Type 0 where
  pub here : slot < length lookup
  pub free : get_or lookup slot 0 ≡ 0
  pub first : slot ≡ first_free (entered (start_at nodes (length lookup)) (length lookup) n) (start_of i z o (length lookup))
  pub lacks : length B ≤ number B F

module _ {limit : ℕ} {B : List Family} {n : ℕ} {nodes lookup : List ℕ} (H : Holds limit B n nodes lookup) (room : n < length lookup) where
  -- the lookup, as entered
  abbrev starts : ℕ → ℕ
  starts = start_at nodes (length lookup)

  abbrev table : List ℕ
  table = entered (start_at nodes (length lookup)) (length lookup) n

  some : 0 < length lookup
  some = omega arith

  read : (slot : ℕ) → get_or lookup slot 0 ≡ get_or table slot 0
  read slot = ap (λ l. get_or l slot 0) H.lookup_is

  module _ (i z o : ℕ) (lz : z < n + 2) (lo : o < n + 2) where
    probed : probe_of nodes lookup n i z o ≡ probe_of nodes table n i z o
    probed = ap (λ l. probe_of nodes l n i z o) H.lookup_is

    present : (k : ℕ) → k < n → at B (k + 2) ≡ node i (at B z) (at B o) → Present B n lookup (node i (at B z) (at B o)) (probe_of nodes lookup n i z o)
    present k l e =
        rw at_slot record {
          k = k;
          below = l;
          here = slot_lt starts (length lookup) (starts_in nodes (length lookup) some) k (omega arith);
          holds_it = read (slot_at starts (length lookup) k) ∙ holds starts (length lookup) (starts_in nodes (length lookup) some) n k l (omega arith);
          means = e;
        }
      where
        only : (j : ℕ) → j < n → Has nodes j i z o → k ≤ j
        only j m v = let q = at_inj H (j + 2) (k + 2) (omega arith) (omega arith) (has_node H j i z o m v ∙ sym e) in omega arith

        at_slot : probe_of nodes lookup n i z o ≡ slot_at starts (length lookup) k
        at_slot = probed ∙ found nodes (length lookup) some n (omega arith) n k i z o l (omega arith) (node_has H k i z o l lz lo e) only

    absent : length B ≤ number B (node i (at B z) (at B o)) → Absent B n nodes lookup i z o (node i (at B z) (at B o)) (probe_of nodes lookup n i z o)
    absent l =
        rw at_slot record {
          here = rw length_entered at free.0;
          free = read (first_free table (start_of i z o (length lookup))) ∙ free.1;
          first = refl;
          lacks = l;
        }
      where
        none : (k : ℕ) → k < n → Has nodes k i z o → ⊥
        none k m w =
            let e = has_node H k i z o m w in
            let q = handle_of H (k + 2) (omega arith) in
            omega (arith, ap (λ X. number B X) e, H.size)

        at_slot : probe_of nodes lookup n i z o ≡ first_free table (start_of i z o (length lookup))
        at_slot = probed ∙ missing nodes (length lookup) some n (omega arith) i z o none

        free : (first_free table (start_of i z o (length lookup)) < length table) × (get_or table (first_free table (start_of i z o (length lookup))) 0 ≡ 0)
        free =
            first_free_lem table (start_of i z o (length lookup)) (rw length_entered (start_lt i z o (length lookup) some))
            (rw (length_entered, filled starts (length lookup) (starts_in nodes (length lookup) some) n (omega arith)) room)

    pub probe_cases : Present B n lookup (node i (at B z) (at B o)) (probe_of nodes lookup n i z o) ⊎ Absent B n nodes lookup i z o (node i (at B z) (at B o)) (probe_of nodes lookup n i z o)
    probe_cases =
        by_lt (number B (node i (at B z) (at B o))) (length B)
        (λ l e. inl (at_number (number B (node i (at B z) (at B o))) l (number_at B (node i (at B z) (at B o)) l)))
        (λ l e. inr (absent l))
      where
        at_number : (h : ℕ) → h < length B → at B h ≡ node i (at B z) (at B o) → Present B n lookup (node i (at B z) (at B o)) (probe_of nodes lookup n i z o)
        at_number h l e =
            let g = node_handle H h i (at B z) (at B o) (omega (arith, H.size)) e in
            present (h - 2) (omega (arith, H.size)) (ap (λ k. at B k) (omega arith) ∙ e)
