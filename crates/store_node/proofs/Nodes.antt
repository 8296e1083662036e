-- Each way out of `make`: where the words hold a book the probe's slot tells whether the book holds the node, so it
-- is found, new at the book's end, or has no room, and never damaged.
-- A new node's words and slot give the words of the book with that node.
use Prim.Native.Nat.{ℕ, suc, ◌+◌, ◌*◌, ◌≤◌, ◌<◌}
use mathlib.Core.Path.{◌≡◌, refl, sym, ap, ◌∙◌}
use mathlib.Core.List.{List, [], ◌∷◌, ◌++◌}
use mathlib.Core.Logic.{⊎_elim}
use native.Mathlib.Omega.{arith}
use lib.ListN.{length, get_or, set, length-set}
use Rattle.family.specs.Family.{Family, node, Within}
use Rattle.family.specs.Book.{at}
use Rattle.table.specs.Probe.{probe_of, SlotOf}
use Rattle.table.specs.Entered.{entered, start_at}
use Rattle.store_node.specs.declared.unique.Made.TheVariants.{Found, New}
use Rattle.store.specs.declared.record.Unplaced.TheVariants.{Full, Damaged}
use Rattle.std.proofs.Common.{Option, Some, None, Result, Ok, Err}
use Rattle.std.specs.Option.{ok_or}
use Rattle.store.specs.declared.record.Unplaced.{Unplaced}
use Rattle.store_node.specs.declared.unique.Made.{Made}
use Rattle.store.specs.declared.record.Fill.{Fill}
use Rattle.store.specs.Inner.{Roomy, Holds, Handed, Kept, put_node}
use Rattle.store_node.specs.Inner.{found, new, full, MadeIt}
use Rattle.store.proofs.Extending.{holds_kept, next_is, extended}
use Rattle.store.proofs.Put.{put_length, put_below, put_above, put_has, put_entered}
use Rattle.store.proofs.Probing.{Present, Absent, probe_cases}
use Rattle.store.proofs.Growing.{kept_self}

-- the book with the new node, in the words with the new node
module _ {limit : ℕ} {B : List Family} {n : ℕ} {nodes lookup : List ℕ} (H : Holds limit B n nodes lookup) (i z o slot : ℕ) (lz : z < n + 2) (lo : o < n + 2) (w : Within limit (node i (at B z) (at B o)))
    (A : Absent B n nodes lookup i z o (node i (at B z) (at B o)) slot) (fits : 3 * n + 3 ≤ length nodes) where
  kept_book : Holds limit B n (put_node nodes n i z o) lookup
  kept_book = holds_kept (put_node nodes n i z o) lookup H (put_below nodes n i z o) H.lookup_is

  looked : set lookup slot (n + 2) ≡ entered (start_at (put_node nodes n i z o) (length (set lookup slot (n + 2)))) (length (set lookup slot (n + 2))) (suc n)
  looked =
      let len = length lookup in
      let t = entered (start_at nodes len) len n in
      rw (length-set lookup slot (n + 2))
      (ap (λ l. set l slot (n + 2)) H.lookup_is ∙ ap (λ x. set t x (n + 2)) A.first ∙ put_entered nodes n i z o fits len (omega (arith, A.here)))

  pub new_handed : Handed limit (B ++ (node i (at B z) (at B o) ∷ [])) (node i (at B z) (at B o)) (n + 2) (n + 1) (put_node nodes n i z o) (set lookup slot (n + 2))
  new_handed =
      let words = put_has nodes n i z o fits in
      record {
        holds = extended kept_book i z o words lz lo w A.lacks (set lookup slot (n + 2)) looked;
        within = omega arith;
        means = next_is kept_book i z o words lz lo w A.lacks;
      }

-- a search that gives no slot, or one, where an answer is made of it
pub slot_none : (slots : ℕ) {stop : ℕ} {e x : Unplaced} (o : Option ℕ) → SlotOf slots stop o → ◌≡◌ {A = Result ℕ Unplaced} (Err x) (ok_or o e) → (stop ≡ slots) × (x ≡ e)
slot_none slots None S q = (S, cc)
slot_none slots (Some k) S q = absurd (let z : ◌≡◌ {A = ℕ} 0 1 = cc in omega arith)

pub slot_some : (slots : ℕ) (e : Unplaced) {stop slot : ℕ} (o : Option ℕ) → SlotOf slots stop o → ◌≡◌ {A = Result ℕ Unplaced} (Ok slot) (ok_or o e) → slot ≡ stop
slot_some slots e None S q = absurd (let z : ◌≡◌ {A = ℕ} 0 1 = cc in omega arith)
slot_some slots e (Some k) S q = let same : k ≡ _ = cc in sym same ∙ S.is

-- the ways out
module _ (s : Fill) (nodes lookup : List ℕ) (i z o slot : ℕ) (R : Roomy s nodes lookup) (lz : z ≤ s.count + 1) (lo : o ≤ s.count + 1) (is : slot ≡ probe_of nodes lookup s.count i z o) where
  -- what the probe found, where the words hold a book
  cases : {A : Type 0} {limit : ℕ} (B : List Family) → Holds limit B s.count nodes lookup → (Present B s.count lookup (node i (at B z) (at B o)) slot → A)
      → (Absent B s.count nodes lookup i z o (node i (at B z) (at B o)) slot → A) → A
  cases B H f g =
      ⊎_elim (λ p. f (rw is p)) (λ a. g (rw is a)) (probe_cases H (omega (arith, R.within, R.longer)) i z o (omega arith) (omega arith))

  same : Kept s nodes lookup s nodes lookup
  same = kept_self s nodes lookup R.within

  pub made_damaged : ((limit : ℕ) (B : List Family) → Holds limit B s.count nodes lookup → ⊥) → MadeIt s nodes lookup i z o (Err Damaged) nodes lookup
  made_damaged f =
      record {
        kept = same;
        found_is = λ h e. absurd (let q : ◌≡◌ {A = ℕ} 0 1 = cc in omega arith);
        new_is = λ h e. absurd (let q : ◌≡◌ {A = ℕ} 0 1 = cc in omega arith);
        sound = λ B H w. absurd (f _ B H);
      }

  pub not_past : length lookup ≤ slot → (limit : ℕ) (B : List Family) → Holds limit B s.count nodes lookup → ⊥
  not_past l limit B H = cases B H (λ p. omega (arith, p.here)) (λ a. omega (arith, a.here))

  pub not_one : (get_or lookup slot 0 ≡ 0 → ⊥) → get_or lookup slot 0 < 2 → (limit : ℕ) (B : List Family) → Holds limit B s.count nodes lookup → ⊥
  not_one d l limit B H = cases B H (λ p. omega (arith, p.holds_it)) (λ a. d a.free)

  pub not_above : (get_or lookup slot 0 ≡ 0 → ⊥) → s.count + 1 < get_or lookup slot 0 → (limit : ℕ) (B : List Family) → Holds limit B s.count nodes lookup → ⊥
  not_above d l limit B H = cases B H (λ p. omega (arith, p.holds_it, p.below)) (λ a. d a.free)

  pub made_full : get_or lookup slot 0 ≡ 0 → s.capacity ≤ s.count → MadeIt s nodes lookup i z o (Err Full) nodes lookup
  made_full e l =
      record {
        kept = same;
        found_is = λ h d. absurd (let q : ◌≡◌ {A = ℕ} 0 1 = cc in omega arith);
        new_is = λ h d. absurd (let q : ◌≡◌ {A = ℕ} 0 1 = cc in omega arith);
        sound = λ B H w. cases B H (λ p. absurd (omega (arith, p.holds_it))) (λ a. full a.lacks (omega (arith, H.size)) H);
      }

  same_found : {g h : ℕ} → ◌≡◌ {A = Result Made Unplaced} (Ok (Found g)) (Ok (Found h)) → g ≡ h
  same_found e = cc

  same_new : {g h : ℕ} → ◌≡◌ {A = Result Made Unplaced} (Ok (New g)) (Ok (New h)) → g ≡ h
  same_new e = cc

  pub made_found : (get_or lookup slot 0 ≡ 0 → ⊥) → get_or lookup slot 0 ≤ s.count + 1 → MadeIt s nodes lookup i z o (Ok (Found (get_or lookup slot 0))) nodes lookup
  made_found d l =
      record {
        kept = same;
        found_is = λ h e. (omega (arith, same_found e), refl, refl);
        new_is = λ h e. absurd (let q : ◌≡◌ {A = ℕ} 0 1 = cc in omega arith);
        sound = λ B H w. cases B H (λ p. rw p.holds_it (found {h = p.k + 2} (record { holds = H; within = omega (arith, p.below); means = p.means }))) (λ a. absurd (d a.free));
      }

  pub made_new : (nodes' lookup' : List ℕ) → nodes' ≡ put_node nodes s.count i z o
      → lookup' ≡ set lookup slot (s.count + 2) → get_or lookup slot 0 ≡ 0 → s.count < s.capacity
      → MadeIt s nodes lookup i z o (Ok (New (s.count + 2))) nodes' lookup'
  made_new nodes' lookup' put entered e l =
      rw (put, entered) record {
        kept = record {
          same_capacity = refl;
          grows = omega arith;
          fits = omega arith;
          long = put_length nodes s.count i z o;
          long_lookup = length-set lookup slot (s.count + 2);
          below = put_below nodes s.count i z o;
          above = λ k h. put_above nodes s.count i z o k (omega arith);
        };
        found_is = λ h d. absurd (let q : ◌≡◌ {A = ℕ} 0 1 = cc in omega arith);
        new_is = λ h d. sym (same_new d);
        sound = λ B H w. cases B H (λ p. absurd (omega (arith, p.holds_it)))
            (λ a. new a.lacks (new_handed H i z o slot (omega arith) (omega arith) w a (omega (arith, R.words))));
      }
