-- A book in words: it stays in words that agree below the count, and it grows by the node whose words stand next.
-- The new family is not held, since a held one would be a node with the same words.
use Prim.Native.Nat.{ℕ, suc, ◌+◌, ◌*◌, ◌≤◌, ◌<◌}
use mathlib.Core.Path.{◌≡◌, refl, sym, ap, ◌∙◌}
use mathlib.Core.List.{List, [], ◌∷◌, ◌++◌}
use native.Mathlib.Omega.{arith}
use native.Mathlib.Numerals.{add-one}
use lib.ListN.{length, get_or, length-append}
use lib.Seq.{get_or_at}
use Rattle.family.specs.Family.{Family, empty, node, Within}
use Rattle.family.specs.Book.{at, number, Grown}
use Rattle.family.proofs.Books.{add_new, book_add, grown_at}
use Rattle.words.proofs.Cases.{by_eq}
use Rattle.table.specs.Entered.{entered, start_at}
use Rattle.table.proofs.Stops.{Has}
use Rattle.store.specs.Inner.{Entry, Holds}
use Rattle.store.proofs.Held.{inside, held}
use Rattle.store.proofs.Put.{entered_same}

-- words that agree below the count, with the lookup of their nodes
pub holds_kept : {limit : ℕ} {B : List Family} {n : ℕ} {nodes lookup : List ℕ} (nodes' lookup' : List ℕ) → Holds limit B n nodes lookup → ((k : ℕ) → k < 3 * n → get_or nodes' k 0 ≡ get_or nodes k 0)
    → lookup' ≡ entered (start_at nodes (length lookup')) (length lookup') n → Holds limit B n nodes' lookup'
holds_kept {B} {n} {nodes} nodes' lookup' H same e =
    record {
      limit_low = H.limit_low;
      book = H.book;
      size = H.size;
      each = λ k l. rw (same (3 * k) (omega arith), same (3 * k + 1) (omega arith), same (3 * k + 2) (omega arith)) (H.each k l);
      lookup_is = e ∙ entered_same nodes nodes' (length lookup') n same;
    }

module _ {limit : ℕ} {B : List Family} {n : ℕ} {nodes lookup : List ℕ} (H : Holds limit B n nodes lookup) (i z o : ℕ) (w : Has nodes n i z o) (lz : z < n + 2) (lo : o < n + 2)
    (within : Within limit (node i (at B z) (at B o))) (lacks : length B ≤ number B (node i (at B z) (at B o))) where
  grown : Grown B (B ++ (node i (at B z) (at B o) ∷ []))
  grown = record { new = node i (at B z) (at B o) ∷ []; eq = refl }

  old : (h : ℕ) → h < n + 2 → at (B ++ (node i (at B z) (at B o) ∷ [])) h ≡ at B h
  old h l = grown_at grown h (inside H h l)

  pub next_is : at (B ++ (node i (at B z) (at B o) ∷ [])) (n + 2) ≡ node i (at B z) (at B o)
  next_is = get_or_at B (node i (at B z) (at B o)) [] empty (n + 2) H.size

  entries : (k : ℕ) → k < n + 1 → Entry (B ++ (node i (at B z) (at B o) ∷ [])) k (get_or nodes (3 * k) 0) (get_or nodes (3 * k + 1) 0) (get_or nodes (3 * k + 2) 0)
  entries k l =
      by_eq k n
      (λ p e. rw (p, w.item_is, w.zero_is, w.one_is) record { is = next_is ∙ rw (old z lz, old o lo); zero_before = lz; one_before = lo })
      (λ p e.
      let E = H.each k (omega arith) in
      record {
        is = old (k + 2) (omega arith) ∙ E.is ∙ rw (old (get_or nodes (3 * k + 1) 0) (omega (arith, E.zero_before)), old (get_or nodes (3 * k + 2) 0) (omega (arith, E.one_before)));
        zero_before = E.zero_before;
        one_before = E.one_before;
      })

  pub extended : (lookup' : List ℕ) → lookup' ≡ entered (start_at nodes (length lookup')) (length lookup') (suc n) → Holds limit (B ++ (node i (at B z) (at B o) ∷ [])) (n + 1) nodes lookup'
  extended lookup' e =
      record {
        limit_low = H.limit_low;
        book = rw (← add_new B (node i (at B z) (at B o)) lacks) (book_add B i (at B z) (at B o) H.book within (held H z lz) (held H o lo));
        size = length-append B (node i (at B z) (at B o) ∷ []) ∙ omega (arith, H.size);
        each = entries;
        lookup_is = e ∙ ap (λ k. entered (start_at nodes (length lookup')) (length lookup') k) (sym (add-one n));
      }
