-- A search for words in the lookup of n nodes finds the slot of the node that has them, and else the first empty slot.
-- A slot that stops the search before that would have been empty when the node was entered, or would hold an earlier
-- node with the same words.
use Rattle.std.proofs.Common.{◌≡◌, ℕ, ◌+◌, ◌*◌, ◌<◌, ◌≤◌, true, false, eqb, List, get_or, sym, ◌∙◌, ⊎_elim, arith, ne_eqb}
use Rattle.words.proofs.Cases.{by_test, by_lt}
use Rattle.table.specs.Start.{start_of}
use Rattle.table.specs.Probe.{scan, has_words, stop_on, probe_of}
use Rattle.table.specs.Entered.{empty_slot, first_free, entered, start_at}
use Rattle.table.proofs.Starts.{start_lt}
use Rattle.table.proofs.Scan.{scan_ext}
use Rattle.table.proofs.Stops.{Has, has_words_lem, words_has, stop_low, stops_past, stops_in}
use Rattle.table.proofs.Filled.{slot_at, Number, length_entered, slot_empty, holds, only, earlier, finds}

module _ (nodes : List ℕ) (len : ℕ) (some : 0 < len) where
  pub starts_in : (k : ℕ) → start_at nodes len k < len
  unfolding start_at
  starts_in k = start_lt (get_or nodes (3 * k) 0) (get_or nodes (3 * k + 1) 0) (get_or nodes (3 * k + 2) 0) len some

  pub start_of_lem : (j item z o : ℕ) → Has nodes j item z o → start_of item z o len ≡ start_at nodes len j
  unfolding start_at
  start_of_lem j item z o w = rw (← w.item_is, ← w.zero_is, ← w.one_is)

  module _ (n : ℕ) (fits : n ≤ len) where
    -- a search among the first c nodes, for words that node j has and none of those before it
    pub found_at : (c j item z o : ℕ) → j < n → j ≤ c → Has nodes j item z o → ((k : ℕ) → k < c → Has nodes k item z o → j ≤ k)
        → scan (λ x. stop_on nodes c item z o (get_or (entered (start_at nodes len) len n) x 0)) len len (start_at nodes len j) ≡ slot_at (start_at nodes len) len j
    found_at c j item z o h hc w first =
        finds (start_at nodes len) len starts_in (λ x. stop_on nodes c item z o (get_or (entered (start_at nodes len) len n) x 0)) j
        (rw (holds (start_at nodes len) len starts_in n j h fits) here)
        (λ x l s. ⊎_elim (λ e. earlier (start_at nodes len) len starts_in j n x (omega arith) fits e) (λ r. there x s r) (only (start_at nodes len) len starts_in n x fits))
      where
        here : stop_on nodes c item z o (j + 2) ≡ true
        here = by_lt j c (λ l e. stops_in nodes j item z o c l ∙ has_words_lem nodes j item z o w) (λ l e. stops_past nodes j item z o c l)

        not_before : (k : ℕ) → stop_on nodes c item z o (k + 2) ≡ true → j ≤ k
        not_before k s = by_lt k c (λ l e. first k l (words_has nodes k item z o (sym (stops_in nodes k item z o c l) ∙ s))) (λ l e. omega arith)

        there : (x : ℕ) → stop_on nodes c item z o (get_or (entered (start_at nodes len) len n) x 0) ≡ true → Number (start_at nodes len) len n x → get_or (entered (start_at nodes len) len j) x 0 ≡ 0
        there x s r =
            let o = not_before r.k (rw r.is at s) in
            let b = r.below in
            rw r.slot (earlier (start_at nodes len) len starts_in j r.k (slot_at (start_at nodes len) len r.k) o (omega arith) (slot_empty (start_at nodes len) len starts_in r.k (omega arith)))

    -- the words of a node: its slot
    pub found : (c j item z o : ℕ) → j < n → j ≤ c → Has nodes j item z o → ((k : ℕ) → k < c → Has nodes k item z o → j ≤ k)
        → probe_of nodes (entered (start_at nodes len) len n) c item z o ≡ slot_at (start_at nodes len) len j
    unfolding probe_of
    found c j item z o h hc w first = rw (length_entered (start_at nodes len) len n, start_of_lem j item z o w) (found_at c j item z o h hc w first)

    -- words that no node has: the first empty slot
    pub missing : (item z o : ℕ) → ((k : ℕ) → k < n → Has nodes k item z o → ⊥)
        → probe_of nodes (entered (start_at nodes len) len n) n item z o ≡ first_free (entered (start_at nodes len) len n) (start_of item z o len)
    unfolding probe_of first_free
    missing item z o none =
        rw (length_entered (start_at nodes len) len n)
        (scan_ext (λ x. stop_on nodes n item z o (get_or (entered (start_at nodes len) len n) x 0)) (empty_slot (entered (start_at nodes len) len n)) len len
        (start_of item z o len) (start_lt item z o len some) (λ x l. ⊎_elim (λ e. at_empty x e) (λ r. at_number x r) (only (start_at nodes len) len starts_in n x fits)))
      where
        at_empty : (x : ℕ) → get_or (entered (start_at nodes len) len n) x 0 ≡ 0
            → stop_on nodes n item z o (get_or (entered (start_at nodes len) len n) x 0) ≡ eqb (get_or (entered (start_at nodes len) len n) x 0) 0
        at_empty x e = rw e (stop_low nodes n item z o 0 (omega arith))

        not_words : (k : ℕ) → k < n → has_words nodes (k + 2) item z o ≡ false
        not_words k l = by_test (has_words nodes (k + 2) item z o) (λ e. absurd (none k l (words_has nodes k item z o e))) (λ e. e)

        at_number : (x : ℕ) → Number (start_at nodes len) len n x
            → stop_on nodes n item z o (get_or (entered (start_at nodes len) len n) x 0) ≡ eqb (get_or (entered (start_at nodes len) len n) x 0) 0
        at_number x r = rw r.is (stops_in nodes r.k item z o n r.below ∙ not_words r.k r.below ∙ sym (ne_eqb (r.k + 2) 0 (omega arith)))
