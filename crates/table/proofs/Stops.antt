-- Where the search for words stops: at a number that is none of the nodes searched, and at the node that has the
-- words.
-- Each is one branch of the test.
use Rattle.std.proofs.Common.{◌≡◌, ℕ, ◌+◌, ◌-◌, ◌*◌, ◌<◌, ◌≤◌, true, ◌&&◌, eqb, List, get_or, arith, le-ltb, lt-ltb, eq-eqb, eqb-true}
use Rattle.words.proofs.Cases.{and_inv}
use Rattle.table.specs.Probe.{has_words, stop_on}

module _ (nodes : List ℕ) (count item z o h : ℕ) where
  pub stop_low : h < 2 → stop_on nodes count item z o h ≡ true
  unfolding stop_on
  stop_low p = rw (lt-ltb h 2 p)

  pub stop_high : 2 ≤ h → count + 1 < h → stop_on nodes count item z o h ≡ true
  unfolding stop_on
  stop_high p q = rw (le-ltb h 2 p, lt-ltb (count + 1) h q)

  module _ (p : 2 ≤ h) (q : h ≤ count + 1) where
    pub stop_words : stop_on nodes count item z o h ≡ has_words nodes h item z o
    unfolding stop_on
    stop_words = rw (le-ltb h 2 p, le-ltb (count + 1) h q)

-- node number k + 2 has these words
pub record Has (nodes : List ℕ) (k item z o : ℕ) : Type 0 where
  pub item_is : get_or nodes (3 * k) 0 ≡ item
  pub zero_is : get_or nodes (3 * k + 1) 0 ≡ z
  pub one_is : get_or nodes (3 * k + 2) 0 ≡ o

module _ (nodes : List ℕ) (k item z o : ℕ) where
  back : k + 2 - 2 ≡ k
  back = omega arith

  pub has_words_lem : Has nodes k item z o → has_words nodes (k + 2) item z o ≡ true
  unfolding has_words
  has_words_lem w = rw (back, eq-eqb _ _ w.item_is, eq-eqb _ _ w.zero_is, eq-eqb _ _ w.one_is)

  pub words_has : has_words nodes (k + 2) item z o ≡ true → Has nodes k item z o
  unfolding has_words
  words_has e =
      let a = eqb (get_or nodes (3 * k) 0) item in
      let b = eqb (get_or nodes (3 * k + 1) 0) z in
      let c = eqb (get_or nodes (3 * k + 2) 0) o in
      and_inv a (b && c) (rw back at e)
      (λ p q. and_inv b c q (λ r s. record { item_is = eqb-true _ _ p; zero_is = eqb-true _ _ r; one_is = eqb-true _ _ s }))

  pub stops_past : (count : ℕ) → count ≤ k → stop_on nodes count item z o (k + 2) ≡ true
  stops_past count h = stop_high nodes count item z o (k + 2) (omega arith) (omega arith)

  pub stops_in : (count : ℕ) → k < count → stop_on nodes count item z o (k + 2) ≡ has_words nodes (k + 2) item z o
  stops_in count h = stop_words nodes count item z o (k + 2) (omega arith) (omega arith)
