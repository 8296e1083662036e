-- The words of a book mean that book: read back, node by node, they give its families.
-- Each family's sides stand in the book before it, so their numbers are below its own and lead back to them.
use Prim.Native.Nat.{ℕ, zero, suc, ◌+◌, ◌*◌, ◌-◌, ◌≤◌, ◌<◌}
use mathlib.Core.Path.{◌≡◌, refl, sym, ap, ◌∙◌}
use mathlib.Core.List.{List, [], ◌∷◌, ◌++◌}
use native.Mathlib.Omega.{arith}
use lib.ListN.{length, get_or, take, drop, replicate, length-drop}
use lib.Seq.{take-suc, take_all, get_or-take, get_or-drop}
use Rattle.family.specs.Family.{Family, empty, node, top, without_side, with_side}
use Rattle.family.specs.Book.{at, number, Book}
use Rattle.family.specs.File.{triples_of}
use Rattle.family.proofs.Books.{number_at, is_node, two_long}
use Rattle.table.proofs.Stops.{Has}
use Rattle.store.specs.Words.{book_of, flat, words_of, nodes_with}

-- the words of the k-th of some families
flat_has : (B Fs : List Family) (rest : List ℕ) (k : ℕ) → k < length Fs
    → Has (flat (triples_of B Fs) ++ rest) k (top (get_or Fs k empty)) (number B (without_side (get_or Fs k empty))) (number B (with_side (get_or Fs k empty)))
flat_has B [] rest k l = absurd (omega arith)
flat_has B (F ∷ Fs) rest zero l = record { item_is = refl; zero_is = refl; one_is = refl }
flat_has B (F ∷ Fs) rest (suc k) l =
    let H = flat_has B Fs rest k (omega arith) in
    let e₀ : 3 * suc k ≡ suc (suc (suc (3 * k))) = omega arith in
    let e₁ : 3 * suc k + 1 ≡ suc (suc (suc (3 * k + 1))) = omega arith in
    let e₂ : 3 * suc k + 2 ≡ suc (suc (suc (3 * k + 2))) = omega arith in
    record { item_is = rw e₀ H.item_is; zero_is = rw e₁ H.zero_is; one_is = rw e₂ H.one_is }

module _ {limit : ℕ} (C : List Family) (book : Book limit C) (rest : List ℕ) where
  -- the word of the family numbered m + 2 is its top, and the other two are its sides' numbers
  pub words_has : (m : ℕ) → m + 2 < length C → Has (words_of C ++ rest) m (top (at C (2 + m))) (number C (without_side (at C (2 + m)))) (number C (with_side (at C (2 + m))))
  unfolding words_of
  words_has m l = rw (← get_or-drop 2 C m empty) (flat_has C (drop 2 C) rest m (omega (arith, length-drop 2 C)))

  read_to : (m : ℕ) → m + 2 ≤ length C → book_of (words_of C ++ rest) m ≡ take (m + 2) C
  unfolding book_of
  read_to zero l = sym (ap (λ X. take 2 X) book.begins.eq)
  read_to (suc m) l =
      let s : suc m + 2 ≡ suc (m + 2) = omega arith in
      let t : 2 + m ≡ m + 2 = omega arith in
      let H = words_has m (omega arith) in
      rw (read_to m (omega arith), H.item_is, H.zero_is, H.one_is, s, take-suc C (m + 2) empty (omega arith), t)
      (ap (λ F. take (m + 2) C ++ (F ∷ [])) (joined (at C (m + 2)) (ap (λ k. at C k) (omega arith))))
    where
      joined : (F : Family) → at C (suc (suc m)) ≡ F → node (top F) (at (take (m + 2) C) (number C (without_side F))) (at (take (m + 2) C) (number C (with_side F))) ≡ F
      joined F e =
          let q = is_node C book m (omega arith) F e in
          rw q.3 (sides q.0 q.1 q.2 (e ∙ q.3))
        where
          sides : (i : ℕ) (a b : Family) → at C (suc (suc m)) ≡ node i a b → node i (at (take (m + 2) C) (number C a)) (at (take (m + 2) C) (number C b)) ≡ node i a b
          sides i a b e =
              let here : number C (node i a b) ≡ suc (suc m) = rw e at (book.unique (suc (suc m)) (omega arith)) in
              let below = book.below i a b (omega arith) in
              rw (get_or-take (m + 2) C (number C a) empty (omega arith), get_or-take (m + 2) C (number C b) empty (omega arith), number_at C a (omega arith), number_at C b (omega arith))

  pub recovered : book_of (words_of C ++ rest) (length C - 2) ≡ C
  recovered = read_to (length C - 2) (omega (arith, two_long C book)) ∙ take_all (length C - 2 + 2) C (omega arith)

pub book_of_words : {limit : ℕ} (C : List Family) → Book limit C → (capacity : ℕ) (nodes : List ℕ) → book_of (nodes_with capacity C nodes) (length C - 2) ≡ C
unfolding nodes_with
book_of_words C book capacity nodes = recovered C book (replicate (3 * capacity - length (words_of C)) 0 ++ drop (3 * capacity) nodes)
