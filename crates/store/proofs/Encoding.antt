-- The words of a book: where words hold a book, the nodes' words and the lookup are those that the definitions give
-- for it.
-- The n-th triple of the book is the n-th node's words, since a held family's number is its handle.
use Prim.Native.Nat.{ℕ, zero, suc, ◌+◌, ◌*◌, ◌-◌, ◌≤◌, ◌<◌}
use mathlib.Core.Path.{◌≡◌, refl, sym, ap, ◌∙◌}
use mathlib.Core.List.{List, [], ◌∷◌, ◌++◌}
use native.Mathlib.Omega.{arith}
use lib.ListN.{length, get_or, take, drop, replicate, length-drop, take-append-drop, drop_of_length-le}
use lib.Seq.{drop-cons, take-add, ext_get_or, get_or-drop, get_or-take, length-take-le, drop-drop}
use Rattle.family.specs.Family.{Family, empty}
use Rattle.family.specs.Book.{at, number}
use Rattle.family.specs.Record.{Triple, triple}
use Rattle.family.specs.File.{triples_of}
use Rattle.words.proofs.Zeroed.{zeros_length, zero_get_d}
use Rattle.store.specs.Words.{flat, words_of, nodes_with, lookup_of}
use Rattle.store.specs.Inner.{Holds}
use Rattle.store.proofs.Held.{handle_of}
use Rattle.store.proofs.Put.{entered_same}

pub flat_length : (ts : List Triple) → length (flat ts) ≡ 3 * length ts
flat_length [] = refl
flat_length (triple i z o ∷ ts) = omega (arith, flat_length ts)

pub triples_length : (B Fs : List Family) → length (triples_of B Fs) ≡ length Fs
triples_length B [] = refl
triples_length B (F ∷ Fs) = ap suc (triples_length B Fs)

pub words_length : (B : List Family) → length (words_of B) ≡ 3 * (length B - 2)
unfolding words_of
words_length B = flat_length (triples_of B (drop 2 B)) ∙ ap (λ k. 3 * k) (triples_length B (drop 2 B) ∙ length-drop 2 B)

three : (l : List ℕ) (j : ℕ) → j + 3 ≤ length l → take 3 (drop j l) ≡ get_or l j 0 ∷ get_or l (j + 1) 0 ∷ get_or l (j + 2) 0 ∷ []
three l j h =
    let e₁ : j + 1 ≡ suc j = omega arith in
    let e₂ : j + 2 ≡ suc (suc j) = omega arith in
    rw (drop-cons l j 0 (omega arith), drop-cons l (suc j) 0 (omega arith), drop-cons l (suc (suc j)) 0 (omega arith), e₁, e₂)

take_three : (l : List ℕ) (j m : ℕ) → j + 3 ≤ length l → take (3 + m) (drop j l) ≡ get_or l j 0 ∷ get_or l (j + 1) 0 ∷ get_or l (j + 2) 0 ∷ take m (drop (j + 3) l)
take_three l j m h = take-add 3 m (drop j l) ∙ rw (three l j h, drop-drop 3 j l)

module _ {limit : ℕ} {B : List Family} {n : ℕ} {nodes lookup : List ℕ} (H : Holds limit B n nodes lookup) (fits : 3 * n ≤ length nodes) where
  -- the words of the nodes from j on
  encoded_from : (m j : ℕ) → j + m ≡ n → flat (triples_of B (drop (j + 2) B)) ≡ take (3 * m) (drop (3 * j) nodes)
  encoded_from zero j e = ap (λ X. flat (triples_of B X)) (drop_of_length-le B {i = j + 2} (omega (arith, H.size)))
  encoded_from (suc m) j e =
      let E = H.each j (omega arith) in
      let z = get_or nodes (3 * j + 1) 0 in
      let o = get_or nodes (3 * j + 2) 0 in
      let nz : number B (at B z) ≡ z = handle_of H z (omega (arith, E.zero_before)) in
      let no' : number B (at B o) ≡ o = handle_of H o (omega (arith, E.one_before)) in
      let k : 3 * suc m ≡ 3 + 3 * m = omega arith in
      let j₁ : suc (j + 2) ≡ j + 1 + 2 = omega arith in
      let j₃ : 3 * j + 3 ≡ 3 * (j + 1) = omega arith in
      rw (drop-cons B (j + 2) empty (omega (arith, H.size)), E.is, nz, no', k, take_three nodes (3 * j) (3 * m) (omega arith), j₃)
      (ap (λ l. get_or nodes (3 * j) 0 ∷ z ∷ o ∷ l) (ap (λ k. flat (triples_of B (drop k B))) j₁ ∙ encoded_from m (j + 1) (omega arith)))

  pub encoded : words_of B ≡ take (3 * n) nodes
  unfolding words_of
  encoded = encoded_from n 0 (omega arith)

  pub looked_up : lookup_of (length lookup) B ≡ lookup
  unfolding lookup_of
  looked_up =
      let e : length B - 2 ≡ n = omega (arith, H.size) in
      rw e (entered_same (words_of B) nodes (length lookup) n (λ k l. sym (ap (λ w. get_or w k 0) encoded ∙ get_or-take (3 * n) nodes k 0 l)) ∙ sym H.lookup_is)

  -- the lent node words, where they are blank past the count and as before past the capacity
  pub laid_out : (capacity : ℕ) (before : List ℕ) → n ≤ capacity → 3 * capacity ≤ length nodes → ((k : ℕ) → 3 * n ≤ k → k < 3 * capacity → get_or nodes k 0 ≡ 0)
      → drop (3 * capacity) nodes ≡ drop (3 * capacity) before → nodes_with capacity B before ≡ nodes
  unfolding nodes_with
  laid_out capacity before l m blank same =
      let s : 3 * capacity - length (words_of B) ≡ 3 * capacity - 3 * n = omega (arith, words_length B, H.size) in
      rw (s, encoded, ← same) (ap (λ X. take (3 * n) nodes ++ X) middle ∙ take-append-drop (3 * n) nodes)
    where
      zeros : take (3 * capacity - 3 * n) (drop (3 * n) nodes) ≡ replicate (3 * capacity - 3 * n) 0
      zeros =
          let d : length (drop (3 * n) nodes) ≡ length nodes - 3 * n = length-drop (3 * n) nodes in
          let t : length (take (3 * capacity - 3 * n) (drop (3 * n) nodes)) ≡ 3 * capacity - 3 * n = length-take-le (3 * capacity - 3 * n) (drop (3 * n) nodes) (omega arith) in
          ext_get_or 0 (take (3 * capacity - 3 * n) (drop (3 * n) nodes)) (replicate (3 * capacity - 3 * n) 0) (t ∙ sym (zeros_length (3 * capacity - 3 * n)))
          (λ k h. get_or-take (3 * capacity - 3 * n) (drop (3 * n) nodes) k 0 (omega arith) ∙ get_or-drop (3 * n) nodes k 0 ∙ blank (3 * n + k) (omega arith) (omega arith) ∙ sym (zero_get_d (3 * capacity - 3 * n) k))

      middle : replicate (3 * capacity - 3 * n) 0 ++ drop (3 * capacity) nodes ≡ drop (3 * n) nodes
      middle =
          let e : 3 * n + (3 * capacity - 3 * n) ≡ 3 * capacity = omega arith in
          ap (λ X. X ++ drop (3 * capacity) nodes) (sym zeros)
          ∙ ap (λ k. take (3 * capacity - 3 * n) (drop (3 * n) nodes) ++ drop k nodes) (sym e)
          ∙ ap (λ X. take (3 * capacity - 3 * n) (drop (3 * n) nodes) ++ X) (sym (drop-drop (3 * capacity - 3 * n) (3 * n) nodes))
          ∙ take-append-drop (3 * capacity - 3 * n) (drop (3 * n) nodes)
