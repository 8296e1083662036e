-- The records of a book that grows by one family: those of before, then one more, which goes by the last family of
-- before.
-- The numbers of the sides stay, since both stand in the book before the family does.
use Prim.Native.Nat.{ℕ, zero, suc, ◌+◌, ◌-◌, ◌≤◌, ◌<◌}
use mathlib.Core.Path.{◌≡◌, refl, sym, ap, ◌∙◌}
use mathlib.Core.List.{List, [], ◌∷◌, ◌++◌, append_assoc, append-nil}
use native.Mathlib.Omega.{arith}
use lib.ListN.{length, get_or, drop, length-drop, drop_of_length-le}
use lib.Seq.{drop-cons, drop-append-le, get_or-drop}
use Rattle.family.specs.Family.{Family, empty, node, top, without_side, with_side}
use Rattle.family.specs.Book.{at, number, Held, Grown, Book}
use Rattle.family.specs.Record.{Triple, triple, item_of, record_bytes}
use Rattle.family.specs.File.{triples_of, records_bytes}
use Rattle.words.proofs.Cases.{by_lt}
use Rattle.family.proofs.Books.{grown_number, held_at, is_node, two_long}

-- the item of the last of some triples
abbrev last_item : ℕ → List Triple → ℕ
last_item pi [] = pi
last_item pi (t ∷ ts) = last_item (item_of t) ts

records_snoc : (ts : List Triple) (t : Triple) (pi pn : ℕ) → records_bytes pi pn (ts ++ (t ∷ [])) ≡ records_bytes pi pn ts ++ record_bytes (last_item pi ts) (pn + length ts) t
records_snoc [] t pi pn = append-nil (record_bytes pi pn t) ∙ ap (λ k. record_bytes pi k t) (omega arith)
records_snoc (u ∷ ts) t pi pn =
    ap (λ l. record_bytes pi pn u ++ l) (records_snoc ts t (item_of u) (suc pn) ∙ ap (λ k. records_bytes (item_of u) (suc pn) ts ++ record_bytes (last_item (item_of u) ts) k t) (omega arith))
    ∙ sym (append_assoc (record_bytes pi pn u) (records_bytes (item_of u) (suc pn) ts) (record_bytes (last_item (item_of u) ts) (pn + suc (length ts)) t))

triples_append : (B Fs Gs : List Family) → triples_of B (Fs ++ Gs) ≡ triples_of B Fs ++ triples_of B Gs
triples_append B [] Gs = refl
triples_append B (F ∷ Fs) Gs = ap (λ ts. triple (top F) (number B (without_side F)) (number B (with_side F)) ∷ ts) (triples_append B Fs Gs)

pub triples_long : (B Fs : List Family) → length (triples_of B Fs) ≡ length Fs
triples_long B [] = refl
triples_long B (F ∷ Fs) = ap suc (triples_long B Fs)

-- families whose sides stand in a book keep their triples when it grows
triples_grown : {C D : List Family} → Grown C D → (Fs : List Family) → ((j : ℕ) → j < length Fs → Held C (without_side (get_or Fs j empty)) × Held C (with_side (get_or Fs j empty))) → triples_of D Fs ≡ triples_of C Fs
triples_grown g [] h = refl
triples_grown g (F ∷ Fs) h =
    rw (grown_number g (without_side F) (h 0 (omega arith)).0, grown_number g (with_side F) (h 0 (omega arith)).1, triples_grown g Fs (λ j l. h (suc j) (omega arith)))

last_top : (B : List Family) (F : Family) (Fs : List Family) (pi : ℕ) → last_item pi (triples_of B (F ∷ Fs)) ≡ top (get_or (F ∷ Fs) (length Fs) empty)
last_top B F [] pi = refl
last_top B F (G ∷ Gs) pi = last_top B G Gs (top F)

module _ {limit : ℕ} (C : List Family) (k : Book limit C) where
  -- the sides of a family past the first two stand in the book
  pub sides_held : (j : ℕ) → 2 ≤ j → j < length C → Held C (without_side (at C j)) × Held C (with_side (at C j))
  sides_held zero h l = absurd (omega arith)
  sides_held (suc zero) h l = absurd (omega arith)
  sides_held (suc (suc j)) h l = go (at C (suc (suc j))) refl
    where
      go : (F : Family) → at C (suc (suc j)) ≡ F → Held C (without_side F) × Held C (with_side F)
      go F e =
          let q = is_node C k j l F e in
          let held : Held C (node q.0 q.1 q.2) = rw (← q.3, ← e) (held_at C k (suc (suc j)) l) in
          let b = k.below q.0 q.1 q.2 held in
          rw q.3 (omega arith, omega arith)

  pub last_of_book : last_item 0 (triples_of C (drop 2 C)) ≡ top (at C (length C - 1))
  last_of_book =
      by_lt 2 (length C)
      (λ l e.
      let d : drop 2 C ≡ at C 2 ∷ drop 3 C = drop-cons C 2 empty l in
      let n : 2 + length (drop 3 C) ≡ length C - 1 = omega (arith, length-drop 3 C) in
      let f : get_or (at C 2 ∷ drop 3 C) (length (drop 3 C)) empty ≡ at C (length C - 1) = ap (λ X. get_or X (length (drop 3 C)) empty) (sym d) ∙ get_or-drop 2 C (length (drop 3 C)) empty ∙ ap (λ j. at C j) n in
      rw d (last_top C (at C 2) (drop 3 C) 0 ∙ ap top f))
      (λ l e. let two : length C ≡ 2 = omega (arith, two_long C k) in rw (drop_of_length-le C {i = 2} (omega arith), two) (ap top (sym (ap (λ X. at X 1) k.begins.eq))))

  -- the records with one family more
  pub book_snoc : (F : Family) → Held C (without_side F) → Held C (with_side F) → records_bytes 0 1 (triples_of (C ++ (F ∷ [])) (drop 2 (C ++ (F ∷ []))))
      ≡ records_bytes 0 1 (triples_of C (drop 2 C)) ++ record_bytes (top (at C (length C - 1))) (length C - 1) (triple (top F) (number C (without_side F)) (number C (with_side F)))
  book_snoc F ha hb =
      let g : Grown C (C ++ (F ∷ [])) = record { new = F ∷ []; eq = refl } in
      let e : triples_of (C ++ (F ∷ [])) (drop 2 C ++ (F ∷ [])) ≡ triples_of C (drop 2 C) ++ (triple (top F) (number C (without_side F)) (number C (with_side F)) ∷ []) =
      triples_append (C ++ (F ∷ [])) (drop 2 C) (F ∷ [])
      ∙ rw (triples_grown g (drop 2 C) old, grown_number g (without_side F) ha, grown_number g (with_side F) hb) in
      let n : 1 + length (triples_of C (drop 2 C)) ≡ length C - 1 = omega (arith, triples_long C (drop 2 C), length-drop 2 C, two_long C k) in
      rw (drop-append-le 2 C (F ∷ []) (two_long C k), e, records_snoc (triples_of C (drop 2 C)), last_of_book, n)
    where
      old : (j : ℕ) → j < length (drop 2 C) → Held C (without_side (get_or (drop 2 C) j empty)) × Held C (with_side (get_or (drop 2 C) j empty))
      old j l = rw (get_or-drop 2 C j empty) (sides_held (2 + j) (omega arith) (omega (arith, length-drop 2 C)))
