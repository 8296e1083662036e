-- A family made of two part by part has at most (a + 2) × (b + 2) different parts, a and b those of the two.
-- Each of its parts is made of a part, {} or {{}} of each side; and a book is no longer than a list that holds all its
-- families.
use Prim.Native.Nat.{ℕ, zero, suc, ◌+◌, ◌-◌, ◌*◌, ◌≤◌, ◌<◌, max}
use mathlib.Core.Path.{◌≡◌, sym, ap, ◌∙◌}
use mathlib.Core.Logic.{⊎_elim}
use mathlib.Core.Bool.{Bool, false}
use mathlib.Core.List.Memᴰ
use mathlib.Core.List.{List, [], ◌∷◌, ◌++◌, map, foldl, Memᴰ}
use native.Mathlib.Omega.{arith}
use native.Mathlib.Nat.{suc-mul, zero-mul}
use lib.Dec.{eqb}
use lib.ListN.{length, drop, length-append, length-map, length-drop}
use Rattle.family.specs.Family.{Family, empty, base, node, top, Ordered, Within, mk, parts}
use Rattle.family.specs.Book.{start, at, number, Held, add, place, Book}
use Rattle.family.specs.Operation.{lacking, holding, combine}
use Rattle.family.specs.Parts.{part_count, most_parts}
use Rattle.words.proofs.Cases.{by_test, by_lt}
use Rattle.family.proofs.Diagrams.{within_lacking, within_holding}
use Rattle.family.proofs.Combine.{combine_step, within_combine}
use Rattle.family.proofs.Books.{same_self, by_same, by_held, number_append, number_past, add_length, held_at, book_start, held_empty}
use Rattle.family.proofs.Placing.{book_place, place_only, place_own}
use Rattle.family.proofs.Different.{place_length, absent_start, no_longer}

-- a family's own book has {}, {{}} and its different parts
pub own_length : (F : Family) → length (place start F) ≡ part_count F + 2
unfolding part_count
own_length F = omega (arith, rw (absent_start F) at (place_length start F))

-- placing adds no more than these
add_all_length : (B Fs : List Family) → length (foldl add B Fs) ≤ length B + length Fs
add_all_length B [] = omega arith
add_all_length B (F ∷ Fs) = by_held B F (λ h e. rw e (omega (arith, add_all_length B Fs))) (λ h e. omega (arith, add_all_length (add B F) Fs, add_length B F h))

pub place_bound : {t : ℕ} (B : List Family) (F : Family) → Book t B → length (place B F) ≤ length B + part_count F
place_bound B F k =
    let e : length (drop 2 (place start F)) ≡ length (place start F) - 2 = rw length-drop in
    rw (← place_own B F k) (omega (arith, add_all_length B (drop 2 (place start F)), own_length F))

-- what two lists hold together, and a list of images
pub held_left : (B C : List Family) (F : Family) → Held B F → Held (B ++ C) F
held_left B C F h = omega (arith, number_append B C F h, length-append B C)

pub held_right : (B C : List Family) (F : Family) → Held C F → Held (B ++ C) F
held_right B C F h = by_lt (number B F) (length B) (λ l e. held_left B C F l) (λ l e. omega (arith, number_past B C F l, length-append B C))

held_image : (g : Family → Family) (C : List Family) (F : Family) → Held C F → Held (map g C) (g F)
held_image g [] F h = absurd (omega arith)
held_image g (G ∷ C) F h =
    by_same G F (λ p e. rw (p, same_self (g F)) (omega arith))
    (λ p e. by_same (g G) (g F) (λ q d. rw d (omega arith)) (λ q d. rw d (omega (arith, held_image g C F (omega (arith, rw e at h))))))

-- each family of one list made with each of another
module _ (f : Bool → Bool → Bool) where
  abbrev pairs : List Family → List Family → List Family
  pairs [] C = []
  pairs (F ∷ B) C = map (λ G. combine f F G) C ++ pairs B C

  pairs_length : (B C : List Family) → length (pairs B C) ≡ length B * length C
  pairs_length [] C = sym (zero-mul (length C))
  pairs_length (F ∷ B) C = rw (length-append, length-map, pairs_length B C, suc-mul) (omega arith)

  pairs_held : (B C : List Family) (F G : Family) → Held B F → Held C G → Held (pairs B C) (combine f F G)
  pairs_held [] C F G h k = absurd (omega arith)
  pairs_held (E ∷ B) C F G h k =
      by_same E F (λ p e. rw p (held_left (map (λ H. combine f F H) C) (pairs B C) (combine f F G) (held_image (λ H. combine f F H) C G k)))
      (λ p e. held_right (map (λ H. combine f E H) C) (pairs B C) (combine f F G) (pairs_held B C F G (omega (arith, rw e at h)) k))

-- a book holds both cofactors of a family that it holds
held_cofactors : {t : ℕ} {B : List Family} → Book t B → (v : ℕ) (F : Family) → Held B F → Held B (lacking v F) × Held B (holding v F)
held_cofactors {B = B} k v empty h = (h, h)
held_cofactors {B = B} k v base h = (h, held_empty B k)
held_cofactors {B = B} k v (node i a b) h =
    let q = k.below i a b h in
    by_test (eqb i v) (λ e. rw e (omega arith, omega arith)) (λ e. rw e (h, held_empty B k))

-- the parts of the family of two sides: those of the sides, and itself
by_part {ℓ} : {A : Type ℓ} (i : ℕ) (a b H : Family) → Memᴰ H (parts (mk i a b)) → (Memᴰ H (parts a) → A) → (Memᴰ H (parts b) → A) → (H ≡ mk i a b → A) → A
by_part i a empty H m p q r = p m
by_part i a base H m p q r = ⊎_elim p (λ n. r (Memᴰ.eq_of_singleton n)) (Memᴰ.append_cases (parts a) m)
by_part i a (node j c d) H m p q r =
    ⊎_elim p (λ n. ⊎_elim q (λ k. r (Memᴰ.eq_of_singleton k)) (Memᴰ.append_cases (parts (node j c d)) n)) (Memᴰ.append_cases (parts a) m)

leaf_parts : {F H : Family} → Within 0 F → Memᴰ H (parts F) → ⊥
leaf_parts {F = empty} w m = Memᴰ.not-nil m
leaf_parts {F = base} w m = Memᴰ.not-nil m
leaf_parts {F = node i a b} w m = omega arith

module _ (f : Bool → Bool → Bool) (z : f false false ≡ false) where
  -- a list that holds all that two books make holds every part of it: level by level, a part is of one of the two
  -- sides, or is made of the two families at that level
  module _ {s : ℕ} {B C : List Family} (kB : Book s B) (kC : Book s C) (T : List Family) (all : (F G : Family) → Held B F → Held C G → Held T (combine f F G)) where
    parts_made : (t : ℕ) (F G : Family) → Within t F → Within t G → Held B F → Held C G → (H : Family) → Memᴰ H (parts (combine f F G)) → Held T H
    parts_made zero F G wF wG hF hG H m = absurd (leaf_parts (within_combine f z F G wF wG) m)
    parts_made (suc t) F G wF wG hF hG H m =
        let p = held_cofactors kB (suc t) F hF in
        let q = held_cofactors kC (suc t) G hG in
        by_part (suc t) (combine f (lacking (suc t) F) (lacking (suc t) G)) (combine f (holding (suc t) F) (holding (suc t) G)) H (rw (combine_step f z wF wG) at m)
        (λ n. parts_made t (lacking (suc t) F) (lacking (suc t) G) (within_lacking wF) (within_lacking wG) p.0 q.0 H n)
        (λ n. parts_made t (holding (suc t) F) (holding (suc t) G) (within_holding wF) (within_holding wG) p.1 q.1 H n)
        (λ e. rw (e ∙ sym (combine_step f z wF wG)) (all F G hF hG))

  module _ {t : ℕ} {F G : Family} (wF : Within t F) (wG : Within t G) where
    own : Book t (place start (combine f F G))
    own = (book_place start (combine f F G) (book_start t) (within_combine f z F G wF wG)).0

    -- {}, {{}}, and all that the two own books make
    abbrev wide : List Family
    wide = start ++ pairs f (place start F) (place start G)

    inside : (k : ℕ) → k < length (place start (combine f F G)) → Held wide (at (place start (combine f F G)) k)
    inside k l =
        let H = at (place start (combine f F G)) k in
        let p = book_place start F (book_start t) wF in
        let q = book_place start G (book_start t) wG in
        ⊎_elim (held_left start (pairs f (place start F) (place start G)) H)
        (λ m. held_right start (pairs f (place start F) (place start G)) H
        (parts_made p.0 q.0 (pairs f (place start F) (place start G)) (pairs_held f (place start F) (place start G)) t F G wF wG p.1 q.1 H m))
        (place_only start (combine f F G) H (held_at (place start (combine f F G)) own k l))

    apart : (j k : ℕ) → j < k → k < length (place start (combine f F G)) → at (place start (combine f F G)) j ≡ at (place start (combine f F G)) k → ⊥
    apart j k l m e = omega (arith, own.unique j (omega arith), own.unique k m, ap (λ H. number (place start (combine f F G)) H) e)

    no_more : part_count (combine f F G) ≤ most_parts F G
    no_more =
        let made : length (pairs f (place start F) (place start G)) ≡ most_parts F G = rw (pairs_length f (place start F) (place start G), own_length F, own_length G) in
        omega (arith, no_longer (place start (combine f F G)) wide apart inside, own_length (combine f F G), length-append start (pairs f (place start F) (place start G)))

  -- for every rule that makes nothing of nothing
  pub parts_bound : (F G : Family) → Ordered F → Ordered G → part_count (combine f F G) ≤ most_parts F G
  parts_bound F G oF oG = no_more {t = max (top F) (top G)} (record { ordered = oF; low = omega arith }) (record { ordered = oG; low = omega arith })
