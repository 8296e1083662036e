-- Adding a list of families to a book appends its different families that the book does not hold, in their order; so
-- placing F appends exactly the different parts of F not yet held.
-- By induction on the list: a family that was just added is left out of what follows, which is what `distinct` says.
use Prim.Native.Nat.{ℕ, suc, ◌+◌, ◌≤◌, ◌<◌}
use mathlib.Core.Path.{◌≡◌, refl, sym, ap, ◌∙◌}
use mathlib.Core.HLevel.{⊥_prop}
use mathlib.Core.Logic.{⊎_elim, ∥∥₁_elim}
use mathlib.Core.List.Memᴰ
use mathlib.Core.List.Pairwise
use mathlib.Core.List.{List, [], ◌∷◌, ◌++◌, append_assoc, append-nil, foldl, Memᴰ, Nodup}
use native.Mathlib.Omega.{arith}
use lib.ListN.{length, length-append}
use borrow.Author.Tests.{lt-ltb, le-ltb}
use Rattle.family.specs.Family.{Family, empty, base, node, parts}
use Rattle.family.specs.Book.{start, same, at, number, Held, held, add, place, except, distinct, absent}
use Rattle.words.proofs.Cases.{by_test, by_lt}
use Rattle.family.proofs.Books.{by_same, same_self, by_held, number_append, number_past, by_snoc, start_node}
use Rattle.family.proofs.Placing.{place_parts}

except_twice : (F : Family) (Gs : List Family) → except F (except F Gs) ≡ except F Gs
except_twice F [] = refl
except_twice F (G ∷ Gs) = by_test (same G F) (λ e. rw e (except_twice F Gs)) (λ e. rw (e, e) (ap (λ X. G ∷ X) (except_twice F Gs)))

except_swap : (F G : Family) (Hs : List Family) → except F (except G Hs) ≡ except G (except F Hs)
except_swap F G [] = refl
except_swap F G (H ∷ Hs) =
    by_test (same H F)
    (λ e. by_test (same H G) (λ d. rw (e, d) (except_swap F G Hs)) (λ d. rw (e, d, e) (except_swap F G Hs)))
    (λ e. by_test (same H G) (λ d. rw (e, d) (except_swap F G Hs)) (λ d. rw (e, d, e) (ap (λ X. H ∷ X) (except_swap F G Hs))))

distinct_except : (F : Family) (Gs : List Family) → distinct (except F Gs) ≡ except F (distinct Gs)
distinct_except F [] = refl
distinct_except F (G ∷ Gs) =
    by_same G F
    (λ p e. rw (e, distinct_except F Gs) (sym (except_twice F (distinct Gs)) ∙ ap (λ X. except F (except X (distinct Gs))) (sym p)))
    (λ p e. rw (e, distinct_except F Gs) (ap (λ X. G ∷ X) (except_swap G F (distinct Gs))))

-- one more family held is one family less absent
absent_snoc : (B : List Family) (F : Family) (Gs : List Family) → length B ≤ number B F → absent (B ++ (F ∷ [])) Gs ≡ except F (absent B Gs)
absent_snoc B F [] l = refl
absent_snoc B F (G ∷ Gs) l =
    by_lt (number B G) (length B)
    (λ h e. rw (e, lt-ltb (number (B ++ (F ∷ [])) G) (length (B ++ (F ∷ []))) (omega (arith, number_append B (F ∷ []) G h, length-append B (F ∷ [])))) (absent_snoc B F Gs l))
    (λ h e. by_same G F
    (λ p d. rw (e, d, lt-ltb (number (B ++ (F ∷ [])) G) (length (B ++ (F ∷ []))) (omega (arith, past p h, length-append B (F ∷ [])))) (absent_snoc B F Gs l))
    (λ p d. rw (
      e,
      d,
      le-ltb (number (B ++ (F ∷ [])) G) (length (B ++ (F ∷ []))) (by_lt (number (B ++ (F ∷ [])) G) (length (B ++ (F ∷ [])))
          (λ q k. absurd (by_snoc B F G q (λ m. omega arith) (λ m. p (sym m)))) (λ q k. q)),
    ) (ap (λ X. G ∷ X) (absent_snoc B F Gs l))))
  where
    past : G ≡ F → length B ≤ number B G → number (B ++ (F ∷ [])) G ≡ length B
    past p h = number_past B (F ∷ []) G h ∙ rw (p, same_self F) (omega arith)

pub add_all : (B Fs : List Family) → foldl add B Fs ≡ B ++ distinct (absent B Fs)
add_all B [] = sym (append-nil B)
add_all B (F ∷ Fs) =
    by_held B F
    (λ h e. rw (e, lt-ltb (number B F) (length B) h) (add_all B Fs))
    (λ h e. rw (e, le-ltb (number B F) (length B) h)
    (add_all (B ++ (F ∷ [])) Fs ∙ append_assoc B (F ∷ []) (distinct (absent (B ++ (F ∷ [])) Fs)) ∙ rw (absent_snoc B F Fs h, distinct_except F (absent B Fs))))

-- placing appends exactly the different parts that are not held
pub place_appends : (B : List Family) (F : Family) → place B F ≡ B ++ distinct (absent B (parts F))
place_appends B F = place_parts B F ∙ add_all B (parts F)

pub place_length : (B : List Family) (F : Family) → length (place B F) ≡ length B + length (distinct (absent B (parts F)))
place_length B F = ap length (place_appends B F) ∙ length-append B (distinct (absent B (parts F)))

-- `distinct` lists each family of the list once, and nothing else
except_mem : (F G : Family) (Hs : List Family) → Memᴰ G (except F Hs) → Memᴰ G Hs × (G ≡ F → ⊥)
except_mem F G [] m = absurd (Memᴰ.not-nil m)
except_mem F G (H ∷ Hs) m =
    by_same H F
    (λ p e. let q = except_mem F G Hs (rw e at m) in (Memᴰ.tail q.0, q.1))
    (λ p e. ⊎_elim (λ q. (Memᴰ.head q, λ r. p (sym q ∙ r))) (λ q. let s = except_mem F G Hs q in (Memᴰ.tail s.0, s.1)) (Memᴰ.cases_cons (rw e at m)))

mem_except : (F G : Family) {Hs : List Family} → Memᴰ G Hs → (G ≡ F → ⊥) → Memᴰ G (except F Hs)
mem_except F G {Hs = []} m n = elim m [ ]
mem_except F G {Hs = H ∷ Hs} (Memᴰ.head q) n =
    by_same H F (λ p e. absurd (n (q ∙ p))) (λ p e. rw e (Memᴰ.head q))
mem_except F G {Hs = H ∷ Hs} (Memᴰ.tail m) n =
    by_same H F (λ p e. rw e (mem_except F G m n)) (λ p e. rw e (Memᴰ.tail (mem_except F G m n)))

pub distinct_mem : (G : Family) (Fs : List Family) → Memᴰ G (distinct Fs) → Memᴰ G Fs
distinct_mem G [] m = m
distinct_mem G (F ∷ Fs) m =
    ⊎_elim (λ q. Memᴰ.head q) (λ q. Memᴰ.tail (distinct_mem G Fs (except_mem F G (distinct Fs) q).0)) (Memᴰ.cases_cons m)

pub mem_distinct : (G : Family) {Fs : List Family} → Memᴰ G Fs → Memᴰ G (distinct Fs)
mem_distinct G {Fs = []} m = elim m [ ]
mem_distinct G {Fs = F ∷ Fs} (Memᴰ.head q) = Memᴰ.head q
mem_distinct G {Fs = F ∷ Fs} (Memᴰ.tail m) =
    by_same G F (λ p e. Memᴰ.head p) (λ p e. Memᴰ.tail (mem_except F G (mem_distinct G m) p))

nodup_except : (F : Family) (Gs : List Family) → Nodup Gs → Nodup (except F Gs)
nodup_except F [] d = Pairwise.nil
nodup_except F (G ∷ Gs) (Pairwise.cons f d) =
    by_test (same G F) (λ e. rw e (nodup_except F Gs d))
    (λ e. rw e (Pairwise.cons (λ H m q. ∥∥₁_elim m ⊥_prop (λ n. f H ∣ (except_mem F H Gs n).0 ∣₁ q)) (nodup_except F Gs d)))

pub distinct_nodup : (Fs : List Family) → Nodup (distinct Fs)
distinct_nodup [] = Pairwise.nil
distinct_nodup (F ∷ Fs) =
    Pairwise.cons (λ G m q. ∥∥₁_elim m ⊥_prop (λ n. (except_mem F G (distinct Fs) n).1 (sym q))) (nodup_except F (distinct Fs) (distinct_nodup Fs))

-- an empty store holds no part
pub absent_append : (B Fs Gs : List Family) → absent B (Fs ++ Gs) ≡ absent B Fs ++ absent B Gs
absent_append B [] Gs = refl
absent_append B (F ∷ Fs) Gs = by_test (held B F) (λ e. rw e (absent_append B Fs Gs)) (λ e. rw e (ap (λ X. F ∷ X) (absent_append B Fs Gs)))

pub absent_start : (F : Family) → absent start (parts F) ≡ parts F
absent_start empty = refl
absent_start base = refl
absent_start (node i a b) =
    rw (absent_append start (parts a) (parts b ++ (node i a b ∷ [])), absent_append start (parts b) (node i a b ∷ []), absent_start a, absent_start b, start_node i a b)

-- a book whose families all stand in another is no longer than it
except_le : (F : Family) (B : List Family) → length (except F B) ≤ length B
except_le F [] = omega arith
except_le F (G ∷ B) = by_test (same G F) (λ e. rw e (omega (arith, except_le F B))) (λ e. rw e (omega (arith, except_le F B)))

except_shorter : (F : Family) (B : List Family) → Held B F → length (except F B) < length B
except_shorter F [] h = absurd (omega arith)
except_shorter F (G ∷ B) h =
    by_test (same G F) (λ e. rw e (omega (arith, except_le F B))) (λ e. rw e (omega (arith, except_shorter F B (omega (arith, rw e at h)))))

except_held : (F G : Family) (B : List Family) → (F ≡ G → ⊥) → Held B G → Held (except F B) G
except_held F G [] n h = absurd (omega arith)
except_held F G (H ∷ B) n h =
    by_same H F
    (λ p e. rw e (except_held F G B n (by_same H G (λ q d. absurd (n (sym p ∙ q))) (λ q d. omega (arith, rw d at h)))))
    (λ p e. rw e (by_test (same H G) (λ d. rw d (omega arith)) (λ d. rw d (omega (arith, except_held F G B n (omega (arith, rw d at h)))))))

pub no_longer : (C B : List Family) → ((j k : ℕ) → j < k → k < length C → at C j ≡ at C k → ⊥) → ((k : ℕ) → k < length C → Held B (at C k)) → length C ≤ length B
no_longer [] B apart inside = omega arith
no_longer (F ∷ C) B apart inside =
    let s = except_shorter F B (inside 0 (omega arith)) in
    let r = no_longer C (except F B) (λ j k l m. apart (suc j) (suc k) (omega arith) (omega arith))
    (λ k l. except_held F (at C k) B (apart 0 (suc k) (omega arith) (omega arith)) (inside (suc k) (omega arith))) in
    omega arith
