-- Placing: it is the fold of adding over the parts, only appends, keeps a book a book, and leaves every part held;
-- placing again changes nothing.
-- Each law is an induction on the family; that no book on the way is longer than the last follows since each step
-- only appends.
use Prim.Native.Nat.{ℕ, suc, ◌≤◌, ◌<◌}
use mathlib.Core.Path.{◌≡◌, refl, sym, ap, ◌∙◌}
use mathlib.Core.List.Memᴰ
use mathlib.Core.List.{List, [], ◌∷◌, ◌++◌, append_assoc, append-nil, foldl, foldl-append, Memᴰ}
use mathlib.Core.Logic.{◌⊎◌, inl, inr, ⊎_elim}
use native.Mathlib.Omega.{arith}
use lib.Dec.{T}
use lib.ListN.{length, drop, length-append}
use Rattle.family.specs.Family.{Family, empty, base, node, Ordered, Within, top, mk, parts}
use Rattle.family.specs.Book.{start, number, Held, add, place, made, Grown, Book}
use Rattle.words.proofs.Cases.{by_lt}
use Rattle.family.proofs.Books.{number_le, number_add, add_same, add_new, add_grown, add_held, by_added, grown_self, grown_trans, grown_length, grown_held, start_node, held_empty, held_base, book_add}

pub place_parts : (B : List Family) (F : Family) → place B F ≡ foldl add B (parts F)
place_parts B empty = refl
place_parts B base = refl
place_parts B (node i a b) = rw (foldl-append, foldl-append, ← place_parts B a, ← place_parts (place B a) b)

pub place_grown : (B : List Family) (F : Family) → Grown B (place B F)
place_grown B empty = grown_self B
place_grown B base = grown_self B
place_grown B (node i a b) = grown_trans (place_grown B a) (grown_trans (place_grown (place B a) b) (add_grown (place (place B a) b) (node i a b)))

sides_within : {t i : ℕ} {a b : Family} → Within t (node i a b) → Within t a × Within t b
sides_within h = (record { ordered = h.ordered.3; low = omega arith }, record { ordered = h.ordered.4; low = omega arith })

pub book_place : {t : ℕ} (B : List Family) (F : Family) → Book t B → Within t F → Book t (place B F) × Held (place B F) F
book_place B empty k o = (k, held_empty B k)
book_place B base k o = (k, held_base B k)
book_place B (node i a b) k o =
    let p = book_place B a k (sides_within o).0 in
    let q = book_place (place B a) b p.0 (sides_within o).1 in
    (book_add (place (place B a) b) i a b q.0 o (grown_held (place_grown (place B a) b) a p.1) q.1, add_held (place (place B a) b) (node i a b))

-- placing what is held changes nothing
pub place_held : {t : ℕ} (B : List Family) (F : Family) → Book t B → Held B F → place B F ≡ B
place_held B empty k h = refl
place_held B base k h = refl
place_held B (node i a b) k h =
    let q = k.below i a b h in
    rw (place_held B a k (omega arith), place_held B b k (omega arith)) (add_same B (node i a b) h)

pub place_again : {t : ℕ} (B : List Family) (F : Family) → Book t B → Within t F → place (place B F) F ≡ place B F
place_again B F k o = let q = book_place B F k o in place_held (place B F) F q.0 q.1

-- every part is then held, and nothing else is new
pub parts_held : (B : List Family) (F G : Family) → Memᴰ G (parts F) → Held (place B F) G
parts_held B empty G m = elim m [ ]
parts_held B base G m = elim m [ ]
parts_held B (node i a b) G m =
    let C = place (place B a) b in
    ⊎_elim
    (λ l. grown_held (add_grown C (node i a b)) G (grown_held (place_grown (place B a) b) G (parts_held B a G l)))
    (λ r. ⊎_elim
    (λ q. grown_held (add_grown C (node i a b)) G (parts_held (place B a) b G q))
    (λ s. let e : G ≡ node i a b = Memᴰ.eq_of_singleton s in rw e (add_held C (node i a b)))
    (Memᴰ.append_cases (parts b) r))
    (Memᴰ.append_cases (parts a) m)

pub place_only : (B : List Family) (F G : Family) → Held (place B F) G → Held B G ⊎ Memᴰ G (parts F)
place_only B empty G h = inl h
place_only B base G h = inl h
place_only B (node i a b) G h =
    by_added (place (place B a) b) (node i a b) G h
    (λ p. ⊎_elim
    (λ q. ⊎_elim (λ r. inl r) (λ m. inr (Memᴰ.append_left (parts b ++ (node i a b ∷ [])) m)) (place_only B a G q))
    (λ m. inr (Memᴰ.append_right (parts a) (Memᴰ.append_left (node i a b ∷ []) m)))
    (place_only (place B a) b G p))
    (λ e. inr (Memᴰ.append_right (parts a) (Memᴰ.append_right (parts b) (Memᴰ.head (sym e)))))

-- placing what `mk` gives: a, then b, then the node
pub place_mk : (B : List Family) (i : ℕ) (a b : Family) → place B (mk i a b) ≡ made (place (place B a) b) i a b
place_mk B i a empty = refl
place_mk B i a base = refl
place_mk B i a (node j c d) = refl

pub number_made : (B : List Family) (i : ℕ) (a b : Family) → number (made B i a b) (mk i a b) ≡ number B (mk i a b)
number_made B i a empty = refl
number_made B i a base = number_add B (node i a base)
number_made B i a (node j c d) = number_add B (node i a (node j c d))

pub made_grown : (B : List Family) (i : ℕ) (a b : Family) → Grown B (made B i a b)
made_grown B i a empty = grown_self B
made_grown B i a base = add_grown B (node i a base)
made_grown B i a (node j c d) = add_grown B (node i a (node j c d))

-- no book on the way is longer than the last
pub room_first : (B : List Family) (i : ℕ) (a b : Family) → length (place B a) ≤ length (place B (mk i a b))
room_first B i a b = rw place_mk (grown_length (grown_trans (place_grown (place B a) b) (made_grown (place (place B a) b) i a b)))

pub room_second : (B : List Family) (i : ℕ) (a b : Family) → length (place (place B a) b) ≤ length (place B (mk i a b))
room_second B i a b = rw place_mk (grown_length (made_grown (place (place B a) b) i a b))

-- what a family with a lower top brings into a book has a lower top
pub held_below : (C : List Family) (a G : Family) → Ordered a → top a < top G → Held (place C a) G → Held C G
held_below C empty G o l h = h
held_below C base G o l h = h
held_below C (node i a b) G o l h =
    by_added (place (place C a) b) (node i a b) G h
    (λ m. held_below C a G o.3 (omega arith) (held_below (place C a) b G o.4 (omega arith) m))
    (λ e. absurd (omega (arith, ap top e)))

-- a family with parts is the last of its own book
pub place_last : (i : ℕ) (a b : Family) → Ordered (node i a b) → suc (number (place start (node i a b)) (node i a b)) ≡ length (place start (node i a b))
place_last i a b o =
    rw (number_add D (node i a b), add_new D (node i a b) missing) (omega (arith, length-append D (node i a b ∷ []), missing, number_le D (node i a b)))
  where
    D : List Family
    D = place (place start a) b

    missing : length (place (place start a) b) ≤ number (place (place start a) b) (node i a b)
    missing =
        by_lt (number (place (place start a) b) (node i a b)) (length (place (place start a) b))
        (λ p e. let r = held_below start a (node i a b) o.3 (omega arith) (held_below (place start a) b (node i a b) o.4 (omega arith) p) in absurd (omega (arith, start_node i a b)))
        (λ p e. p)

-- What adding some families appends to a book, added to another book that holds all of the first one's.
record Appended (T S Fs : List Family) : Type 0 where
  new : List Family
  eq : foldl add T Fs ≡ T ++ new
  same : foldl add S new ≡ foldl add S Fs

appended : (Fs T S : List Family) → ((G : Family) → Held T G → Held S G) → Appended T S Fs
appended [] T S h = record { new = []; eq = sym (append-nil T); same = refl }
appended (F ∷ Fs) T S h =
    by_lt (number T F) (length T)
    (λ l e. let r = appended Fs T S h in
    record { new = r.new; eq = rw (add_same T F l) r.eq; same = r.same ∙ rw (add_same S F (h F l)) })
    (λ l e.
    let r = appended Fs (add T F) (add S F) (λ G k. by_added T F G k (λ m. grown_held (add_grown S F) G (h G m)) (λ d. rw (← d) (add_held S F))) in
    record { new = F ∷ r.new; eq = r.eq ∙ ap (λ X. X ++ r.new) (add_new T F l) ∙ append_assoc T (F ∷ []) r.new; same = r.same })

-- adding the families of F's own book, in its order, is placing F
pub place_own : {t : ℕ} (B : List Family) (F : Family) → Book t B → foldl add B (drop 2 (place start F)) ≡ place B F
place_own B F w =
    let r = appended (parts F) start B (λ G h. grown_held w.begins G h) in
    ap (λ X. foldl add B (drop 2 X)) (place_parts start F ∙ r.eq) ∙ r.same ∙ sym (place_parts B F)
