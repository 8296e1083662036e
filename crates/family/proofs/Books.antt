-- Books: the number of a family, adding one, and what every book obeys.
-- A held family has the place where it first stands, an absent one the book's length; so appending keeps every
-- number, and the number of F after adding F is its number before.
use Prim.Native.Nat.{ℕ, zero, suc, ◌+◌, ◌≤◌, ◌<◌}
use mathlib.Core.Path.{◌≡◌, refl, sym, ap, ◌∙◌}
use mathlib.Core.Bool.{true, false, decide, decide_iff}
use mathlib.Core.List.{List, [], ◌∷◌, ◌++◌, append_assoc, append-nil}
use native.Mathlib.Decide.{ℕ_discrete}
use native.Mathlib.Omega.{arith}
use lib.ListN.{length, length-append, get_or-append, get_or-eq_default}
use lib.Seq.{get_or-append_seam}
use borrow.Author.Tests.{lt-ltb, le-ltb}
use Rattle.family.specs.Family.{Family, empty, base, node, Family-discrete, Within}
use Rattle.family.specs.Book.{start, same, at, number, Held, add, Grown, Book}
use Rattle.words.proofs.Cases.{by_test, by_lt, clash}

-- sameness is equality
pub same_true : (F G : Family) → same F G ≡ true → F ≡ G
unfolding same
same_true F G e = (decide_iff (Family-discrete ℕ_discrete F G)).0 e

pub same_self : (F : Family) → same F F ≡ true
unfolding same
same_self F = (decide_iff (Family-discrete ℕ_discrete F F)).1 refl

pub by_same {ℓ} : {A : Type ℓ} (F G : Family) → (F ≡ G → same F G ≡ true → A) → ((F ≡ G → ⊥) → same F G ≡ false → A) → A
by_same F G p q = by_test (same F G) (λ e. p (same_true F G e) e) (λ e. q (λ d. clash (rw (← d) (same_self F)) e) e)

-- numbers
pub number_le : (B : List Family) (F : Family) → number B F ≤ length B
number_le [] F = omega arith
number_le (G ∷ B) F = by_test (same G F) (λ e. rw e (omega arith)) (λ e. rw e (omega (arith, number_le B F)))

pub number_at : (B : List Family) (F : Family) → Held B F → at B (number B F) ≡ F
number_at [] F h = absurd (omega arith)
number_at (G ∷ B) F h = by_same G F (λ p e. rw e p) (λ p e. rw e (number_at B F (omega (arith, rw e at h))))

pub number_inj : (B : List Family) (F G : Family) → Held B F → Held B G → number B F ≡ number B G → F ≡ G
number_inj B F G h k e = cc (number_at B F h, number_at B G k)

pub number_append : (B C : List Family) (F : Family) → Held B F → number (B ++ C) F ≡ number B F
number_append [] C F h = absurd (omega arith)
number_append (G ∷ B) C F h = by_test (same G F) (λ e. rw e) (λ e. rw e (ap suc (number_append B C F (omega (arith, rw e at h)))))

pub number_past : (B C : List Family) (F : Family) → length B ≤ number B F → number (B ++ C) F ≡ length B + number C F
number_past [] C F h = omega arith
number_past (G ∷ B) C F h =
    by_test (same G F) (λ e. absurd (omega (arith, rw e at h)))
    (λ e. rw e (omega (arith, number_past B C F (omega (arith, rw e at h)))))

-- growing
pub grown_self : (B : List Family) → Grown B B
grown_self B = record { new = []; eq = sym (append-nil B) }

pub grown_trans : {B C D : List Family} → Grown B C → Grown C D → Grown B D
grown_trans {B} g h = record { new = g.new ++ h.new; eq = rw (h.eq, g.eq, append_assoc) }

pub grown_length : {B C : List Family} → Grown B C → length B ≤ length C
grown_length {B} g = omega (arith, ap length g.eq, length-append B g.new)

module _ {B C : List Family} (g : Grown B C) (F : Family) (h : Held B F) where
  pub grown_number : number C F ≡ number B F
  grown_number = rw g.eq (number_append B g.new F h)

  pub grown_held : Held C F
  grown_held = omega (arith, grown_number, ap length g.eq, length-append B g.new)

pub grown_at : {B C : List Family} → Grown B C → (k : ℕ) → k < length B → at C k ≡ at B k
grown_at {B} g k h = rw g.eq (get_or-append B g.new empty k h)

-- a grown book has the same families below the old length
pub held_back : {C B : List Family} → Grown C B → (F : Family) → number B F < length C → Held C F
held_back {C} {B} g F h =
    by_lt (number C F) (length C) (λ p e. p) (λ p e. absurd (omega (arith, rw g.eq at h, number_past C g.new F p)))

-- adding one
pub add_same : (B : List Family) (F : Family) → Held B F → add B F ≡ B
unfolding add
add_same B F h = rw (lt-ltb _ _ h)

pub add_new : (B : List Family) (F : Family) → length B ≤ number B F → add B F ≡ B ++ (F ∷ [])
unfolding add
add_new B F h = rw (le-ltb _ _ h)

pub by_held {ℓ} : {A : Type ℓ} (B : List Family) (F : Family) → (Held B F → add B F ≡ B → A) → (length B ≤ number B F → add B F ≡ B ++ (F ∷ []) → A) → A
by_held B F p q = by_lt (number B F) (length B) (λ h e. p h (add_same B F h)) (λ h e. q h (add_new B F h))

pub number_new : (B : List Family) (F : Family) → length B ≤ number B F → number (B ++ (F ∷ [])) F ≡ length B
number_new B F h = number_past B (F ∷ []) F h ∙ rw (same_self F) (omega arith)

pub number_add : (B : List Family) (F : Family) → number (add B F) F ≡ number B F
number_add B F = by_held B F (λ h e. rw e) (λ h e. rw (e, number_new B F h) (omega (arith, number_le B F)))

pub add_grown : (B : List Family) (F : Family) → Grown B (add B F)
add_grown B F = by_held B F (λ h e. rw e (grown_self B)) (λ h e. record { new = F ∷ []; eq = e })

pub add_held : (B : List Family) (F : Family) → Held (add B F) F
add_held B F = by_held B F (λ h e. rw e h) (λ h e. rw (e, number_new B F h) (omega (arith, length-append B (F ∷ []))))

pub add_length : (B : List Family) (F : Family) → length B ≤ number B F → length (add B F) ≡ length B + 1
add_length B F h = rw (add_new B F h, length-append)

pub by_snoc {ℓ} : {A : Type ℓ} (B : List Family) (G F : Family) → Held (B ++ (G ∷ [])) F → (Held B F → A) → (G ≡ F → A) → A
by_snoc B G F h p q =
    by_lt (number B F) (length B) (λ l e. p l)
    (λ l e. by_same G F (λ d k. q d) (λ d k. absurd (omega (arith, rw k at (number_past B (G ∷ []) F l), length-append B (G ∷ []), h))))

pub by_added {ℓ} : {A : Type ℓ} (B : List Family) (N F : Family) → Held (add B N) F → (Held B F → A) → (N ≡ F → A) → A
by_added B N F h p q = by_held B N (λ l e. p (rw e at h)) (λ l e. by_snoc B N F (rw e at h) p q)

-- the book of no calls
pub start_node : (i : ℕ) (a b : Family) → number start (node i a b) ≡ 2
unfolding same ℕ_discrete decide
start_node i a b = refl

start_empty : number start empty ≡ 0
unfolding same ℕ_discrete decide
start_empty = refl

start_base : number start base ≡ 1
unfolding same ℕ_discrete decide
start_base = refl

start_unique : (k : ℕ) → k < 2 → number start (at start k) ≡ k
start_unique zero h = start_empty
start_unique (suc zero) h = start_base
start_unique (suc (suc k)) h = absurd (omega arith)

start_within : (t : ℕ) (F : Family) → Held start F → Within t F
start_within t empty h = record { ordered = tt; low = omega arith }
start_within t base h = record { ordered = tt; low = omega arith }
start_within t (node i a b) h = absurd (omega (arith, start_node i a b))

pub book_start : (t : ℕ) → Book t start
book_start t =
    record {
      begins = grown_self start;
      unique = start_unique;
      below = λ i a b h. absurd (omega (arith, start_node i a b));
      within = start_within t;
    }

module _ {t : ℕ} (B : List Family) (k : Book t B) where
  pub number_empty : number B empty ≡ 0
  number_empty = grown_number k.begins empty (omega (arith, start_empty)) ∙ start_empty

  pub number_base : number B base ≡ 1
  number_base = grown_number k.begins base (omega (arith, start_base)) ∙ start_base

  pub held_empty : Held B empty
  held_empty = grown_held k.begins empty (omega (arith, start_empty))

  pub held_base : Held B base
  held_base = grown_held k.begins base (omega (arith, start_base))

  pub held_at : (n : ℕ) → n < length B → Held B (at B n)
  held_at n h = omega (arith, k.unique n h)

  -- every number means a family that is held: {}, where it stands past the end
  pub at_held : (n : ℕ) → Held B (at B n)
  at_held n = by_lt n (length B) (λ h e. held_at n h) (λ h e. rw (get_or-eq_default B empty {n = n} h) held_empty)

  pub at_within : (n : ℕ) → Within t (at B n)
  at_within n = k.within (at B n) (at_held n)

  pub two_long : 2 ≤ length B
  two_long = omega (arith, ap length k.begins.eq)

  -- past the first two a book has nodes
  pub is_node : (j : ℕ) → suc (suc j) < length B → (F : Family) → at B (suc (suc j)) ≡ F → (i : ℕ) × (a : Family) × (b : Family) × (F ≡ node i a b)
  is_node j l empty e = absurd (omega (arith, rw e at (k.unique (suc (suc j)) l), number_empty))
  is_node j l base e = absurd (omega (arith, rw e at (k.unique (suc (suc j)) l), number_base))
  is_node j l (node i a b) e = (i, a, b, refl)

-- a book with one more node, whose sides it holds
pub book_add : {t : ℕ} (B : List Family) (i : ℕ) (a b : Family) → Book t B → Within t (node i a b) → Held B a → Held B b → Book t (add B (node i a b))
book_add {t} B i a b k o ha hb = by_held B (node i a b) (λ h e. rw e k) (λ h e. rw e (snoc h))
  where
    N : Family
    N = node i a b

    kept : (j : ℕ) (c d : Family) → Held B (node j c d)
        → (number (B ++ (N ∷ [])) c < number (B ++ (N ∷ [])) (node j c d)) × (number (B ++ (N ∷ [])) d < number (B ++ (N ∷ [])) (node j c d))
    kept j c d m =
        let q = k.below j c d m in
        rw (number_append B (N ∷ []) c (omega arith), number_append B (N ∷ []) d (omega arith), number_append B (N ∷ []) (node j c d) m) q

    fresh : length B ≤ number B N → (j : ℕ) (c d : Family) → N ≡ node j c d
        → (number (B ++ (N ∷ [])) c < number (B ++ (N ∷ [])) (node j c d)) × (number (B ++ (N ∷ [])) d < number (B ++ (N ∷ [])) (node j c d))
    fresh l j c d e =
        let ea : a ≡ c = cc in
        let eb : b ≡ d = cc in
        rw (← e, ← ea, ← eb, number_new B N l, number_append B (N ∷ []) a ha, number_append B (N ∷ []) b hb) (ha, hb)

    snoc : length B ≤ number B N → Book t (B ++ (N ∷ []))
    snoc l =
        let g : Grown B (B ++ (N ∷ [])) = record { new = N ∷ []; eq = refl } in
        record {
          begins = grown_trans k.begins g;
          unique = λ j h. by_lt j (length B)
              (λ m e. rw (get_or-append B (N ∷ []) empty j m) (let q = k.unique j m in number_append B (N ∷ []) (at B j) (omega arith) ∙ q))
              (λ m e. let p : j ≡ length B = omega (arith, length-append B (N ∷ [])) in rw (p, get_or-append_seam B N [] empty) (number_new B N l));
          below = λ j c d h. by_snoc B N (node j c d) h (kept j c d) (fresh l j c d);
          within = λ F h. by_snoc B N F h (λ m. k.within F m) (λ e. rw (← e) o);
        }
