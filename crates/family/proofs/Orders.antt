-- The placing order, as a walk over a book: the walk from a family passes exactly when the book is what placing that
-- family gives.
-- Both directions are one induction on the family, which carries the book placed so far.
use Prim.Native.Nat.{ℕ, suc, ◌<◌, ◌≤◌}
use mathlib.Core.Path.{◌≡◌, refl, sym, ap, ◌∙◌}
use mathlib.Core.Bool.{Bool, true, false, cond}
use mathlib.Core.List.{List, [], ◌∷◌, ◌++◌, append_assoc, append-nil}
use mathlib.Core.Option.{Option, none, some}
use native.Mathlib.Omega.{arith}
use lib.Dec.{eqb}
use lib.ListN.{length, length-append}
use lib.Seq.{get_or-append_seam}
use borrow.Author.Tests.{eq-eqb, eqb-true}
use Rattle.family.specs.Family.{Family, empty, base, node, Ordered, Within}
use Rattle.family.specs.Book.{at, number, Held, add, place, Grown, Book}
use Rattle.family.specs.File.{and_then, order}
use Rattle.words.proofs.Cases.{by_lt}
use Rattle.family.proofs.Books.{number_le, number_at, number_add, grown_trans, grown_number, held_back, add_new, add_grown, add_held}
use Rattle.family.proofs.Placing.{place_grown, book_place, place_held, held_below}
use Rattle.family.proofs.Records.{not_some}

pub and_then_inv : {A B : Type 0} {P : Type 0} (g : Option A) (k : A → Option B) (y : B) → and_then g k ≡ some y → ((x : A) → g ≡ some x → k x ≡ some y → P) → P
and_then_inv none k y e f = not_some e
and_then_inv (some x) k y e f = f x refl e

pub cond_inv : {A : Type 0} {P : Type 0} (t : Bool) (x : Option A) (y : A) → cond t x none ≡ some y → (t ≡ true → x ≡ some y → P) → P
cond_inv true x y e f = f refl e
cond_inv false x y e f = not_some e

-- a book that has F next
grown_one : {D B : List Family} (F : Family) → Grown D B → number B F ≡ length D → Held B F → Grown (D ++ (F ∷ [])) B
grown_one {D} {B} F g e h = go g.new g.eq
  where
    go : (new : List Family) → B ≡ D ++ new → Grown (D ++ (F ∷ [])) B
    go [] q = absurd (omega (arith, ap length q, length-append D []))
    go (G ∷ new) q =
        let p : G ≡ F = sym (get_or-append_seam D G new empty) ∙ ap (λ X. at X (length D)) (sym q) ∙ ap (λ n. at B n) (sym e) ∙ number_at B F h in
        record { new = new; eq = rw (q, p, append_assoc) }

-- a book that grows to one of its own length is that book
pub grown_all : {C B : List Family} → Grown C B → length C ≡ length B → C ≡ B
grown_all {C} {B} g e = go g.new g.eq
  where
    go : (new : List Family) → B ≡ C ++ new → C ≡ B
    go [] q = rw (q, append-nil)
    go (G ∷ new) q = absurd (omega (arith, ap length q, length-append C (G ∷ new)))

-- placing F on C stays a beginning of B, and ends at number m
pub record Placed (C B : List Family) (F : Family) (m : ℕ) : Type 0 where
  pub grows : Grown (place C F) B
  pub ends : length (place C F) ≡ m

module _ {limit : ℕ} (B : List Family) (w : Book limit B) where
  held_here : {C : List Family} (F : Family) → Book limit C → Grown C B → number B F < length C → place C F ≡ C
  held_here {C} F v g l = place_held C F v (held_back g F l)

  last_one : {D : List Family} (i : ℕ) (a b : Family) → Grown D B → Held B (node i a b) → number B (node i a b) ≡ length D → add D (node i a b) ≡ D ++ (node i a b ∷ [])
  last_one {D} i a b g h e =
      add_new D (node i a b) (by_lt (number D (node i a b)) (length D) (λ l k. absurd (omega (arith, grown_number g (node i a b) l))) (λ l k. l))

  finish : (D : List Family) (i : ℕ) (a b : Family) (n m : ℕ) → Grown D B → length D ≡ n → Held B (node i a b) → n ≡ number B (node i a b) → ◌≡◌ {A = Option ℕ} (some (suc n)) (some m)
      → Grown (add D (node i a b)) B × (length (add D (node i a b)) ≡ m)
  finish D i a b n m g e h q d =
      let p : number B (node i a b) ≡ length D = omega arith in
      let k : suc n ≡ m = cc in
      rw (last_one i a b g h p) (grown_one (node i a b) g p h, omega (arith, length-append D (node i a b ∷ [])))

  pub order_sound : (F : Family) (C : List Family) → Book limit C → Grown C B → Held B F → (m : ℕ) → order B F (length C) ≡ some m → Placed C B F m
  order_sound empty C v g h m e = record { grows = g; ends = cc }
  order_sound base C v g h m e = record { grows = g; ends = cc }
  order_sound (node i a b) C v g h m e =
      by_lt (number B (node i a b)) (length C)
      (λ l t. let k : some (length C) ≡ some m = rw t at e in
      let s : place C (node i a b) ≡ C = held_here (node i a b) v g l in
      record { grows = rw s g; ends = rw s (cc) })
      (λ l t.
      let o = w.within (node i a b) h in
      let q = w.below i a b h in
      let oa : Within limit a = record { ordered = o.ordered.3; low = omega (arith, o.low, o.ordered.0) } in
      and_then_inv (order B a (length C)) (λ n₁. and_then (order B b n₁) (λ n₂. cond (eqb n₂ (number B (node i a b))) (some (suc n₂)) none)) m (rw t at e) (λ n₁ e₁ k₁.
      let ra = order_sound a C v g (omega arith) n₁ e₁ in
      and_then_inv (order B b n₁) (λ n₂. cond (eqb n₂ (number B (node i a b))) (some (suc n₂)) none) m k₁ (λ n₂ e₂ k₂.
      let rb = order_sound b (place C a) (book_place C a v oa).0 ra.grows (omega arith) n₂ (rw ra.ends e₂) in
      cond_inv (eqb n₂ (number B (node i a b))) (some (suc n₂)) m k₂ (λ t₂ d.
      let z = finish (place (place C a) b) i a b n₂ m rb.grows rb.ends h (eqb-true _ _ t₂) d in
      record { grows = z.0; ends = z.1 }))))

  -- a node that stands later in B is not among what its sides bring
  missing : (C : List Family) (i : ℕ) (a b : Family) → Ordered (node i a b) → Grown C B → length C ≤ number B (node i a b) → length (place (place C a) b) ≤ number (place (place C a) b) (node i a b)
  missing C i a b o g l =
      by_lt (number (place (place C a) b) (node i a b)) (length (place (place C a) b))
      (λ p e.
      let r = held_below C a (node i a b) o.3 (omega arith) (held_below (place C a) b (node i a b) o.4 (omega arith) p) in
      absurd (omega (arith, grown_number g (node i a b) r)))
      (λ p e. p)

  pub order_complete : (F : Family) (C : List Family) → Book limit C → Held B F → Grown (place C F) B → order B F (length C) ≡ some (length (place C F))
  order_complete empty C v h g = refl
  order_complete base C v h g = refl
  order_complete (node i a b) C v h g =
      by_lt (number B (node i a b)) (length C)
      (λ l t. rw (t, held_here (node i a b) v (grown_trans (place_grown C (node i a b)) g) l))
      (λ l t.
      let o = w.within (node i a b) h in
      let q = w.below i a b h in
      let oa : Within limit a = record { ordered = o.ordered.3; low = omega (arith, o.low, o.ordered.0) } in
      let gD = grown_trans (add_grown (place (place C a) b) (node i a b)) g in
      let gA = grown_trans (place_grown (place C a) b) gD in
      let gC = grown_trans (place_grown C a) gA in
      let ra = order_complete a C v (omega arith) gA in
      let rb = order_complete b (place C a) (book_place C a v oa).0 (omega arith) gD in
      let n = missing C i a b o.ordered gC l in
      let k : number B (node i a b) ≡ length (place (place C a) b) =
      grown_number g (node i a b) (add_held (place (place C a) b) (node i a b)) ∙ number_add (place (place C a) b) (node i a b) ∙ omega (arith, number_le (place (place C a) b) (node i a b)) in
      rw (t, ra, rb, eq-eqb _ _ (sym k), add_new (place (place C a) b) (node i a b) n, length-append (place (place C a) b) (node i a b ∷ [])) (ap (λ x. some x) (omega arith)))
