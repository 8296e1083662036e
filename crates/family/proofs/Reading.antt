-- The records of a file, taken into a local book one after another: what is read is a book whose records are exactly
-- the bytes, and the records of a book are read back as that book.
-- A triple is taken exactly when its node is the book's next one, so each step adds one node to a book within the
-- limit.
use Prim.Native.Nat.{ℕ, zero, suc, ◌<◌, ◌≤◌}
use mathlib.Core.Path.{◌≡◌, refl, sym, ap, ◌∙◌}
use mathlib.Core.Bool.{true, cond}
use mathlib.Core.List.{List, [], ◌∷◌, ◌++◌, append_assoc, append-nil}
use mathlib.Core.Option.{Option, none, some}
use native.Mathlib.Omega.{arith}
use lib.Dec.{T, leb}
use lib.ListN.{length, length-append}
use lib.Seq.{get_or-append_seam}
use borrow.Author.Tests.{lt-ltb, le-ltb, le-leb, ltb-true, ltb-false, leb-true, not-true}
use Rattle.family.specs.Family.{Family, empty, base, node, top, inhabited, Within}
use Rattle.family.specs.Book.{at, number, Held, Grown, Book}
use Rattle.family.specs.Record.{Bytes, front, Triple, triple, item_of, record_bytes, read_record}
use Rattle.family.specs.File.{triples_of, records_bytes, node_of, fits, read_records}
use Rattle.words.proofs.Cases.{by_lt, and_inv}
use Rattle.family.proofs.Books.{number_at, grown_number, grown_held, held_back, held_at, add_new, number_empty, number_base, two_long, book_add}
use Rattle.family.proofs.Records.{not_some, then_inv, record_sound, record_complete}
use Rattle.family.proofs.Orders.{cond_inv}

-- what the test of a triple says
pub record Next (limit : ℕ) (C : List Family) (i z o : ℕ) : Type 0 where
  pub item : i ≤ limit
  pub zero_in : z < length C
  pub one_in : o < length C
  pub one_some : 0 < o
  pub zero_low : top (at C z) < i
  pub one_low : top (at C o) < i
  pub new : length C ≤ number C (node i (at C z) (at C o))

module _ (limit : ℕ) where
  pub fits_next : (C : List Family) (i z o : ℕ) → fits limit C (triple i z o) ≡ true → Next limit C i z o
  unfolding fits
  fits_next C i z o e =
      and_inv (leb i limit) _ e (λ a e. and_inv _ _ e (λ b e. and_inv _ _ e (λ c e. and_inv _ _ e (λ d e. and_inv _ _ e (λ f e. and_inv _ _ e (λ g e.
      record {
        item = leb-true i limit a;
        zero_in = ltb-true _ _ b;
        one_in = ltb-true _ _ c;
        one_some = ltb-true _ _ d;
        zero_low = ltb-true _ _ f;
        one_low = ltb-true _ _ g;
        new = ltb-false _ _ (not-true _ e);
      }))))))

  pub next_fits : (C : List Family) (i z o : ℕ) → Next limit C i z o → fits limit C (triple i z o) ≡ true
  unfolding fits
  next_fits C i z o f =
      rw (
        le-leb i limit f.item,
        lt-ltb z (length C) f.zero_in,
        lt-ltb o (length C) f.one_in,
        lt-ltb 0 o f.one_some,
        lt-ltb (top (at C z)) i f.zero_low,
        lt-ltb (top (at C o)) i f.one_low,
        le-ltb (number C (node i (at C z) (at C o))) (length C) f.new,
      )

pub not_empty : (F : Family) → (F ≡ empty → ⊥) → T (inhabited F)
not_empty empty n = absurd (n refl)
not_empty base n = tt
not_empty (node i a b) n = tt

module _ {limit : ℕ} (C : List Family) (w : Book limit C) (i z o : ℕ) (f : Next limit C i z o) where
  one_not : at C o ≡ empty → ⊥
  one_not e = omega (arith, f.one_some, rw e at (w.unique o f.one_in), number_empty C w)

  pub next_within : Within limit (node i (at C z) (at C o))
  next_within =
      record {
        ordered = (f.zero_low, f.one_low, not_empty (at C o) one_not, (w.within (at C z) (held_at C w z f.zero_in)).ordered, (w.within (at C o) (held_at C w o f.one_in)).ordered);
        low = f.item;
      }

  pub book_next : Book limit (C ++ (node i (at C z) (at C o) ∷ []))
  book_next =
      rw (← add_new C (node i (at C z) (at C o)) f.new)
      (book_add C i (at C z) (at C o) w next_within (held_at C w z f.zero_in) (held_at C w o f.one_in))

-- what reading k records gives
pub record Taken (limit k : ℕ) (C : List Family) (pi pn : ℕ) (l : List ℕ) (B : List Family) : Type 0 where
  pub book : Book limit B
  pub new : List Family
  pub eq : B ≡ C ++ new
  pub count : length new ≡ k
  pub bytes : records_bytes pi pn (triples_of B new) ≡ l

pub records_sound : (limit k : ℕ) (C : List Family) (pi pn : ℕ) (l : List ℕ) → Book limit C → Bytes l → (B : List Family) → read_records limit k C pi pn l ≡ some B → Taken limit k C pi pn l B
records_sound limit zero C pi pn [] w h B e = let p : C ≡ B = cc in record { book = rw p at w; new = []; eq = rw (append-nil, p); count = refl; bytes = refl }
records_sound limit zero C pi pn (x ∷ l) w h B e = not_some e
records_sound limit (suc k) C pi pn l w h B e =
    then_inv (read_record pi pn l) (λ t r. cond (fits limit C t) (read_records limit k (C ++ (node_of C t ∷ [])) (item_of t) (suc pn) r) none) B e
    (λ t r e₁ k₁. cond_inv (fits limit C t) (read_records limit k (C ++ (node_of C t ∷ [])) (item_of t) (suc pn) r) B k₁
    (λ p d. step t r e₁ p (λ w' h'. records_sound limit k (C ++ (node_of C t ∷ [])) (item_of t) (suc pn) r w' h' B d)))
  where
    step : (t : Triple) (r : List ℕ) → read_record pi pn l ≡ some (front t r) → fits limit C t ≡ true
        → (Book limit (C ++ (node_of C t ∷ [])) → Bytes r → Taken limit k (C ++ (node_of C t ∷ [])) (item_of t) (suc pn) r B) → Taken limit (suc k) C pi pn l B
    step (triple i z o) r e₁ p ih =
        let f = fits_next limit C i z o p in
        let s = record_sound pi pn l h (triple i z o) r e₁ in
        let N = node i (at C z) (at C o) in
        let t = ih (book_next C w i z o f) s.1 in
        let q : B ≡ C ++ (N ∷ t.new) = t.eq ∙ append_assoc C (N ∷ []) t.new in
        let g : Grown C B = record { new = N ∷ t.new; eq = q } in
        let gz : number B (at C z) ≡ z = grown_number g (at C z) (held_at C w z f.zero_in) ∙ w.unique z f.zero_in in
        let go : number B (at C o) ≡ o = grown_number g (at C o) (held_at C w o f.one_in) ∙ w.unique o f.one_in in
        record { book = t.book; new = N ∷ t.new; eq = q; count = ap suc t.count; bytes = rw (gz, go, t.bytes) s.0 }

-- the node that stands next in a book B that begins with C
pub seam_number : {limit : ℕ} (C B new : List Family) (N : Family) → Book limit B → B ≡ C ++ (N ∷ new) → number B N ≡ length C
seam_number C B new N v e =
    ap (λ X. number B X) (sym (ap (λ X. at X (length C)) e ∙ get_or-append_seam C N new empty))
    ∙ v.unique (length C) (omega (arith, ap length e, length-append C (N ∷ new)))

record Follows (limit : ℕ) (C B : List Family) (i : ℕ) (a b : Family) : Type 0 where
  ok : Next limit C i (number B a) (number B b)
  left : at C (number B a) ≡ a
  right : at C (number B b) ≡ b
  book : Book limit (C ++ (node i a b ∷ []))

follows : {limit : ℕ} (C B new : List Family) (i : ℕ) (a b : Family) → Book limit C → Book limit B → B ≡ C ++ (node i a b ∷ new) → Follows limit C B i a b
follows {limit} C B new i a b w v e =
    record { ok = ok; left = left; right = right; book = rw (← add_new C (node i a b) missing) (book_add C i a b w ord ha hb) }
  where
    g : Grown C B
    g = record { new = node i a b ∷ new; eq = e }

    long : length C < length B
    long = omega (arith, ap length e, length-append C (node i a b ∷ new))

    num : number B (node i a b) ≡ length C
    num = seam_number C B new (node i a b) v e

    stands : Held B (node i a b)
    stands = omega (arith, num, long)

    ord : Within limit (node i a b)
    ord = v.within (node i a b) stands

    ha : Held C a
    ha = held_back g a (omega (arith, num, (v.below i a b stands).0))

    hb : Held C b
    hb = held_back g b (omega (arith, num, (v.below i a b stands).1))

    left : at C (number B a) ≡ a
    left = rw (grown_number g a ha) (number_at C a ha)

    right : at C (number B b) ≡ b
    right = rw (grown_number g b hb) (number_at C b hb)

    missing : length C ≤ number C (node i a b)
    missing = by_lt (number C (node i a b)) (length C) (λ p k. absurd (omega (arith, num, grown_number g (node i a b) p))) (λ p k. p)

    positive : (F : Family) → T (inhabited F) → Held B F → 0 < number B F
    positive empty t h = absurd t
    positive base t h = omega (arith, number_base B v)
    positive (node j c d) t h = omega (arith, (v.below j c d h).0)

    ok : Next limit C i (number B a) (number B b)
    ok =
        record {
          item = ord.low;
          zero_in = omega (arith, grown_number g a ha, ha);
          one_in = omega (arith, grown_number g b hb, hb);
          one_some = positive b ord.ordered.2 (grown_held g b hb);
          zero_low = rw left ord.ordered.0;
          one_low = rw right ord.ordered.1;
          new = rw (left, right) missing;
        }

-- a book after whose records the bytes end
abbrev pub ends : List Family → List ℕ → Option (List Family)
ends B [] = some B
ends B (x ∷ r) = none

-- the records of a book, with r after them
pub records_complete : {limit : ℕ} → limit < 65536 → (new C B : List Family) (pi pn : ℕ) (r : List ℕ) → Book limit C → Book limit B → B ≡ C ++ new → length B ≤ 4294967296
    → read_records limit (length new) C pi pn (records_bytes pi pn (triples_of B new) ++ r) ≡ ends B r
records_complete s [] C B pi pn [] w v e h = ap (λ x. some x) (sym (e ∙ append-nil C))
records_complete s [] C B pi pn (x ∷ r) w v e h = refl
records_complete {limit} s (N ∷ new) C B pi pn r w v e h =
    step N e (λ w' e'. records_complete s new (C ++ (N ∷ [])) B (top N) (suc pn) r w' v e' h)
  where
    step : (N : Family) → B ≡ C ++ (N ∷ new)
        → (Book limit (C ++ (N ∷ [])) → B ≡ (C ++ (N ∷ [])) ++ new → read_records limit (length new) (C ++ (N ∷ [])) (top N) (suc pn) (records_bytes (top N) (suc pn) (triples_of B new) ++ r) ≡ ends B r)
        → read_records limit (suc (length new)) C pi pn (records_bytes pi pn (triples_of B (N ∷ new)) ++ r) ≡ ends B r
    step empty e ih = absurd (omega (arith, seam_number C B new empty v e, number_empty B v, two_long C w))
    step base e ih = absurd (omega (arith, seam_number C B new base v e, number_base B v, two_long C w))
    step (node i a b) e ih =
        let n = follows C B new i a b w v e in
        let f = n.ok in
        let long : length C ≤ length B = omega (arith, ap length e, length-append C (node i a b ∷ new)) in
        rw (
          append_assoc (record_bytes pi pn (triple i (number B a) (number B b))) (records_bytes i (suc pn) (triples_of B new)) r,
          record_complete pi pn (triple i (number B a) (number B b)) (records_bytes i (suc pn) (triples_of B new) ++ r) (omega (arith, f.item), omega (arith, f.zero_in), omega (arith, f.one_in)),
          next_fits limit C i (number B a) (number B b) f,
          n.left,
          n.right,
        )
        (ih n.book (e ∙ sym (append_assoc C (node i a b ∷ []) new)))
