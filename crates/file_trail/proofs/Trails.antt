-- The trail over a local book: a handle is met exactly when its family stands in the book, and putting a new part
-- behind the last one adds its family.
-- The handles of the book's families are their numbers in the store's book, different for different families.
use Prim.Native.Nat.{ℕ, zero, suc, ◌+◌, ◌-◌, ◌≤◌, ◌<◌}
use mathlib.Core.Path.{◌≡◌, refl, sym, ap, ◌∙◌}
use mathlib.Core.Bool.{true, false}
use mathlib.Core.List.{List, [], ◌∷◌, ◌++◌}
use native.Mathlib.Omega.{arith}
use native.Mathlib.Numerals.{add-one}
use lib.ListN.{length, get_or, drop, length-append}
use lib.Seq.{get_or_at}
use borrow.Author.Tests.{eq-eqb, ne_eqb}
use Rattle.family.specs.Family.{Family, empty, base, node, top}
use Rattle.family.specs.Book.{start, at, number, Held, Grown, Book}
use Rattle.family.specs.Record.{stands, triple, record_bytes}
use Rattle.family.specs.File.{triples_of, records_bytes}
use Rattle.family.proofs.Books.{number_at, number_inj, held_at, held_empty, held_base, number_empty, number_base, two_long, is_node, add_new, book_add, book_start, grown_at, grown_held}
use Rattle.family.proofs.Different.{no_longer}
use Rattle.family.proofs.Lengths.{book_snoc}
use Rattle.words.proofs.Cases.{by_lt, by_eq, clash}
use Rattle.store.specs.Inner.{Holds}
use Rattle.store.proofs.Held.{at_0, at_1, handle_of, within, node_handle}
use Rattle.file_record.specs.Widths.{widths}
use Rattle.file_record.proofs.Laying.{widths_length}
use Rattle.file_trail.specs.declared.trail.Trail.{Trail}
use Rattle.file_trail.specs.Inner.{met_in, linked, Visited, Trailed}
use Rattle.file_trail.proofs.Links.{met_leaf, met_word, behind_here, behind_last, behind_other, first_new, first_old}

-- the handles of the families of a local book
module _ {limit : ℕ} {B C : List Family} {n : ℕ} {nodes lookup : List ℕ} (H : Holds limit B n nodes lookup) (w : Book limit C) (inside : (k : ℕ) → k < length C → Held B (at C k)) where
  pub handle_in_lem : (k : ℕ) → k < length C → number B (at C k) < n + 2
  handle_in_lem k l = omega (arith, inside k l, H.size)

  pub handle_at_lem : (k : ℕ) → k < length C → at B (number B (at C k)) ≡ at C k
  handle_at_lem k l = number_at B (at C k) (inside k l)

  pub handle_apart : (j k : ℕ) → j < length C → k < length C → number B (at C j) ≡ number B (at C k) → j ≡ k
  handle_apart j k l m e = sym (w.unique j l) ∙ ap (λ F. number C F) (number_inj B (at C j) (at C k) (inside j l) (inside k m) e) ∙ w.unique k m

  pub handle_two : (k : ℕ) → 2 ≤ k → k < length C → 2 ≤ number B (at C k)
  handle_two zero h l = absurd (omega arith)
  handle_two (suc zero) h l = absurd (omega arith)
  handle_two (suc (suc k)) h l =
      let q = is_node C w k l (at C (suc (suc k))) refl in
      node_handle H (number B (at C (suc (suc k)))) q.0 q.1 q.2 (handle_in_lem (suc (suc k)) l) (handle_at_lem (suc (suc k)) l ∙ q.3)

  -- the place in the local book of a node that it holds
  pub local_two : (p : ℕ) → 2 ≤ p → p < n + 2 → Held C (at B p) → 2 ≤ number C (at B p)
  local_two p h l m =
      by_lt (number C (at B p)) 2
      (λ q e. absurd (go (number C (at B p)) q (number_at C (at B p) m)))
      (λ q e. q)
    where
      go : (k : ℕ) → k < 2 → at C k ≡ at B p → ⊥
      go zero q e = let f : at B p ≡ empty = sym e ∙ ap (λ X. at X 0) w.begins.eq in omega (arith, handle_of H p l, ap (λ F. number B F) f, number_empty B H.book)
      go (suc zero) q e = let f : at B p ≡ base = sym e ∙ ap (λ X. at X 1) w.begins.eq in omega (arith, handle_of H p l, ap (λ F. number B F) f, number_base B H.book)
      go (suc (suc k)) q e = omega arith

pub trail_start : {limit : ℕ} {B : List Family} {n : ℕ} {nodes lookup : List ℕ} → Holds limit B n nodes lookup → (links : List ℕ) → ((k : ℕ) → k < n → get_or links k 0 ≡ 0)
    → (t : Trail) → t.last ≡ 1 → t.item ≡ 0 → t.parts ≡ 0 → t.bytes ≡ 5 → Trailed limit B start n t links
trail_start {limit} {B} {n} H links blank t el ei ep en =
    record {
      book = book_start limit;
      inside = inside;
      first_is = λ l. absurd (omega arith);
      last_is = el ∙ sym (number_base B H.book);
      item_is = ei;
      parts_is = omega arith;
      bytes_is = en;
      next = λ k h l. absurd (omega arith);
      end = λ l. absurd (omega arith);
      unmet = λ h l m f. blank (h - 2) (omega arith);
    }
  where
    inside : (k : ℕ) → k < 2 → Held B (at start k)
    inside zero l = held_empty B H.book
    inside (suc zero) l = held_base B H.book
    inside (suc (suc k)) l = absurd (omega arith)

module _ {limit : ℕ} {B C : List Family} {n : ℕ} {nodes lookup links : List ℕ} {t : Trail} (H : Holds limit B n nodes lookup) (T : Trailed limit B C n t links) where
  -- met exactly where held
  pub met_held : (p : ℕ) → p < n + 2 → met_in links p ≡ true → Held C (at B p)
  met_held zero l e = rw (at_0 H) (held_empty C T.book)
  met_held (suc zero) l e = rw (at_1 H) (held_base C T.book)
  met_held (suc (suc p)) l e =
      by_lt (number C (at B (suc (suc p)))) (length C)
      (λ h d. h)
      (λ h d. clash e (sym (met_word links (suc (suc p)) (omega arith)) ∙ rw (eq-eqb _ 0 (T.unmet (suc (suc p)) (omega arith) l (λ m. omega arith)))))

  pub unmet_two : (p : ℕ) → met_in links p ≡ false → 2 ≤ p
  unmet_two p e = by_lt p 2 (λ l d. clash (sym (met_leaf links p l)) e) (λ l d. l)

  pub unmet_not : (p : ℕ) → p < n + 2 → met_in links p ≡ false → Held C (at B p) → ⊥
  unmet_not p l e m =
      let two = unmet_two p e in
      let k = number C (at B p) in
      let k2 = local_two H T.book T.inside p two l m in
      let here : number B (at C k) ≡ p = ap (λ F. number B F) (number_at C (at B p) m) ∙ handle_of H p l in
      let link : 2 ≤ get_or links (number B (at C k) - 2) 0 =
      by_lt (k + 1) (length C)
      (λ h d. omega (arith, T.next k k2 h, handle_two H T.book T.inside (k + 1) (omega arith) h))
      (λ h d. let z : length C - 1 ≡ k = omega arith in omega (arith, rw z at (T.end (omega arith)), handle_two H T.book T.inside k k2 m)) in
      let q : get_or links (p - 2) 0 ≡ get_or links (number B (at C k) - 2) 0 = ap (λ x. get_or links (x - 2) 0) (sym here) in
      clash (rw (ne_eqb (get_or links (p - 2) 0) 0 (omega arith)) refl) (met_word links p two ∙ e)

  -- a family that is not in the local book: there is room
  pub few_parts : (F : Family) → Held B F → (Held C F → ⊥) → t.parts < n
  few_parts F h f =
      let r = no_longer (F ∷ C) B apart (λ k l. in_both k l) in
      omega (arith, T.parts_is, H.size)
    where
      apart : (j k : ℕ) → j < k → k < suc (length C) → at (F ∷ C) j ≡ at (F ∷ C) k → ⊥
      apart j zero l m e = omega arith
      apart zero (suc k) l m e = f (rw e (held_at C T.book k (omega arith)))
      apart (suc j) (suc k) l m e = omega (arith, T.book.unique j (omega arith), T.book.unique k (omega arith), ap (λ X. number C X) e)

      in_both : (k : ℕ) → k < suc (length C) → Held B (at (F ∷ C) k)
      in_both zero l = h
      in_both (suc k) l = T.inside k (omega arith)

  -- the visit of a new part
  module _ (p i z o : ℕ) (lp : p < n + 2) (lz : z < n + 2) (lo : o < n + 2) (is : at B p ≡ node i (at B z) (at B o)) (lacks : Held C (node i (at B z) (at B o)) → ⊥)
      (ha : Held C (at B z)) (hb : Held C (at B o)) {t' : Trail} {links' : List ℕ} (W : Visited t links p (record { item = i; zero = z; one = o }) t' links') (room : n ≤ length links) where
    missing : length C ≤ number C (node i (at B z) (at B o))
    missing = by_lt (number C (node i (at B z) (at B o))) (length C) (λ h e. absurd (lacks h)) (λ h e. h)

    grown : Grown C (C ++ (node i (at B z) (at B o) ∷ []))
    grown = record { new = node i (at B z) (at B o) ∷ []; eq = refl }

    longer : length (C ++ (node i (at B z) (at B o) ∷ [])) ≡ length C + 1
    longer = length-append C (node i (at B z) (at B o) ∷ [])

    old : (k : ℕ) → k < length C → at (C ++ (node i (at B z) (at B o) ∷ [])) k ≡ at C k
    old k l = grown_at grown k l

    new : (k : ℕ) → k ≡ length C → at (C ++ (node i (at B z) (at B o) ∷ [])) k ≡ node i (at B z) (at B o)
    new k e = get_or_at C (node i (at B z) (at B o)) [] empty k (sym e)

    number_p : number B (node i (at B z) (at B o)) ≡ p
    number_p = ap (λ X. number B X) (sym is) ∙ handle_of H p lp

    held_p : Held B (node i (at B z) (at B o))
    held_p = omega (arith, number_p, H.size)

    two_p : 2 ≤ p
    two_p = node_handle H p i (at B z) (at B o) lp is

    two : 2 ≤ length C
    two = two_long C T.book

    last_in : t.last < n + 2
    last_in = omega (arith, T.last_is, handle_in_lem H T.book T.inside (length C - 1) (omega arith))

    -- a handle of the book is not p
    not_p : (k : ℕ) → k < length C → number B (at C k) ≡ p → ⊥
    not_p k l e = lacks (rw (sym is ∙ ap (λ h. at B h) (sym e) ∙ handle_at_lem H T.book T.inside k l) (held_at C T.book k l))

    links_at : (k : ℕ) → get_or links' k 0 ≡ get_or (linked (linked links t.last p) p p) k 0
    links_at k = ap (λ X. get_or X k 0) W.links_are

    same_stands : (x y u v : ℕ) → (x ≡ y → u ≡ v) → (u ≡ v → x ≡ y) → stands x y ≡ stands u v
    same_stands x y u v f g = by_eq x y (λ e d. rw (d, eq-eqb u v (f e))) (λ e d. rw (d, ne_eqb u v (λ q. e (g q))))

    zero_stands : stands z 0 ≡ stands (number C (at B z)) 0
    zero_stands =
        same_stands z 0 (number C (at B z)) 0
        (λ e. ap (λ k. number C (at B k)) e ∙ ap (λ X. number C X) (at_0 H) ∙ number_empty C T.book)
        (λ e. sym (handle_of H z lz) ∙ ap (λ X. number B X) (sym (number_at C (at B z) ha) ∙ ap (λ k. at C k) e ∙ ap (λ X. at X 0) T.book.begins.eq) ∙ number_empty B H.book)

    one_stands : stands o t.last ≡ stands (number C (at B o)) (length C - 1)
    one_stands =
        same_stands o t.last (number C (at B o)) (length C - 1)
        (λ e. ap (λ X. number C X) (ap (λ k. at B k) (e ∙ T.last_is) ∙ handle_at_lem H T.book T.inside (length C - 1) (omega (arith, two))) ∙ T.book.unique (length C - 1) (omega (arith, two)))
        (λ e. sym (handle_of H o lo) ∙ ap (λ X. number B X) (sym (number_at C (at B o) hb) ∙ ap (λ k. at C k) e) ∙ sym T.last_is)

    record_is : widths (stands i (t.item + 1)) (stands z 0) (stands o t.last) ≡ length (record_bytes (top (at C (length C - 1))) (length C - 1) (triple i (number C (at B z)) (number C (at B o))))
    record_is = rw (T.item_is, add-one (top (at C (length C - 1))), zero_stands, one_stands) (widths_length (top (at C (length C - 1))) (length C - 1) i (number C (at B z)) (number C (at B o)))

    whole : Book limit (C ++ (node i (at B z) (at B o) ∷ []))
    whole = rw (← add_new C (node i (at B z) (at B o)) missing) (book_add C i (at B z) (at B o) T.book (rw is at (within H p lp)) ha hb)

    pub trail_visit : Trailed limit B (C ++ (node i (at B z) (at B o) ∷ [])) n t' links'
    trail_visit =
        record {
          book = whole;
          inside = λ k l. by_lt k (length C) (λ h e. rw (old k h) (T.inside k h)) (λ h e. rw (new k (omega (arith, longer))) held_p);
          first_is = first;
          last_is = W.last_is ∙ sym (ap (λ X. number B X) (new (length (C ++ (node i (at B z) (at B o) ∷ [])) - 1) (omega (arith, longer))) ∙ number_p);
          item_is = W.item_is ∙ ap top (sym (new (length (C ++ (node i (at B z) (at B o) ∷ [])) - 1) (omega (arith, longer))));
          parts_is = omega (arith, W.parts_is, T.parts_is, longer);
          bytes_is = W.bytes_is ∙ omega (
            arith,
            T.bytes_is,
            record_is,
            ap length (book_snoc C T.book (node i (at B z) (at B o)) ha hb),
            length-append (records_bytes 0 1 (triples_of C (drop 2 C))) (record_bytes (top (at C (length C - 1))) (length C - 1) (triple i (number C (at B z)) (number C (at B o)))),
          );
          next = next;
          end = λ l. ap (λ x. get_or links' (x - 2) 0) at_end ∙ links_at (p - 2) ∙ behind_here links t.last p two_p (omega arith) ∙ sym at_end;
          unmet = unmet;
        }
      where
        at_end : number B (at (C ++ (node i (at B z) (at B o) ∷ [])) (length (C ++ (node i (at B z) (at B o) ∷ [])) - 1)) ≡ p
        at_end = ap (λ X. number B X) (new (length (C ++ (node i (at B z) (at B o) ∷ [])) - 1) (omega (arith, longer))) ∙ number_p

        first : 2 < length (C ++ (node i (at B z) (at B o) ∷ [])) → t'.first ≡ number B (at (C ++ (node i (at B z) (at B o) ∷ [])) 2)
        first l =
            by_lt 2 (length C)
            (λ h e. W.first_is ∙ sym (first_old t p (omega (arith, T.parts_is))) ∙ T.first_is h ∙ ap (λ X. number B X) (sym (old 2 h)))
            (λ h e. W.first_is ∙ sym (first_new t p (omega (arith, T.parts_is))) ∙ sym (ap (λ X. number B X) (new 2 (omega (arith, two))) ∙ number_p))

        next : (k : ℕ) → 2 ≤ k → k + 1 < length (C ++ (node i (at B z) (at B o) ∷ []))
            → get_or links' (number B (at (C ++ (node i (at B z) (at B o) ∷ [])) k) - 2) 0 ≡ number B (at (C ++ (node i (at B z) (at B o) ∷ [])) (k + 1))
        next k h l =
            let hk = handle_two H T.book T.inside k h (omega (arith, longer)) in
            by_lt (k + 1) (length C)
            (λ m e. rw (old k (omega arith), old (k + 1) m)
            (links_at (number B (at C k) - 2)
            ∙ behind_other links t.last p (number B (at C k) - 2) (λ q. not_p k (omega arith) (omega arith))
            (λ q. omega (arith, handle_apart H T.book T.inside k (length C - 1) (omega arith) (omega arith) (omega (arith, T.last_is))))
            ∙ T.next k h m))
            (λ m e.
            let ek : length C - 1 ≡ k = omega (arith, longer) in
            let el : number B (at C k) ≡ t.last = ap (λ j. number B (at C j)) (sym ek) ∙ sym T.last_is in
            rw (old k (omega (arith, longer)), new (k + 1) (omega (arith, longer)))
            (ap (λ x. get_or links' (x - 2) 0) el ∙ links_at (t.last - 2)
            ∙ behind_last links t.last p (omega arith) (omega (arith, last_in)) (λ q. not_p k (omega (arith, longer)) (el ∙ q)) ∙ sym number_p))

        unmet : (h : ℕ) → 2 ≤ h → h < n + 2 → (Held (C ++ (node i (at B z) (at B o) ∷ [])) (at B h) → ⊥) → get_or links' (h - 2) 0 ≡ 0
        unmet h l m f =
            links_at (h - 2)
            ∙ behind_other links t.last p (h - 2)
            (λ q. let hp : h ≡ p = omega arith in f (rw (hp, is) (rw (new (length C) refl) at (held_at (C ++ (node i (at B z) (at B o) ∷ [])) whole (length C) (omega (arith, longer))))))
            (λ q. let hl : h ≡ number B (at C (length C - 1)) = omega (arith, T.last_is) in
            f (rw (hl, handle_at_lem H T.book T.inside (length C - 1) (omega (arith, two))) (grown_held grown (at C (length C - 1)) (held_at C T.book (length C - 1) (omega (arith, two))))))
            ∙ T.unmet h l m (λ q. f (grown_held grown (at B h) q))
