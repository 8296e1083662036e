-- The file of a family and the family of a file belong together: reading gives F exactly for the bytes that are F's
-- file.
-- The bytes give a local book and that book gives the bytes; the order walk says that the book is what placing its
-- last family gives.
use Prim.Native.Nat.{ℕ, suc, ◌-◌, ◌<◌, ◌≤◌}
use mathlib.Core.Path.{◌≡◌, refl, sym, ap, ◌∙◌}
use mathlib.Core.Bool.{cond, ◌&&◌}
use mathlib.Core.List.{List, [], ◌∷◌, ◌++◌, append_assoc, append-nil}
use mathlib.Core.Option.{Option, none, some}
use mathlib.Core.Logic.{◌↔◌}
use native.Mathlib.Omega.{arith}
use lib.Dec.{eqb, ltb}
use lib.ListN.{length, drop}
use borrow.Author.Tests.{lt-ltb, eq-eqb, eqb-true, ltb-true}
use Rattle.family.specs.Family.{Family, empty, base, node, Within}
use Rattle.family.specs.Book.{start, at, number, Held, place, Grown, Book}
use Rattle.family.specs.Record.{Bytes, front, bytes_of, read_number, Triple, item_of, record_bytes}
use Rattle.family.specs.File.{triples_of, records_bytes, file_of_book, file_of, HasFile, read_records, and_then, order, last_of, read_parts, alone, family_of}
use Rattle.words.proofs.Cases.{by_eq, by_lt, and_inv}
use Rattle.family.proofs.Books.{number_empty, number_base, number_at, grown_self, held_back, start_node, book_start}
use Rattle.family.proofs.Placing.{place_grown, book_place, place_last}
use Rattle.family.proofs.Records.{not_some, then_inv, number_sound, number_complete, bytes_none, bytes_cons, bytes_append, bytes_number, bytes_record}
use Rattle.family.proofs.Orders.{and_then_inv, cond_inv, grown_all, order_sound, order_complete}
use Rattle.family.proofs.Reading.{Taken, ends, records_sound, records_complete}

module _ (limit : ℕ) where
  -- the book that a file gives has the file's bytes
  book_file : (n : ℕ) (B : List Family) (r : List ℕ) → Taken limit n start 0 1 r B → file_of_book B ≡ 1 ∷ (bytes_of 4 n ++ r)
  unfolding file_of_book
  book_file n B r t =
      let two : length B - 2 ≡ n = omega (arith, ap length t.eq, t.count) in
      let rest : drop 2 B ≡ t.new = ap (λ X. drop 2 X) t.eq in
      rw (two, rest, t.bytes)

  last_sound : (n : ℕ) (B : List Family) (r : List ℕ) → Taken limit n start 0 1 r B → 0 < n → (F : Family) → last_of n B ≡ some F
      → (place start F ≡ B) × (at B (suc n) ≡ F)
  unfolding last_of
  last_sound n B r t l F e =
      and_then_inv (order B (at B (suc n)) 2) (λ m. cond (eqb m (suc (suc n))) (some (at B (suc n))) none) F e
      (λ m e₁ k₁. cond_inv (eqb m (suc (suc n))) (some (at B (suc n))) F k₁
      (λ p d.
      let q : at B (suc n) ≡ F = cc in
      let z = order_sound B t.book (at B (suc n)) start (book_start limit) (record { new = t.new; eq = t.eq }) (omega (arith, t.book.unique (suc n) long, long)) m e₁ in
      (rw (← q) (grown_all z.grows (omega (arith, z.ends, size, eqb-true m (suc (suc n)) p))), q)))
    where
      size : length B ≡ suc (suc n)
      size = omega (arith, ap length t.eq, t.count)

      long : suc n < length B
      long = omega (arith, size)

  closing : (n : ℕ) (B : List Family) (r l : List ℕ) → Taken limit n start 0 1 r B → 0 < n → n ≤ 4294967294 → bytes_of 4 n ++ r ≡ l → (F : Family) → place start F ≡ B → at B (suc n) ≡ F
      → HasFile limit F × (file_of F ≡ 1 ∷ l)
  closing n B r l t p p₂ e F q k = go F q k
    where
      size : length B ≡ suc (suc n)
      size = omega (arith, ap length t.eq, t.count)

      here : number B (at B (suc n)) ≡ suc n
      here = t.book.unique (suc n) (omega (arith, size))

      stands : Held B (at B (suc n))
      stands = omega (arith, size, here)

      go : (F : Family) → place start F ≡ B → at B (suc n) ≡ F → HasFile limit F × (file_of F ≡ 1 ∷ l)
      go empty q k = absurd (omega (arith, rw k at here, number_empty B t.book))
      go base q k = absurd (omega (arith, rw k at here, number_base B t.book))
      go (node i a b) q k =
          let h : Held B (node i a b) = rw k at stands in (
            record { within = t.book.within (node i a b) h; few = rw q (omega (arith, size)) },
            ap file_of_book q ∙ book_file n B r t ∙ ap (λ x. 1 ∷ x) e,
          )

  parts_sound : (l : List ℕ) → Bytes l → (F : Family) → read_parts limit l ≡ some F → HasFile limit F × (file_of F ≡ 1 ∷ l)
  unfolding read_parts
  parts_sound l h F e =
      then_inv (read_number 4 l) (λ n r. cond (ltb 0 n && ltb n 4294967295) (and_then (read_records limit n start 0 1 r) (λ B. last_of n B)) none) F e
      (λ n r e₁ k₁. cond_inv (ltb 0 n && ltb n 4294967295) (and_then (read_records limit n start 0 1 r) (λ B. last_of n B)) F k₁
      (λ p k₂. and_inv (ltb 0 n) (ltb n 4294967295) p
      (λ p₁ p₂. and_then_inv (read_records limit n start 0 1 r) (λ B. last_of n B) F k₂
      (λ B e₂ k₃.
      let s = number_sound 4 l h n r e₁ in
      let t = records_sound limit n start 0 1 r (book_start limit) s.1 B e₂ in
      let q = last_sound n B r t (ltb-true 0 n p₁) F k₃ in
      closing n B r l t (ltb-true 0 n p₁) (omega (arith, ltb-true n 4294967295 p₂)) s.0 F q.0 q.1))))

  alone_sound : (G : Family) (l : List ℕ) (F : Family) → alone G l ≡ some F → (G ≡ F) × (l ≡ [])
  alone_sound G [] F e = (cc, refl)
  alone_sound G (x ∷ l) F e = not_some e

  small_file : (F : Family) → Within limit F → length (place start F) ≡ 2 → HasFile limit F
  small_file F w e = record { within = w; few = omega (arith, e) }

  file_sound : (b : List ℕ) → Bytes b → (F : Family) → family_of limit b ≡ some F → HasFile limit F × (file_of F ≡ b)
  file_sound [] h F e = not_some e
  file_sound (x ∷ l) h F e =
      by_eq x 1 (λ p t. rw p (parts_sound l (λ k. h (suc k)) F (rw t at e)))
      (λ p t. by_eq x 0
      (λ p₀ t₀. let s = alone_sound empty l F (rw (t, t₀) at e) in rw (← s.0, s.1, p₀) (small_file empty (record { ordered = tt; low = omega arith }) refl, refl))
      (λ n₀ t₀. by_eq x 2
      (λ p₂ t₂. let s = alone_sound base l F (rw (t, t₀, t₂) at e) in rw (← s.0, s.1, p₂) (small_file base (record { ordered = tt; low = omega arith }) refl, refl))
      (λ n₂ t₂. not_some (rw (t, t₀, t₂) at e))))

  -- the file of a book that is its last family's is read back, and nothing that goes on after it is a file
  module _ (small : limit < 65536) where
    taken : (B : List Family) (r : List ℕ) → Book limit B → Grown start B → length B ≤ 4294967296 → read_records limit (length B - 2) start 0 1 (records_bytes 0 1 (triples_of B (drop 2 B)) ++ r) ≡ ends B r
    taken B r w g h =
        let two : length B - 2 ≡ length g.new = omega (arith, ap length g.eq) in
        let rest : drop 2 B ≡ g.new = ap (λ X. drop 2 X) g.eq in
        rw (two, rest) (records_complete small g.new start B 0 1 r (book_start limit) w g.eq h)

    last_complete : (n : ℕ) (B : List Family) (F : Family) → at B (suc n) ≡ F → order B F 2 ≡ some (suc (suc n)) → last_of n B ≡ some F
    unfolding last_of
    last_complete n B F e k = rw (e, k, eq-eqb (suc (suc n)) (suc (suc n)) refl)

    parts_read : (l r : List ℕ) (n : ℕ) (got : Option (List Family)) → read_number 4 l ≡ some (front n r) → 0 < n → n < 4294967295
        → read_records limit n start 0 1 r ≡ got → read_parts limit l ≡ and_then got (λ C. last_of n C)
    unfolding read_parts
    parts_read l r n got e p q t = rw (e, lt-ltb 0 n p, lt-ltb n 4294967295 q, t)

    -- the file of a book, with r after it
    parts_of : (B : List Family) (r : List ℕ) → Book limit B → Grown start B → 3 ≤ length B → length B - 2 ≤ 4294967294
        → family_of limit (file_of_book B ++ r) ≡ and_then (ends B r) (λ C. last_of (length B - 2) C)
    unfolding file_of_book
    parts_of B r w g three few =
        let records = records_bytes 0 1 (triples_of B (drop 2 B)) in
        ap (λ l. read_parts limit l) (append_assoc (bytes_of 4 (length B - 2)) records r)
        ∙ parts_read (bytes_of 4 (length B - 2) ++ (records ++ r)) (records ++ r) (length B - 2) (ends B r)
        (number_complete 4 (length B - 2) (records ++ r) (omega arith)) (omega arith) (omega arith) (taken B r w g (omega arith))

    record Own (i : ℕ) (a b : Family) : Type 0 where
      book : Book limit (place start (node i a b))
      grown : Grown start (place start (node i a b))
      three : 3 ≤ length (place start (node i a b))
      last : last_of (length (place start (node i a b)) - 2) (place start (node i a b)) ≡ some (node i a b)

    own : (i : ℕ) (a b : Family) → HasFile limit (node i a b) → Own i a b
    own i a b h =
        let B = place start (node i a b) in
        let F = node i a b in
        let w = book_place start F (book_start limit) h.within in
        let end = place_last i a b h.within.ordered in
        let g = place_grown start F in
        let two : 2 ≤ number B F = by_lt (number B F) 2 (λ p e. absurd (omega (arith, held_back g F p, start_node i a b))) (λ p e. p) in
        record {
          book = w.0;
          grown = g;
          three = omega arith;
          last = last_complete (length B - 2) B F (ap (λ k. at B k) (omega arith) ∙ number_at B F w.1)
              (order_complete B w.0 F start (book_start limit) w.1 (grown_self B) ∙ ap (λ x. some x) (omega arith));
        }

    pub read_back : (F : Family) → HasFile limit F → family_of limit (file_of F) ≡ some F
    read_back empty h = refl
    read_back base h = refl
    read_back (node i a b) h =
        let o = own i a b h in
        ap (λ l. family_of limit l) (sym (append-nil (file_of_book (place start (node i a b))))) ∙ parts_of (place start (node i a b)) [] o.book o.grown o.three h.few ∙ o.last

    pub longer_none : (F : Family) (x : ℕ) (r : List ℕ) → HasFile limit F → family_of limit (file_of F ++ (x ∷ r)) ≡ none
    longer_none empty x r h = refl
    longer_none base x r h = refl
    longer_none (node i a b) x r h = let o = own i a b h in parts_of (place start (node i a b)) (x ∷ r) o.book o.grown o.three h.few

    -- the family of the bytes is F exactly when they are the file of F
    pub file_iff : (b : List ℕ) (F : Family) → Bytes b → (family_of limit b ≡ some F) ↔ (HasFile limit F × (file_of F ≡ b))
    file_iff b F h = (file_sound b h F, λ p. rw (← p.1) (read_back F p.0))

    pub files_equal : (F G : Family) → HasFile limit F → HasFile limit G → (file_of F ≡ file_of G) ↔ (F ≡ G)
    files_equal F G f g = (λ e. (let p = read_back F f in let q = read_back G g in cc), λ e. ap file_of e)

    -- no file is a proper beginning of another
    pub files_prefix : (F G : Family) (r : List ℕ) → HasFile limit F → HasFile limit G → file_of F ++ r ≡ file_of G → (r ≡ []) × (F ≡ G)
    files_prefix F G [] f g e = (refl, (files_equal F G f g).0 (sym (append-nil (file_of F)) ∙ e))
    files_prefix F G (x ∷ r) f g e = not_some (sym (longer_none F x r f) ∙ ap (λ l. family_of limit l) e ∙ read_back G g)

-- a file is bytes
bytes_records : (pi pn : ℕ) (ts : List Triple) → Bytes (records_bytes pi pn ts)
bytes_records pi pn [] = bytes_none
bytes_records pi pn (t ∷ ts) =
    bytes_append (record_bytes pi pn t) (records_bytes (item_of t) (suc pn) ts) (bytes_record pi pn t) (bytes_records (item_of t) (suc pn) ts)

pub file_bytes : (F : Family) → Bytes (file_of F)
unfolding file_of_book
file_bytes empty = bytes_cons 0 [] (omega arith) bytes_none
file_bytes base = bytes_cons 2 [] (omega arith) bytes_none
file_bytes (node i a b) =
    let B = place start (node i a b) in
    let count = bytes_of 4 (length B - 2) in
    let records = records_bytes 0 1 (triples_of B (drop 2 B)) in
    bytes_cons 1 (count ++ records) (omega arith) (bytes_append count records (bytes_number 4 (length B - 2)) (bytes_records 0 1 (triples_of B (drop 2 B))))
