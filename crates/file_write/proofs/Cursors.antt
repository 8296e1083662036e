-- One turn of the writing: the record of the part at the cursor goes behind the bytes written, the part gets its
-- local number, and its link leads to the next part.
-- The children of a part stand before it, so their local numbers are there already.
use Prim.Native.Nat.{ℕ, zero, suc, ◌+◌, ◌*◌, ◌-◌, ◌≤◌, ◌<◌}
use mathlib.Core.Path.{◌≡◌, refl, sym, ap, ◌∙◌}
use mathlib.Core.List.{List, [], ◌++◌, append_assoc, append-nil}
use native.Mathlib.Omega.{arith}
use native.Mathlib.Numerals.{add-one}
use lib.ListN.{length, get_or, set, take, drop, length-set, length-append, length-drop, take-append-drop, drop_of_length-le}
use lib.Seq.{sets, sets-eq, take_all, drop-drop, drop-cons, get_or-set_same, get_or-set_other, take-add, drop_at, take_at, length-take-le}
use borrow.Rule.Slice.PartMut.{put_mid}
use Rattle.std.proofs.Common.{Some, None}
use Rattle.family.specs.Family.{Family, empty, node, largest_item}
use Rattle.family.specs.Book.{at, number}
use Rattle.family.specs.Record.{triple, record_bytes}
use Rattle.family.specs.File.{triples_of, records_bytes}
use Rattle.family.proofs.Books.{number_at, number_empty, number_base}
use Rattle.words.proofs.Cases.{by_eq}
use Rattle.store.specs.Words.{word_of}
use Rattle.store.specs.Inner.{Holds}
use Rattle.store.proofs.Handles.{word_leaf, word_node}
use Rattle.store.proofs.Held.{at_0, at_1, at_node, handle_of, within}
use Rattle.file_record.specs.declared.field.Part.{Part}
use Rattle.file_write.specs.declared.Cursor.{Cursor}
use Rattle.file_write.specs.Inner.{LocalPart, CursorFits, Writing, TurnOf}
use Rattle.file_trail.proofs.Trails.{handle_in_lem, handle_at_lem, handle_apart, handle_two, local_two}

-- bytes at the front, later bytes untouched
pub sets_front : (vs l : List ℕ) → length vs ≤ length l → sets l 0 vs ≡ vs ++ drop (length vs) l
sets_front vs l h = let z : 0 + length vs ≡ length vs = omega arith in sets-eq vs l 0 (omega arith) ∙ ap (λ k. vs ++ drop k l) z

-- a record laid into what remains of the output
pub laid_behind : (l : List ℕ) (a : ℕ) (R ys : List ℕ) → a + length R ≤ length l → ys ≡ sets (take (length l - a) (drop a l)) 0 R → put_mid a (length l - a) l ys ≡ take a l ++ (R ++ drop (a + length R) l)
laid_behind l a R ys h e =
    let d : take (length l - a) (drop a l) ≡ drop a l = take_all (length l - a) (drop a l) (omega (arith, length-drop a l)) in
    let p : ys ≡ R ++ drop (a + length R) l =
    e ∙ ap (λ X. sets X 0 R) d ∙ sets_front R (drop a l) (omega (arith, length-drop a l)) ∙ ap (λ X. R ++ X) (drop-drop (length R) a l) in
    let q : drop (length l - a) (drop a l) ≡ [] = drop_of_length-le (drop a l) {i = length l - a} (omega (arith, length-drop a l)) in
    rw (p, q, append-nil (R ++ drop (a + length R) l))

-- the bytes of a whole up to a place and, behind them, those of before: one run further
pub further : (whole before out : List ℕ) (a : ℕ) (R rest : List ℕ) → length whole ≤ length before → a ≤ length whole → out ≡ take a whole ++ drop a before → drop a whole ≡ R ++ rest
    → take a out ++ (R ++ drop (a + length R) out) ≡ take (a + length R) whole ++ drop (a + length R) before
further whole before out a R rest h l e d =
    let la : length (take a whole) ≡ a = length-take-le a whole l in
    let t : take a out ≡ take a whole = ap (λ X. take a X) e ∙ take_at (take a whole) (drop a before) a la in
    let w : whole ≡ take a whole ++ (R ++ rest) = sym (take-append-drop a whole) ∙ ap (λ X. take a whole ++ X) d in
    let f : take (a + length R) whole ≡ take a whole ++ R = take-add a (length R) whole ∙ ap (λ X. take a whole ++ take (length R) X) d ∙ ap (λ X. take a whole ++ X) (take_at R rest (length R) refl) in
    let o : drop (a + length R) out ≡ drop (a + length R) before =
    sym (drop-drop (length R) a out) ∙ ap (λ X. drop (length R) (drop a X)) e ∙ ap (λ X. drop (length R) X) (drop_at (take a whole) (drop a before) a la) ∙ drop-drop (length R) a before in
    rw (t, o, f) (sym (append_assoc (take a whole) R (drop (a + length R) before)))

-- the words of the part at the cursor
abbrev pub item_at : List ℕ → ℕ → ℕ
item_at nodes h = get_or nodes (3 * (h - 2)) 0

abbrev pub zero_at : List ℕ → ℕ → ℕ
zero_at nodes h = get_or nodes (3 * (h - 2) + 1) 0

abbrev pub one_at : List ℕ → ℕ → ℕ
one_at nodes h = get_or nodes (3 * (h - 2) + 2) 0

module _ {limit : ℕ} {B D : List Family} {n k : ℕ} {nodes lookup : List ℕ} {c : Cursor} {links whole before out : List ℕ} (H : Holds limit B n nodes lookup) (kl : k < length D) (W : Writing limit B D k c links whole before out) where
  at_in : c.at < n + 2
  at_in = omega (arith, W.at_is kl, handle_in_lem H W.book W.inside k kl)

  at_two : 2 ≤ c.at
  at_two = omega (arith, W.at_is kl, handle_two H W.book W.inside k W.two kl)

  at_means : at B c.at ≡ at D k
  at_means = ap (λ h. at B h) (W.at_is kl) ∙ handle_at_lem H W.book W.inside k kl

  is_node : at D k ≡ node (item_at nodes c.at) (at B (zero_at nodes c.at)) (at B (one_at nodes c.at))
  is_node = sym at_means ∙ at_node H c.at at_two at_in

  item_low : item_at nodes c.at ≤ largest_item
  item_low = let w = rw (at_means ∙ is_node) at (within H c.at at_in) in omega (arith, w.low, H.limit_low)

  -- a side stands in the local book before the part
  local_is : (h : ℕ) → h < n + 2 → number D (at B h) < k → word_of links h ≡ number D (at B h)
  local_is zero l m = sym (word_leaf links 0 (omega arith)) ∙ sym (ap (λ F. number D F) (at_0 H) ∙ number_empty D W.book)
  local_is (suc zero) l m = sym (word_leaf links 1 (omega arith)) ∙ sym (ap (λ F. number D F) (at_1 H) ∙ number_base D W.book)
  local_is (suc (suc h)) l m =
      let p = suc (suc h) in
      let here : number B (at D (number D (at B p))) ≡ p = ap (λ F. number B F) (number_at D (at B p) (omega arith)) ∙ handle_of H p l in
      sym (word_node links p (omega arith)) ∙ ap (λ x. get_or links (x - 2) 0) (sym here)
      ∙ W.numbered (number D (at B p)) (local_two H W.book W.inside p (omega arith) l (omega arith)) m (omega arith)

  sides : (number D (at B (zero_at nodes c.at)) < k) × (number D (at B (one_at nodes c.at)) < k)
  sides =
      let num : number D (node (item_at nodes c.at) (at B (zero_at nodes c.at)) (at B (one_at nodes c.at))) ≡ k = ap (λ F. number D F) (sym is_node) ∙ W.book.unique k kl in
      let b = W.book.below (item_at nodes c.at) (at B (zero_at nodes c.at)) (at B (one_at nodes c.at)) (omega arith) in
      (omega (arith, b.0), omega (arith, b.1))

  zero_local : word_of links (zero_at nodes c.at) ≡ number D (at B (zero_at nodes c.at))
  zero_local = local_is (zero_at nodes c.at) (omega (arith, (H.each (c.at - 2) (omega (arith, at_in, at_two))).zero_before, at_in)) sides.0

  one_local : word_of links (one_at nodes c.at) ≡ number D (at B (one_at nodes c.at))
  one_local = local_is (one_at nodes c.at) (omega (arith, (H.each (c.at - 2) (omega (arith, at_in, at_two))).one_before, at_in)) sides.1

  long_before : length out ≡ length before
  long_before =
      ap length W.out_is
      ∙ omega (arith, length-append (take c.place whole) (drop c.place before), length-take-le c.place whole W.place_low, length-drop c.place before, W.place_low, W.room)

  module _ (part : Part) (is-part : LocalPart nodes (3 * (c.at - 2)) links part) where
    -- what is still to be written begins with the part's record
    todo : drop c.place whole
        ≡ record_bytes c.last.item c.last.number (triple part.item part.zero part.one) ++ records_bytes part.item (suc c.last.number) (triples_of D (drop (suc k) D))
    todo = W.todo_is ∙ rw (drop-cons D k empty kl, is_node, is-part.item_is, is-part.zero_is, is-part.one_is, zero_local, one_local)

    -- and it has the room
    pub turn_room : c.place + length (record_bytes c.last.item c.last.number (triple part.item part.zero part.one)) ≤ length out
    turn_room =
        omega (
          arith,
          ap length todo,
          length-append (record_bytes c.last.item c.last.number (triple part.item part.zero part.one)) (records_bytes part.item (suc c.last.number) (triples_of D (drop (suc k) D))),
          length-drop c.place whole,
          W.place_low,
          W.room,
          long_before,
        )

    module _ (len : ℕ) (is-len : len ≡ length (record_bytes c.last.item c.last.number (triple part.item part.zero part.one))) (room : n ≤ length links) where
      pub turn_next : {out' : List ℕ} → out' ≡ take c.place out ++ (record_bytes c.last.item c.last.number (triple part.item part.zero part.one) ++ drop (c.place + len) out)
          → Writing limit B D (k + 1) (record { at = get_or links (c.at - 2) 0; last = record { item = part.item; number = c.last.number + 1 }; place = c.place + len }) (set links (c.at - 2) (c.last.number + 1)) whole before out'
      turn_next {out'} eo =
          record {
            book = W.book;
            inside = W.inside;
            two = omega (arith, W.two);
            at_is = λ l. ap (λ x. get_or links (x - 2) 0) (W.at_is kl) ∙ W.next k (omega arith) l;
            number_is = omega (arith, W.number_is);
            place_low = omega (
              arith,
              is-len,
              ap length todo,
              length-append (record_bytes c.last.item c.last.number (triple part.item part.zero part.one)) (records_bytes part.item (suc c.last.number) (triples_of D (drop (suc k) D))),
              length-drop c.place whole,
              W.place_low,
            );
            room = W.room;
            todo_is = rw (is-len, add-one k, add-one c.last.number)
                (sym (drop-drop (length (record_bytes c.last.item c.last.number (triple part.item part.zero part.one))) c.place whole)
                ∙ ap (λ X. drop (length (record_bytes c.last.item c.last.number (triple part.item part.zero part.one))) X) todo
                ∙ drop_at (record_bytes c.last.item c.last.number (triple part.item part.zero part.one)) (records_bytes part.item (suc c.last.number) (triples_of D (drop (suc k) D))) _ refl);
            out_is = eo ∙ rw is-len (further whole before out c.place (record_bytes c.last.item c.last.number (triple part.item part.zero part.one))
                (records_bytes part.item (suc c.last.number) (triples_of D (drop (suc k) D))) W.room W.place_low W.out_is todo);
            numbered = numbered;
            next = λ m l h. get_or-set_other links (c.at - 2) (number B (at D m) - 2) (c.last.number + 1) 0 (apart m (omega arith) (omega arith) (omega (arith, W.two))) ∙ W.next m (omega arith) h;
          }
        where
          apart : (m : ℕ) → (m ≡ k → ⊥) → m < length D → 2 ≤ m → number B (at D m) - 2 ≡ c.at - 2 → ⊥
          apart m ne l h e =
              ne (handle_apart H W.book W.inside m k l kl (omega (arith, W.at_is kl, at_two, handle_two H W.book W.inside m h l)))

          numbered : (m : ℕ) → 2 ≤ m → m < k + 1 → m < length D → get_or (set links (c.at - 2) (c.last.number + 1)) (number B (at D m) - 2) 0 ≡ m
          numbered m l h q =
              by_eq m k
              (λ e d. ap (λ x. get_or (set links (c.at - 2) (c.last.number + 1)) (x - 2) 0) (ap (λ j. number B (at D j)) e ∙ sym (W.at_is kl))
              ∙ get_or-set_same links (c.at - 2) (c.last.number + 1) 0 (omega (arith, at_in, at_two)) ∙ omega (arith, W.number_is))
              (λ e d. get_or-set_other links (c.at - 2) (number B (at D m) - 2) (c.last.number + 1) 0 (apart m e q l) ∙ W.numbered m l (omega arith) q)

-- the ways out of `write_part`
module _ (c : Cursor) (nodes : List ℕ) (n : ℕ) (links out : List ℕ) where
  turn_broken : ((limit : ℕ) (B D : List Family) (k : ℕ) (lookup whole before : List ℕ) → Holds limit B n nodes lookup → k < length D → Writing limit B D k c links whole before out → ⊥) → TurnOf c nodes n links out None links out
  turn_broken f =
      record { long = refl; long_out = refl; rest = λ k l. refl; next_fits = tt; sound = λ B D k lookup whole before H kl W. f _ B D k lookup whole before H kl W }

  pub turn_low : c.at < 2 → TurnOf c nodes n links out None links out
  turn_low l = turn_broken (λ limit B D k lookup whole before H kl W. omega (arith, at_two H kl W))

  pub turn_high : n + 1 < c.at → TurnOf c nodes n links out None links out
  turn_high l = turn_broken (λ limit B D k lookup whole before H kl W. omega (arith, at_in H kl W))

  module _ (part : Part) (is-part : LocalPart nodes (3 * (c.at - 2)) links part) where
    pub turn_item : largest_item < part.item → TurnOf c nodes n links out None links out
    turn_item l = turn_broken (λ limit B D k lookup whole before H kl W. omega (arith, item_low H kl W, is-part.item_is))

    module _ (len : ℕ) (length_is : len ≡ length (record_bytes c.last.item c.last.number (triple part.item part.zero part.one))) where
      pub turn_full : c.place ≤ length out → length out - c.place < len → TurnOf c nodes n links out None links out
      turn_full p l = turn_broken (λ limit B D k lookup whole before H kl W. omega (arith, length_is, turn_room H kl W part is-part))

      pub turn_done : n ≤ length links → CursorFits c out → 2 ≤ c.at → c.at ≤ n + 1 → part.item ≤ largest_item → len ≤ 11 → c.place + len ≤ length out → {ys : List ℕ}
          → ys ≡ sets (take (length out - c.place) (drop c.place out)) 0 (record_bytes c.last.item c.last.number (triple part.item part.zero part.one))
          → TurnOf c nodes n links out (Some (record { at = get_or links (c.at - 2) 0; last = record { item = part.item; number = c.last.number + 1 }; place = c.place + len }))
          (set links (c.at - 2) (c.last.number + 1)) (put_mid c.place (length out - c.place) out ys)
      turn_done room F lo hi low few fit {ys} ey =
          record {
            long = length-set links (c.at - 2) (c.last.number + 1);
            long_out = long_out;
            rest = λ k l. get_or-set_other links (c.at - 2) k (c.last.number + 1) 0 (omega arith);
            next_fits = record { within = omega (arith, long_out); item_low = low; number_is = refl; short = omega (arith, F.short) };
            sound = λ B D k lookup whole before H kl W. turn_next H kl W part is-part len length_is room laid;
          }
        where
          laid : put_mid c.place (length out - c.place) out ys
              ≡ take c.place out ++ (record_bytes c.last.item c.last.number (triple part.item part.zero part.one) ++ drop (c.place + len) out)
          laid =
              laid_behind out c.place (record_bytes c.last.item c.last.number (triple part.item part.zero part.one)) ys (omega (arith, length_is)) ey
              ∙ ap (λ x. take c.place out ++ (record_bytes c.last.item c.last.number (triple part.item part.zero part.one) ++ drop (c.place + x) out)) (sym length_is)

          long_out : length (put_mid c.place (length out - c.place) out ys) ≡ length out
          long_out =
              ap length laid
              ∙ omega (
                arith,
                length-append (take c.place out) (record_bytes c.last.item c.last.number (triple part.item part.zero part.one) ++ drop (c.place + len) out),
                length-append (record_bytes c.last.item c.last.number (triple part.item part.zero part.one)) (drop (c.place + len) out),
                length-take-le c.place out F.within,
                length-drop (c.place + len) out,
                length_is,
              )
