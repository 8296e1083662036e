-- The book of a list, from the families handed out: it holds them all under the handles given for them, and beside {}
-- and {{}} exactly their different parts. By the two effects of a call: the book stays, or it grows by a family's
-- parts and keeps its numbers.
use Prim.Native.Nat.{ℕ, ◌+◌}
use mathlib.Core.Path.{◌≡◌, refl, sym, ap, ◌∙◌}
use mathlib.Core.List.Memᴰ
use mathlib.Core.List.{List, [], ◌∷◌, ◌++◌, append_assoc, append-nil, foldl, foldl-append, Memᴰ}
use mathlib.Core.Logic.{⊎_elim}
use lib.ListN.{length, length-append}
use Rattle.family.specs.Family.{Family, empty, base, node, parts}
use Rattle.family.specs.Book.{start, at, number, Held, add, place, Grown, distinct, absent}
use Rattle.family.proofs.Books.{number_at, grown_self, grown_trans, grown_number, grown_held, add_held, book_start, held_empty, held_base, number_empty, number_base}
use Rattle.family.proofs.Placing.{place_parts, place_grown}
use Rattle.family.proofs.Different.{add_all, absent_append, absent_start}
use Rattle.lists.specs.Calls.{Call}
use Rattle.lists.specs.Acts.{Effect, stays, grows, changed}
use Rattle.lists.specs.Books.{Bounds, book_answer, book_effect, book_after, Handout, first_handouts, handout, handing, answers_from, book_from, handed_from, all_parts}

-- the number of a family in a book
pub record Numbered (B : List Family) (F : Family) (h : ℕ) : Type 0 where
  pub held : Held B F
  pub is : number B F ≡ h

pub numbered_grown : {B C : List Family} {F : Family} {h : ℕ} → Grown B C → Numbered B F h → Numbered C F h
numbered_grown {F = F} g N = record { held = grown_held g F N.held; is = grown_number g F N.held ∙ N.is }

pub numbered_at : {B : List Family} {F : Family} {h : ℕ} → Numbered B F h → at B h ≡ F
numbered_at {B} {F} N = ap (λ k. at B k) (sym N.is) ∙ number_at B F N.held

-- the book is made by the families handed out: it is their parts, and each family stands there under its handle
pub record MadeBy (B : List Family) (hs : List Handout) : Type 0 where
  pub adds : B ≡ foldl add start (all_parts hs)
  pub each : (g : Handout) → Memᴰ g hs → Numbered B g.family g.handle

parts_append : (hs ks : List Handout) → all_parts (hs ++ ks) ≡ all_parts hs ++ all_parts ks
parts_append [] ks = refl
parts_append (h ∷ hs) ks = ap (λ l. parts h.family ++ l) (parts_append hs ks) ∙ sym (append_assoc (parts h.family) (all_parts hs) (all_parts ks))

absent_all : (hs : List Handout) → absent start (all_parts hs) ≡ all_parts hs
absent_all [] = refl
absent_all (h ∷ hs) = absent_append start (parts h.family) (all_parts hs) ∙ rw (absent_start h.family, absent_all hs)

-- a family that was placed is held
pub placed_held : (B : List Family) (F : Family) → Grown start B → Held (place B F) F
placed_held B empty g = grown_held g empty (held_empty start (book_start 0))
placed_held B base g = grown_held g base (held_base start (book_start 0))
placed_held B (node i a b) g = add_held (place (place B a) b) (node i a b)

-- 0 and 1 are the numbers of {} and {{}}
pub first_handed : MadeBy start first_handouts
first_handed = record { adds = refl; each = λ g m. ⊎_elim (λ e. rw e zero_is) (λ n. ⊎_elim (λ e. rw e one_is) (λ o. absurd (Memᴰ.not-nil o)) (Memᴰ.cases_cons n)) (Memᴰ.cases_cons m) }
  where
    zero_is : Numbered start empty 0
    zero_is = record { held = held_empty start (book_start 0); is = number_empty start (book_start 0) }

    one_is : Numbered start base 1
    one_is = record { held = held_base start (book_start 0); is = number_base start (book_start 0) }

-- one call, by its effect
changed_grown : (B : List Family) (e : Effect) → Grown B (changed B e)
changed_grown B stays = grown_self B
changed_grown B (grows F) = place_grown B F

handing_handed : (B : List Family) (hs : List Handout) → Grown start B → MadeBy B hs → (e : Effect) → MadeBy (changed B e) (handing B hs e)
handing_handed B hs s H stays = H
handing_handed B hs s H (grows F) =
    record {
      adds = place_parts B F ∙ ap (λ X. foldl add X (parts F)) H.adds ∙ sym (foldl-append add start (all_parts hs) (parts F)) ∙ rw (parts_append hs (handout (place B F) F ∷ []), append-nil);
      each = λ g m. ⊎_elim
          (λ l. numbered_grown (place_grown B F) (H.each g l))
          (λ r. let e = Memᴰ.eq_of_singleton r in rw e record { held = placed_held B F s; is = refl })
          (Memᴰ.append_cases hs m);
    }

-- "the number of different parts of all families handed out"
pub handed_length : {B : List Family} {hs : List Handout} → MadeBy B hs → length B ≡ 2 + length (distinct (all_parts hs))
handed_length {B} {hs} H =
    ap length (H.adds ∙ add_all start (all_parts hs)) ∙ length-append start (distinct (absent start (all_parts hs))) ∙ rw (absent_all hs)

module _ (bounds : Bounds) where
  -- more calls, and one call more
  pub book_append : (B : List Family) (calls more : List Call) → book_from bounds B (calls ++ more) ≡ book_from bounds (book_from bounds B calls) more
  book_append B [] more = refl
  book_append B (c ∷ calls) more = book_append (book_after bounds B c) calls more

  pub book_snoc : (B : List Family) (calls : List Call) (call : Call) → book_from bounds B (calls ++ (call ∷ [])) ≡ book_after bounds (book_from bounds B calls) call
  book_snoc B calls call = book_append B calls (call ∷ [])

  pub answers_snoc : (B : List Family) (calls : List Call) (call : Call)
      → answers_from bounds B (calls ++ (call ∷ [])) ≡ answers_from bounds B calls ++ (book_answer bounds (book_from bounds B calls) call ∷ [])
  answers_snoc B [] call = refl
  answers_snoc B (c ∷ calls) call = ap (λ l. book_answer bounds B c ∷ l) (answers_snoc (book_after bounds B c) calls call)

  pub handed_from_lem : (B : List Family) (hs : List Handout) (calls : List Call) → Grown start B → MadeBy B hs → MadeBy (book_from bounds B calls) (handed_from bounds B hs calls)
  handed_from_lem B hs [] s H = H
  handed_from_lem B hs (c ∷ calls) s H =
      let e = book_effect bounds B c in
      handed_from_lem (changed B e) (handing B hs e) calls (grown_trans s (changed_grown B e)) (handing_handed B hs s H e)

  -- the book only grows
  pub book_grown : (B : List Family) (calls : List Call) → Grown B (book_from bounds B calls)
  book_grown B [] = grown_self B
  book_grown B (c ∷ calls) = grown_trans (changed_grown B (book_effect bounds B c)) (book_grown (book_after bounds B c) calls)
