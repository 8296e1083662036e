-- The files that a list of calls saves: each is the file of the family that its handle meant then.
-- A family of a store has no more parts than the store has nodes, so it has a file; and files are equal exactly when
-- their families are.
use Prim.Native.Nat.{ℕ, ◌≤◌}
use mathlib.Core.Path.{◌≡◌, refl, sym, ap, ◌∙◌}
use mathlib.Core.List.Memᴰ
use mathlib.Core.List.{List, [], ◌∷◌, ◌++◌, append_assoc, append-nil, Memᴰ}
use mathlib.Core.Logic.{◌↔◌, ⊎_elim}
use native.Mathlib.Omega.{arith}
use lib.Dec.{eqb}
use lib.ListN.{length}
use Rattle.words.proofs.Cases.{by_test}
use Rattle.family.specs.Family.{Family, Within, largest_item}
use Rattle.family.specs.Book.{start, at, number, Held, place, Book}
use Rattle.family.specs.File.{file_of, HasFile}
use Rattle.family.proofs.Books.{held_at, grown_held, book_start}
use Rattle.family.proofs.Placing.{book_place, place_held, place_only, parts_held}
use Rattle.family.proofs.Different.{no_longer}
use Rattle.family.proofs.Files.{files_equal}
use Rattle.lists.specs.Calls.{Call}
use Rattle.lists.specs.Acts.{Act, act_of, act_answer}
use Rattle.lists.specs.Books.{Bounds, book_answer, book_after, answers_from, book_from, SavedFile, file_by, files_from}
use Rattle.lists.proofs.Acting.{Grounded, fact_grounded, file_grounded, family_grounded, grounded}

-- a family within a limit is within every larger one
pub wider : {t u : ℕ} {F : Family} → t ≤ u → Within t F → Within u F
wider l w = record { ordered = w.ordered; low = omega (arith, w.low) }

-- a family of a book has no more parts than the book has families
module _ {limit : ℕ} (B : List Family) (book : Book limit B) (F : Family) (h : Held B F) where
  own : Book limit (place start F)
  own = (book_place start F (book_start limit) (book.within F h)).0

  inside : (G : Family) → Held (place start F) G → Held B G
  inside G m =
      ⊎_elim (λ l. grown_held book.begins G l) (λ r. rw (place_held B F book h) at (parts_held B F G r)) (place_only start F G m)

  parts_few : length (place start F) ≤ length B
  parts_few =
      no_longer (place start F) B
      (λ j k l m e. let p = own.unique j (omega arith) in let q = own.unique k m in let d : j ≡ k = sym p ∙ ap (λ X. number (place start F) X) e ∙ q in omega arith)
      (λ k l. inside (at (place start F) k) (held_at (place start F) own k l))

  has_file : length B ≤ 4294967296 → limit ≤ largest_item → HasFile largest_item F
  has_file l low = record { within = wider low (book.within F h); few = omega (arith, parts_few) }

-- a file that was saved, whatever the limit of its store
pub record Filed (f : SavedFile) : Type 0 where
  pub has : HasFile largest_item f.family
  pub is : file_of f.family ≡ f.bytes

pub filed_equal : (f g : SavedFile) → Filed f → Filed g → (f.bytes ≡ g.bytes) ↔ (f.family ≡ g.family)
filed_equal f g p q =
    let e = files_equal largest_item (omega arith) f.family g.family p.has q.has in
    (λ b. e.0 (p.is ∙ b ∙ sym q.is), λ d. sym p.is ∙ e.1 d ∙ q.is)

module _ (bounds : Bounds) where
  -- a file is of a family that the book holds
  act_filed : {B : List Family} → Book bounds.limit B → bounds.limit ≤ largest_item → length B ≤ 4294967296 → {act : Act} → Grounded bounds.limit B act → (f : SavedFile) → Memᴰ f (file_by act (act_answer bounds.capacity B act)) → Filed f
  act_filed book low l fact_grounded f m = absurd (Memᴰ.not-nil m)
  act_filed {B} book low l (file_grounded {n = n} {F = F} h) f m =
      by_test (eqb n 0)
      (λ z. let e = Memᴰ.eq_of_singleton (rw z at m) in rw e record { has = has_file B book F h l low; is = refl })
      (λ z. absurd (Memᴰ.not-nil (rw z at m)))
  act_filed book low l (family_grounded w) f m = absurd (Memᴰ.not-nil m)

  pub now_filed : (B : List Family) → Book bounds.limit B → bounds.limit ≤ largest_item → length B ≤ 4294967296 → (call : Call) (f : SavedFile) → Memᴰ f (file_by (act_of bounds.limit B call) (book_answer bounds B call)) → Filed f
  unfolding book_answer
  now_filed B book low l call f m = act_filed book low l (grounded bounds.limit B book call) f m

  pub files_snoc : (B : List Family) (calls : List Call) (call : Call) → files_from bounds B (calls ++ (call ∷ [])) (answers_from bounds B (calls ++ (call ∷ [])))
      ≡ files_from bounds B calls (answers_from bounds B calls) ++ file_by (act_of bounds.limit (book_from bounds B calls) call) (book_answer bounds (book_from bounds B calls) call)
  files_snoc B [] call = append-nil (file_by (act_of bounds.limit B call) (book_answer bounds B call))
  files_snoc B (c ∷ calls) call =
      ap (λ l. file_by (act_of bounds.limit B c) (book_answer bounds B c) ++ l) (files_snoc (book_after bounds B c) calls call)
      ∙ sym (append_assoc (file_by (act_of bounds.limit B c) (book_answer bounds B c)) (files_from bounds (book_after bounds B c) calls (answers_from bounds (book_after bounds B c) calls)) _)
