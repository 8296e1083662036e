-- A combination made by Change from handle 1 in rising items, and united with a family: the loop's steps and its ends.
-- After each call the handle that it gave means the family placed last, and families held before keep their numbers.
use Prim.Native.Nat.{ℕ, suc, ◌+◌, ◌-◌, ◌≤◌, ◌<◌}
use mathlib.Core.Path.{◌≡◌, refl, sym, ap, subst, ◌∙◌}
use mathlib.Core.Bool.{Bool, true, false}
use mathlib.Core.List.{List, [], ◌∷◌}
use native.Mathlib.Omega.{arith}
use lib.ListN.{length}
use Rattle.std.specs.Prelude.{Ok, Err}
use Rattle.words.proofs.Cases.{by_test}
use Rattle.family.specs.Family.{Family, largest_item}
use Rattle.family.specs.Operation.{change, union}
use Rattle.family.specs.Book.{at, number, Grown}
use Rattle.family.specs.Combination.{holds, bit_at, items_to, items_of}
use Rattle.family.proofs.Books.{number_at, number_base, held_base, grown_self, grown_trans, grown_at, grown_length}
use Rattle.family.proofs.Placing.{place_grown}
use Rattle.family.proofs.Words.{holds_items}
use Rattle.store.specs.declared.record.Store.{Store}
use Rattle.store.specs.declared.record.Refusal.{Refusal}
use Rattle.store.specs.declared.record.Placement.{Placement}
use Rattle.store.specs.declared.record.Answered.{Answered}
use Rattle.store.specs.Refusals.{refused_by, given_by}
use Rattle.store.specs.Words.{book_of}
use Rattle.store.specs.Operations.{rule}
use Rattle.store.specs.Sound.{Sound}
use Rattle.store.specs.Placing.{too_large}
use Rattle.store.proofs.Decoding.{sound_holds}
use Rattle.store.proofs.Calls.{refusal_some}
use Rattle.op_promise.specs.Promise.{OperationCall}
use Rattle.report_add.specs.Promise.{Added, called, next_call, line_made, last_answer, After, AddCall}
use Rattle.report_add.specs.Inner.{InRange, changed_by, ChangeIt, MakeIt}
use Rattle.report_add.proofs.Placings.{handle_inside, change_after, combine_after}

-- what an answer says of the calls
full_answer : (a : Added) → a.full ≡ true → last_answer a ≡ refused_by 5
full_answer a e = rw e

going_answer : (a : Added) → a.full ≡ false → last_answer a ≡ record { refusal = 0; handle = number a.book a.family; added = a.cost }
going_answer a e = rw e

pub record Gives (n : ℕ) (B : List Family) (a : Added) (h : ℕ) : Type 0 where
  pub going : a.full ≡ false
  pub inside : h ≤ n + 1
  pub means : at B h ≡ a.family

module _ {capacity : ℕ} {m : Answered Placement} {nodes lookup cache : List ℕ} {a : Added} (A : After capacity m nodes lookup cache a) where
  pub gives : {q : Placement} → m.answer ≡ Ok q → Gives m.store.count (book_of nodes m.store.count) a q.handle
  gives {q} e =
      by_test a.full
      (λ t. absurd (let z : ◌≡◌ {A = ℕ} 0 5 = ap (λ x. (given_by x).refusal) (sym e) ∙ ap (λ g. g.refusal) (A.answer_is ∙ full_answer a t) in omega arith))
      (λ t.
      let d : q.handle ≡ number a.book a.family = ap (λ x. (given_by x).handle) (sym e) ∙ ap (λ g. g.handle) (A.answer_is ∙ going_answer a t) in
      record {
        going = t;
        inside = omega (arith, A.held t, ap length A.book_is, (sound_holds A.sound).size);
        means = ap (λ B. at B q.handle) A.book_is ∙ ap (λ k. at a.book k) d ∙ number_at a.book a.family (A.held t);
      })

  pub refused_full : {x : Refusal} → m.answer ≡ Err x → a.full ≡ true
  refused_full {x} e =
      by_test a.full (λ t. t)
      (λ t. absurd (refusal_some x (ap (λ y. (given_by y).refusal) (sym e) ∙ ap (λ g. g.refusal) (A.answer_is ∙ going_answer a t))))

next_going : (capacity : ℕ) (f : Family → Family) (a : Added) → a.full ≡ false → next_call capacity f a ≡ called capacity a.book (f a.family)
next_going capacity f a e = rw e

-- one turn of the loop
module _ (m : Answered Placement) (nodes lookup cache : List ℕ) (c : List ℕ) (v : ℕ) where
  pub turn_changed : {t : Bool} {q : Placement} {r : Answered Placement} {nodes' lookup' cache' : List ℕ} → t ≡ holds v c → t ≡ true → InRange v → m.answer ≡ Ok q
      → OperationCall 3 q.handle v m.store nodes lookup cache r nodes' lookup' cache' → ChangeIt m nodes lookup cache c v r nodes' lookup' cache'
  turn_changed {q = q} {r} {nodes'} {lookup'} {cache'} e d i eh P = record { after = go }
    where
      go : (capacity : ℕ) (a : Added) → After capacity m nodes lookup cache a → After capacity r nodes' lookup' cache' (changed_by capacity c v a)
      go capacity a A =
          let G = gives A eh in
          let Q = change_after A.sound A.limit_is q.handle G.inside v i.low i.high P in
          rw (sym e ∙ d, next_going capacity (change v) a G.going, ← A.capacity_is, ← A.book_is, ← G.means) Q

-- the loop over the items: before each turn, the combination of the smaller items is made
pub record Making (s : Store) (nodes₀ lookup₀ cache₀ w nodes lookup cache : List ℕ) (m : Answered Placement) (item : ℕ) : Type 0 where
  pub after : Sound s nodes₀ lookup₀ cache₀ → s.limit ≡ largest_item → After s.capacity m nodes lookup cache (line_made s.capacity (book_of nodes₀ s.count) (items_to (item - 1) w))

pub making_start : {m : Answered Placement} {s : Store} (nodes lookup cache w : List ℕ) {h : ℕ} → m.store ≡ s → m.answer ≡ Ok (record { handle = h; added = 0 }) → h ≡ 1 → Making s nodes lookup cache w nodes lookup cache m 1
making_start {m} nodes lookup cache w es e one =
    rw (← es) record {
      after = λ S i. let B = (sound_holds S).book in record {
        sound = S;
        capacity_is = refl;
        limit_is = i;
        book_is = refl;
        answer_is = ap given_by e ∙ ap (λ k. record { refusal = 0; handle = k; added = 0 }) (one ∙ sym (number_base (book_of nodes m.store.count) B));
        held = λ f. held_base (book_of nodes m.store.count) B;
      };
    }

made_step : (capacity : ℕ) (B : List Family) (w : List ℕ) (n : ℕ) → n < 512 → line_made capacity B (items_to (suc n) w) ≡ changed_by capacity (items_of w) (suc n) (line_made capacity B (items_to n w))
made_step capacity B w n l = rw (holds_items n w l) (by_test (bit_at w n) (λ e. rw e) (λ e. rw e))

items_all : (w : List ℕ) (n : ℕ) → n ≡ 512 → items_to n w ≡ items_of w
unfolding items_of
items_all w n e = ap (λ k. items_to k w) e

module _ {s : Store} {nodes₀ lookup₀ cache₀ w nodes lookup cache : List ℕ} {m : Answered Placement} {item : ℕ} (I : Making s nodes₀ lookup₀ cache₀ w nodes lookup cache m item) where
  pub making_again : {r : Answered Placement} {nodes' lookup' cache' : List ℕ} → 1 ≤ item → item < 513 → ChangeIt m nodes lookup cache (items_of w) item r nodes' lookup' cache'
      → Making s nodes₀ lookup₀ cache₀ w nodes' lookup' cache' r (item + 1)
  making_again l h C =
      let up : item + 1 - 1 ≡ suc (item - 1) = omega arith in
      let one : suc (item - 1) ≡ item = omega arith in
      record {
        after = λ S i. rw (up, made_step s.capacity (book_of nodes₀ s.count) w (item - 1) (omega arith), one)
            (C.after s.capacity (line_made s.capacity (book_of nodes₀ s.count) (items_to (item - 1) w)) (I.after S i));
      }

  pub making_end : item ≤ 513 → 513 ≤ item → MakeIt s nodes₀ lookup₀ cache₀ (items_of w) m nodes lookup cache
  making_end l h =
      record {
        after = λ S i. subst (λ x. After s.capacity m nodes lookup cache (line_made s.capacity (book_of nodes₀ s.count) x)) (items_all w (item - 1) (omega arith)) (I.after S i);
      }

-- placing keeps what a book holds
pub placed_grown : (capacity : ℕ) (B : List Family) (F : Family) → Grown B (called capacity B F).book
unfolding called
placed_grown capacity B F = by_test (too_large capacity B F) (λ t. rw t (grown_self B)) (λ t. rw t (place_grown B F))

pub next_grown : (capacity : ℕ) (f : Family → Family) {B : List Family} (a : Added) → Grown B a.book → Grown B (next_call capacity f a).book
next_grown capacity f a g = by_test a.full (λ t. rw t g) (λ t. rw t (grown_trans g (placed_grown capacity a.book (f a.family))))

pub made_grown : (capacity : ℕ) (B : List Family) (c : List ℕ) → Grown B (line_made capacity B c).book
made_grown capacity B [] = grown_self B
made_grown capacity B (x ∷ c) = next_grown capacity (change x) (line_made capacity B c) (made_grown capacity B c)

-- one Union of the family of a handle with the family placed last
united : {capacity : ℕ} {m : Answered Placement} {nodes lookup cache : List ℕ} {a : Added} → After capacity m nodes lookup cache a → (p : ℕ) (F : Family) → p ≤ m.store.count + 1 → at (book_of nodes m.store.count) p ≡ F
    → {q : Placement} → m.answer ≡ Ok q → {r : Answered Placement} {nodes' lookup' cache' : List ℕ} → OperationCall 4 p q.handle m.store nodes lookup cache r nodes' lookup' cache'
    → After capacity r nodes' lookup' cache' (next_call capacity (union F) a)
unfolding rule
united {capacity} {a = a} A p F l e {q} eh P =
    let G = gives A eh in
    let Q = combine_after A.sound A.limit_is p l 4 (omega arith) (omega arith) q.handle G.inside P in
    rw (next_going capacity (union F) a G.going, ← A.capacity_is, ← A.book_is, ← G.means, ← e) Q

-- the ends of adding
module _ {s : Store} {nodes lookup cache c : List ℕ} {m : Answered Placement} {nodes₁ lookup₁ cache₁ : List ℕ} (M : MakeIt s nodes lookup cache c m nodes₁ lookup₁ cache₁) (p : ℕ) where
  pub add_united : {q : Placement} {r : Answered Placement} {nodes' lookup' cache' : List ℕ} → m.answer ≡ Ok q → OperationCall 4 p q.handle m.store nodes₁ lookup₁ cache₁ r nodes' lookup' cache'
      → AddCall s nodes lookup cache p c r nodes' lookup' cache'
  add_united eh P =
      record {
        on_sound = λ S i l.
            let A = M.after S i in
            let g = made_grown s.capacity (book_of nodes s.count) c in
            let k = handle_inside S p l in
            united A p (at (book_of nodes s.count) p) (omega (arith, grown_length g, ap length A.book_is, (sound_holds A.sound).size)) (ap (λ B. at B p) A.book_is ∙ grown_at g p k) eh P;
      }
