-- Whether a size whose word is 2^64 - 1 is above that: on the way down the one sides the size stays the same, until a
-- side tells.
-- The tops fall, so the way ends within as many steps as there are items.
use Prim.Native.Nat.{ℕ, zero, suc, ◌+◌, ◌*◌, ◌-◌, ◌^◌, ◌≤◌, ◌<◌, min}
use mathlib.Core.Path.{◌≡◌, refl, sym, ap, ◌∙◌}
use mathlib.Core.Bool.{Bool, true, false, not}
use mathlib.Core.List.{List}
use native.Mathlib.Omega.{arith}
use lib.Dec.{T, ltb}
use lib.ListN.{get_or}
use borrow.Author.Tests.{lt-ltb, le-ltb}
use Rattle.std.specs.Prelude.{Option, None, Some, SomeIff, is_some}
use Rattle.family.specs.Family.{Family, empty, base, node, top, inhabited, size, Ordered, largest_item}
use Rattle.family.specs.Book.{at}
use Rattle.words.proofs.Cases.{by_lt, by_eq}
use Rattle.store.specs.Words.{word_of}
use Rattle.store.specs.Inner.{Entry, Holds}
use Rattle.store.proofs.Held.{at_0, at_1, at_node, within}
use Rattle.words.specs.Words.{most}
use Rattle.query_sizes.specs.Inner.{Exceeding}
use Rattle.query_sizes.proofs.Summing.{size_known}

-- a family with a member has a size
pub some_size : (F : Family) → Ordered F → T (inhabited F) → 1 ≤ size F
some_size empty o t = absurd t
some_size base o t = omega arith
some_size (node i a b) o t = let h = some_size b o.4 o.2 in omega arith

abbrev Known : List ℕ → List Family → ℕ → Type 0
Known sizes B n = (k : ℕ) → k < n → get_or sizes k 0 ≡ min (size (at B (k + 2))) most

-- the way down from p: the size at this handle is p's, and each step has brought its top down from the largest item
pub record Down (nodes sizes : List ℕ) (n p at' steps : ℕ) : Type 0 where
  pub inside : at' ≤ n + 1
  pub same : {limit : ℕ} (B : List Family) (lookup : List ℕ) → Holds limit B n nodes lookup → Known sizes B n → most ≤ size (at B p) → (size (at B at') ≡ size (at B p)) × (top (at B at') + steps ≤ largest_item)

module _ (nodes sizes : List ℕ) (n p : ℕ) where
  pub down_start : p ≤ n + 1 → Down nodes sizes n p p 0
  down_start l = record { inside = l; same = λ B lookup H K m. (refl, omega (arith, (within H p (omega arith)).low, H.limit_low)) }

  module _ (at' steps : ℕ) (D : Down nodes sizes n p at' steps) where
    leaf_size : {limit : ℕ} {B : List Family} {lookup : List ℕ} → Holds limit B n nodes lookup → (h : ℕ) → h < 2 → size (at B h) ≤ 1
    leaf_size H zero l = rw (at_0 H) (omega arith)
    leaf_size H (suc zero) l = rw (at_1 H) (omega arith)
    leaf_size H (suc (suc h)) l = absurd (omega arith)

    pub down_leaf : at' < 2 → Exceeding nodes sizes n p false
    down_leaf l = record { is = λ B lookup H K m. absurd (omega (arith, (D.same B lookup H K m).0, leaf_size H at' l)) }

    module _ (h : 2 ≤ at') where
      -- the words of the node
      abbrev z : ℕ
      z = get_or nodes (3 * (at' - 2) + 1) 0

      abbrev o : ℕ
      o = get_or nodes (3 * (at' - 2) + 2) 0

      module _ {limit : ℕ} {B : List Family} {lookup : List ℕ} (H : Holds limit B n nodes lookup) where
        here : Entry B (at' - 2) (get_or nodes (3 * (at' - 2)) 0) z o
        here = H.each (at' - 2) (omega (arith, D.inside))

        is_node : at B at' ≡ node (get_or nodes (3 * (at' - 2)) 0) (at B z) (at B o)
        is_node = at_node H at' h (omega (arith, D.inside))

        falls : Ordered (node (get_or nodes (3 * (at' - 2)) 0) (at B z) (at B o))
        falls = rw is_node at (within H at' (omega (arith, D.inside))).ordered

        sum : size (at B at') ≡ size (at B z) + size (at B o)
        sum = ap size is_node

        one_some : 1 ≤ size (at B o)
        one_some = some_size (at B o) falls.4 falls.2

        module _ (K : Known sizes B n) where
          zero_is : word_of sizes z ≡ min (size (at B z)) most
          zero_is = size_known H sizes n K z (omega (arith, here.zero_before, D.inside))

          one_is : word_of sizes o ≡ min (size (at B o)) most
          one_is = size_known H sizes n K o (omega (arith, here.one_before, D.inside))

      down_none : largest_item ≤ steps → Exceeding nodes sizes n p false
      down_none e = record { is = λ B lookup H K m. absurd (let f = falls H in omega (arith, (D.same B lookup H K m).1, ap top (is_node H), f.0)) }

      -- the sum of the words tells, where the one side is no more than its word says or the zero side has a member
      pub down_told : (below rest : ℕ) → below ≡ word_of sizes z → rest ≡ word_of sizes o → (below ≡ 0 → rest < most) → (r : Bool) → r ≡ ltb most (below + rest)
          → Exceeding nodes sizes n p r
      down_told below rest ez eo tells r er =
          record {
            is = λ B lookup H K m.
                let a = zero_is H K in
                let b = one_is H K in
                let s = sum H in
                let t = (D.same B lookup H K m).0 in
                let u = one_some H in
                er ∙ by_lt most (below + rest)
                (λ q d. d ∙ sym (lt-ltb most (size (at B p)) (omega arith)))
                (λ q d. d ∙ sym (le-ltb most (size (at B p)) (by_eq below 0 (λ e f. let l = tells e in omega arith) (λ e f. omega arith))));
          }

      pub down_outside : n + 1 < o → Exceeding nodes sizes n p false
      down_outside l = record { is = λ B lookup H K m. absurd (omega (arith, (here H).one_before, D.inside)) }

      -- the zero side is {}: the one side's size decides
      pub down_step : (below : ℕ) → below ≡ word_of sizes z → below ≡ 0 → o ≤ n + 1 → Down nodes sizes n p o (steps + 1)
      down_step below ez e l =
          record {
            inside = l;
            same = λ B lookup H K m.
                let q = D.same B lookup H K m in
                let f = falls H in
                (omega (arith, q.0, sum H, zero_is H K), omega (arith, q.1, ap top (is_node H), f.1));
          }

    -- after so many steps the top is 0
    pub down_end : largest_item ≤ steps → Exceeding nodes sizes n p false
    down_end e = by_lt at' 2 (λ l d. down_leaf l) (λ l d. down_none l e)

-- a sum is told by whether it fits a word
pub none_told : (a b : ℕ) (o : Option ℕ) (r : Bool) → SomeIff o (a + b < 2 ^ 64) (a + b) → is_some o ≡ not r → r ≡ ltb most (a + b)
none_told a b None true f e = sym (lt-ltb most (a + b) (by_lt (a + b) (2 ^ 64) (λ l d. absurd (f l)) (λ l d. omega arith)))
none_told a b (Some x) false f e = sym (le-ltb most (a + b) (omega (arith, f.0)))
none_told a b None false f e = absurd (cc)
none_told a b (Some x) true f e = absurd (cc)
