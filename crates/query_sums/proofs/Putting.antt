-- The numbers of a node in its words: how they are read, and what is put by either way, plain or kept.
-- Words of small numbers are the numbers; kept sums and products tell which of them are above the largest word.
use Prim.Native.Nat.{ℕ, ◌+◌, ◌*◌, ◌-◌, ◌≤◌, ◌<◌}
use mathlib.Core.Path.{◌≡◌, refl, sym, ap, ◌∙◌}
use mathlib.Core.Bool.{Bool, true, false, not}
use mathlib.Core.List.{List}
use native.Mathlib.Omega.{arith}
use native.Mathlib.Nat.{mul-le-mul}
use lib.ListN.{length, get_or, set, length-set}
use lib.Seq.{get_or-set_same, get_or-set_other}
use borrow.Author.Tests.{lt-ltb, le-ltb}
use Rattle.std.specs.Prelude.{Option, is_some, is_none, unwrap_or}
use Rattle.family.specs.Family.{Family, node, size}
use Rattle.family.specs.Weights.{item_weight, sum_by_nodes}
use Rattle.words.specs.Words.{most}
use Rattle.query_sums.specs.declared.numbers.Both.{Both}
use Rattle.query_sums.specs.Inner.{Keeps, Added, Multiplied, size_word, sum_word, mark_word, mark_of, size_mark, sum_mark, Carries, Paired, Told, BothKept, Small, put_small, put_numbers, NodePut}
use Rattle.query_sums.proofs.Keeping.{kept_low, kept_mark, told_keeps}

module _ (words : List ℕ) (n p : ℕ) where
  pub size_leaf : p < 2 → size_word words p ≡ p
  unfolding size_word
  size_leaf l = rw (lt-ltb p 2 l)

  pub sum_leaf : p < 2 → sum_word words p ≡ 0
  unfolding sum_word
  sum_leaf l = rw (lt-ltb p 2 l)

  pub mark_leaf : p < 2 → mark_word words n p ≡ 0
  unfolding mark_word
  mark_leaf l = rw (lt-ltb p 2 l)

  pub size_node : 2 ≤ p → size_word words p ≡ get_or words (2 * (p - 2)) 0
  unfolding size_word
  size_node l = rw (le-ltb p 2 l)

  pub sum_node : 2 ≤ p → sum_word words p ≡ get_or words (2 * (p - 2) + 1) 0
  unfolding sum_word
  sum_node l = rw (le-ltb p 2 l)

  pub mark_node : 2 ≤ p → mark_word words n p ≡ get_or words (2 * n + (p - 2)) 0
  unfolding mark_word
  mark_node l = rw (le-ltb p 2 l)

  -- the ways out of `pair_at`
  pub paired_leaf : p < 2 → (r : Both ℕ) → r.size ≡ p → r.sum ≡ 0 → Paired words n p r
  paired_leaf l r e d = record { size_is = λ m. e ∙ sym (size_leaf l); sum_is = λ m. d ∙ sym (sum_leaf l) }

  pub paired_outside : 2 ≤ p → n ≤ p - 2 → (r : Both ℕ) → Paired words n p r
  paired_outside h o r = record { size_is = λ m. absurd (omega arith); sum_is = λ m. absurd (omega arith) }

  pub paired_node : 2 ≤ p → (r : Both ℕ) → r.size ≡ get_or words (2 * (p - 2)) 0 → r.sum ≡ get_or words (2 * (p - 2) + 1) 0 → Paired words n p r
  paired_node h r e d = record { size_is = λ m. e ∙ sym (size_node h); sum_is = λ m. d ∙ sym (sum_node h) }

  -- the numbers of a handle, from its words and its mark
  pub both_kept : (pair : Both ℕ) → Paired words n p pair → (mark : ℕ) → (p < n + 2 → mark ≡ mark_word words n p) → (r : Both (Option ℕ))
      → Told pair.size (size_mark mark) r.size → Told pair.sum (sum_mark mark) r.sum → BothKept words n p r
  both_kept pair P mark em r S T =
      record {
        size_is = λ l weights F C.
            told_keeps _ _ r.size (size F) (P.size_is l ∙ C.size_low)
            (λ e. ap size_mark (em l) ∙ C.size_mark_is (sym (P.size_is l) ∙ e)) S;
        sum_is = λ l weights F C.
            told_keeps _ _ r.sum (sum_by_nodes weights F) (P.sum_is l ∙ C.sum_low)
            (λ e. ap sum_mark (em l) ∙ C.sum_mark_is (sym (P.sum_is l) ∙ e)) T;
      }

-- what a mark says
size_of_mark : (s t : Bool) → size_mark (mark_of s t) ≡ s
size_of_mark true true = refl
size_of_mark true false = refl
size_of_mark false true = refl
size_of_mark false false = refl

sum_of_mark : (s t : Bool) → sum_mark (mark_of s t) ≡ t
sum_of_mark true true = refl
sum_of_mark true false = refl
sum_of_mark false true = refl
sum_of_mark false false = refl

-- the words of two kept numbers and their mark are put
pub put_is : (words : List ℕ) (n j : ℕ) (s t : Option ℕ) (size_put sum_put mark : ℕ) (size_none sum_none : Bool) → size_put ≡ unwrap_or s most → sum_put ≡ unwrap_or t most
    → is_some s ≡ not size_none → is_some t ≡ not sum_none → mark ≡ mark_of size_none sum_none
    → set (set (set words (2 * j) size_put) (2 * j + 1) sum_put) (2 * n + j) mark ≡ put_numbers words n j (unwrap_or s most) (unwrap_or t most) (mark_of (is_none s) (is_none t))
put_is words n j s t size_put sum_put mark size_none sum_none a b d e m =
    let x = none_is s size_none d in
    let y = none_is t sum_none e in
    rw (a, b, m, x, y)
  where
    none_is : (k : Option ℕ) (r : Bool) → is_some k ≡ not r → r ≡ is_none k
    none_is k true e = sym (ap not e)
    none_is k false e = sym (ap not e)

-- kept numbers carry a family
kept_carries : (weights : List ℕ) (F : Family) (s t : Option ℕ) → Keeps (size F) s → Keeps (sum_by_nodes weights F) t
    → Carries weights F (unwrap_or s most) (unwrap_or t most) (mark_of (is_none s) (is_none t))
kept_carries weights F s t K L =
    record {
      size_low = kept_low _ s K;
      sum_low = kept_low _ t L;
      size_mark_is = λ e. size_of_mark (is_none s) (is_none t) ∙ kept_mark _ s K;
      sum_mark_is = λ e. sum_of_mark (is_none s) (is_none t) ∙ kept_mark _ t L;
    }

-- a small number times a weight of 32 bits
pub light_product : (k s : ℕ) → k ≤ 4294967295 → s ≤ 2147483647 → k * s ≤ 9223372030412324865
light_product k s l m = mul-le-mul {n₁ = k} {m₁ = s} {n₂ = 4294967295} {m₂ = 2147483647} l m

-- small words carry a node, whatever its mark
small_carries : (weights : List ℕ) (i : ℕ) (a b : Family) (za zb zm oa ob om : ℕ) → Carries weights a za zb zm → Carries weights b oa ob om
    → za ≤ 2147483647 → zb ≤ 4611686018427387903 → oa ≤ 2147483647 → ob ≤ 4611686018427387903 → (k : ℕ) → k ≤ 4294967295 → k ≡ item_weight weights i
    → (m : ℕ) → Carries weights (node i a b) (za + oa) (zb + ob + k * oa) m
small_carries weights i a b za zb zm oa ob om C D la lb ma mb k lk ek m =
    let s : oa ≡ size b = D.size_low ∙ omega (arith, D.size_low) in
    let e : k * oa ≡ item_weight weights i * size b = ap (λ x. x * oa) ek ∙ ap (λ x. item_weight weights i * x) s in
    let h = light_product k oa lk ma in
    record {
      size_low = omega (arith, C.size_low, D.size_low);
      sum_low = omega (arith, C.sum_low, D.sum_low);
      size_mark_is = λ q. absurd (omega arith);
      sum_mark_is = λ q. absurd (omega arith);
    }

module _ (words : List ℕ) (n j : ℕ) (long : 3 * n ≤ length words) (l : j < n) (k zero one : ℕ) where
  -- the plain way: the words of two small handles
  pub put_small_lem : k ≤ 4294967295 → (z o : Both ℕ) → Paired words n zero z → Paired words n one o → Small z
      → Small o → (words' : List ℕ) → words' ≡ put_small words j k z o
      → NodePut n j k zero one words words'
  put_small_lem lk z o P Q sz so words' e =
      rw e
      (record {
        long = length-set first (2 * j + 1) sum_is ∙ length-set words (2 * j) size_is;
        others = λ h a b c. get_or-set_other first (2 * j + 1) h sum_is 0 b ∙ get_or-set_other words (2 * j) h size_is 0 a;
        is = λ lz lo weights i a b ek C D.
            let c = small_carries weights i a b z.size z.sum _ o.size o.sum _ (rw (← P.size_is lz, ← P.sum_is lz) at C) (rw (← Q.size_is lo, ← Q.sum_is lo) at D)
            sz.size_low sz.sum_low so.size_low so.sum_low k lk ek (get_or (set first (2 * j + 1) sum_is) (2 * n + j) 0) in
            rw (size_read, sum_read) c;
      })
    where
      size_is : ℕ
      size_is = z.size + o.size

      sum_is : ℕ
      sum_is = z.sum + o.sum + k * o.size

      first : List ℕ
      first = set words (2 * j) size_is

      size_read : get_or (set first (2 * j + 1) sum_is) (2 * j) 0 ≡ size_is
      size_read = get_or-set_other first (2 * j + 1) (2 * j) sum_is 0 (λ q. omega arith) ∙ get_or-set_same words (2 * j) size_is 0 (omega arith)

      sum_read : get_or (set first (2 * j + 1) sum_is) (2 * j + 1) 0 ≡ sum_is
      sum_read = get_or-set_same first (2 * j + 1) sum_is 0 (omega (arith, length-set words (2 * j) size_is))

  -- the kept way
  pub put_kept : (z o : Both (Option ℕ)) → BothKept words n zero z → BothKept words n one o → (sides product size_is sum_is : Option ℕ) → Added z.sum o.sum sides → Multiplied k o.size product
      → Added z.size o.size size_is → Added sides product sum_is → (words' : List ℕ) → words' ≡ put_numbers words n j (unwrap_or size_is most) (unwrap_or sum_is most) (mark_of (is_none size_is) (is_none sum_is))
      → NodePut n j k zero one words words'
  put_kept z o P Q sides product size_is sum_is A M S T words' e =
      rw e
      (record {
        long = length-set second (2 * n + j) mark ∙ length-set first (2 * j + 1) sum_put ∙ length-set words (2 * j) size_put;
        others = λ h a b c. get_or-set_other second (2 * n + j) h mark 0 c ∙ get_or-set_other first (2 * j + 1) h sum_put 0 b ∙ get_or-set_other words (2 * j) h size_put 0 a;
        is = λ lz lo weights i a b ek C D.
            let kz = P.size_is lz weights a C in
            let ko = Q.size_is lo weights b D in
            let sum = T.is (sum_by_nodes weights a + sum_by_nodes weights b) (k * size b) (A.is (sum_by_nodes weights a) (sum_by_nodes weights b) (P.sum_is lz weights a C) (Q.sum_is lo weights b D)) (M.is (size b) ko) in
            rw (size_read, sum_read, mark_read) (kept_carries weights (node i a b) size_is sum_is (S.is (size a) (size b) kz ko) (rw ek at sum));
      })
    where
      size_put : ℕ
      size_put = unwrap_or size_is most

      sum_put : ℕ
      sum_put = unwrap_or sum_is most

      mark : ℕ
      mark = mark_of (is_none size_is) (is_none sum_is)

      first : List ℕ
      first = set words (2 * j) size_put

      second : List ℕ
      second = set first (2 * j + 1) sum_put

      size_read : get_or (set second (2 * n + j) mark) (2 * j) 0 ≡ size_put
      size_read =
          get_or-set_other second (2 * n + j) (2 * j) mark 0 (λ q. omega arith) ∙ get_or-set_other first (2 * j + 1) (2 * j) sum_put 0 (λ q. omega arith)
          ∙ get_or-set_same words (2 * j) size_put 0 (omega arith)

      sum_read : get_or (set second (2 * n + j) mark) (2 * j + 1) 0 ≡ sum_put
      sum_read =
          get_or-set_other second (2 * n + j) (2 * j + 1) mark 0 (λ q. omega arith)
          ∙ get_or-set_same first (2 * j + 1) sum_put 0 (omega (arith, length-set words (2 * j) size_put))

      mark_read : get_or (set second (2 * n + j) mark) (2 * n + j) 0 ≡ mark
      mark_read = get_or-set_same second (2 * n + j) mark 0 (omega (arith, length-set first (2 * j + 1) sum_put, length-set words (2 * j) size_put))
