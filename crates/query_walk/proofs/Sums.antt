-- Sizes in one word: how the size of a number is read, and the sum of two sizes.
-- A size of at least 1 is its word, or is above the largest and has the word 0; a sum is above it where a side is.
use Prim.Native.Nat.{ℕ, ◌+◌, ◌-◌, ◌≤◌, ◌<◌}
use mathlib.Core.Path.{◌≡◌, ◌∙◌}
use native.Mathlib.Omega.{arith}
use lib.ListN.{get_or}
use borrow.Author.Tests.{lt-ltb, le-ltb, eq-eqb, ne_eqb}
use Rattle.std.specs.Prelude.{None, Some, unwrap_or}
use Rattle.words.specs.Words.{most}
use Rattle.query_parts.specs.declared.entries.Parts.{Parts}
use Rattle.words.proofs.Cases.{by_lt}
use Rattle.query_walk.specs.Inner.{as_word, told, word_told, size_of}

module _ (t : Parts) (number : ℕ) where
  pub size_leaf : number < 2 → Some number ≡ size_of t number
  unfolding size_of
  size_leaf l = rw (lt-ltb number 2 l)

  pub size_read : 2 ≤ number → size_of t number ≡ word_told (get_or t.words.now (t.places + (number - 2)) 0)
  unfolding size_of
  size_read l = rw (le-ltb number 2 l)

  module _ (w : ℕ) (l : 2 ≤ number) (is : w ≡ get_or t.words.now (t.places + (number - 2)) 0) where
    pub size_none : w ≡ 0 → None ≡ size_of t number
    unfolding size_of
    size_none e = rw (le-ltb number 2 l, ← is, eq-eqb w 0 e)

    pub size_some : (w ≡ 0 → ⊥) → Some w ≡ size_of t number
    unfolding size_of
    size_some n = rw (le-ltb number 2 l, ← is, ne_eqb w 0 n)

module _ (x : ℕ) where
  pub told_low : x ≤ most → told x ≡ Some x
  told_low l = rw (le-ltb most x l)

  pub told_high : most < x → told x ≡ None
  told_high l = rw (lt-ltb most x l)

  -- what is told of a size
  pub told_none : None ≡ told x → most < x
  told_none e = by_lt most x (λ l d. l) (λ l d. let z = e ∙ told_low l in cc)

  pub told_some : (k : ℕ) → Some k ≡ told x → (x ≤ most) × (k ≡ x)
  told_some k e = by_lt most x (λ l d. let z = e ∙ told_high l in cc) (λ l d. let z = e ∙ told_low l in (l, cc))

  -- the word that a size is put in, and what it tells of one that is not 0
  pub word_put : unwrap_or (told x) 0 ≡ as_word x
  word_put = by_lt most x (λ l d. rw (lt-ltb most x l)) (λ l d. rw (le-ltb most x l))

  pub word_read : 0 < x → word_told (as_word x) ≡ told x
  word_read s = by_lt most x (λ l d. rw (lt-ltb most x l)) (λ l d. rw (le-ltb most x l, ne_eqb x 0 (λ e. omega arith)))
