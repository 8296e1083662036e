-- The word of a handle, where there is one word per node: the ways out of a function that reads it.
-- A handle below 2 stands for itself; past the words there is 0.
use Prim.Native.Nat.{ℕ, ◌-◌, ◌≤◌, ◌<◌}
use mathlib.Core.Path.{◌≡◌, sym, ◌∙◌}
use mathlib.Core.List.{List}
use lib.ListN.{length, get_or, get_or-eq_default}
use borrow.Author.Tests.{lt-ltb, le-ltb}
use Rattle.store.specs.Words.{word_of}

module _ (words : List ℕ) (h : ℕ) where
  pub word_leaf : h < 2 → h ≡ word_of words h
  unfolding word_of
  word_leaf l = rw (lt-ltb h 2 l)

  pub word_node : 2 ≤ h → get_or words (h - 2) 0 ≡ word_of words h
  unfolding word_of
  word_node l = rw (le-ltb h 2 l)

  pub word_none : 2 ≤ h → length words ≤ h - 2 → 0 ≡ word_of words h
  word_none l m = sym (get_or-eq_default words 0 m) ∙ word_node l
