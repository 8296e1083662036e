-- `size_at` reads the word of a handle.
-- The definition's two cases; past the words there is 0 in both.
use Rattle.std.proofs.Common.{◌∙◌, arith}
use Rattle.store.proofs.Handles.{word_leaf, word_node}
use Rattle.query_sizes.proofs.size_at.Goals as goal

pub returns-then-handle-lt2 : goal.returns-then-handle-lt2
returns-then-handle-lt2 c = rw c.from.ensures (word_leaf c.args.sizes.now c.args.handle c.if-handle-lt2.true)

pub returns : goal.returns
returns c =
    c.unwrap_or.ensures ∙ rw c.copied.ensures (c.get.ensures.lookup.4 (omega arith) 0)
    ∙ word_node c.args.sizes.now c.args.handle c.if-handle-lt2.false
