-- `handle_at` gives a local number's handle in the store: 0 and 1 keep their meaning.
-- The definition's two cases.
use Rattle.store.proofs.Handles.{word_leaf, word_node}
use Rattle.file_place.proofs.handle_at.Goals as goal

pub returns-then-p-lt2 : goal.returns-then-p-lt2
returns-then-p-lt2 c = search word_leaf

pub returns : goal.returns
returns c = search word_node
