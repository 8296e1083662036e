-- The words of a book, and the book of words: document 01, 'The store'.
use Rattle.std.specs.Prelude.{ℕ, zero, suc, ◌+◌, ◌*◌, ◌-◌, cond, List, [], ◌∷◌, ◌++◌, ltb, length, get_or, drop, replicate}
use Rattle.family.specs.Family.{Family, node}
use Rattle.family.specs.Book.{start, at}
use Rattle.family.specs.Record.{Triple, triple}
use Rattle.family.specs.File.{triples_of}
use Rattle.table.specs.Entered.{entered, start_at}

-- "Node k (2, 3, ..) stands in words 3(k − 2) onward": the top of handle p, 0 for the handles 0 and 1
unfoldable pub top_at : List ℕ → ℕ → ℕ
top_at nodes p = cond (ltb p 2) 0 (get_or nodes (3 * (p - 2)) 0)

-- "It means: zero child's family, together with one child's members each with the item added": the families of the
-- handles 0 to n + 1, in rising number
unfoldable pub book_of : List ℕ → ℕ → List Family
book_of nodes zero = start
book_of nodes (suc n) =
    let B = book_of nodes n in
    B ++ (node (get_or nodes (3 * n) 0) (at B (get_or nodes (3 * n + 1) 0)) (at B (get_or nodes (3 * n + 2) 0)) ∷ [])

abbrev pub flat : List Triple → List ℕ
flat [] = []
flat (triple i z o ∷ ts) = i ∷ z ∷ o ∷ flat ts

-- the node words of a book: "item, zero child, one child" of each family from number 2 on, children by their numbers
unfoldable pub words_of : List Family → List ℕ
words_of B = flat (triples_of B (drop 2 B))

-- the lent node words once they hold a book: the book's words, "the capacity's node words past the count are 0", and
-- what belongs to nobody as it was
unfoldable pub nodes_with : ℕ → List Family → List ℕ → List ℕ
nodes_with capacity B nodes = words_of B ++ (replicate (3 * capacity - length (words_of B)) 0 ++ drop (3 * capacity) nodes)

-- "the lookup is what entering the nodes in rising number gives": the lookup of len slots of a book
unfoldable pub lookup_of : ℕ → List Family → List ℕ
lookup_of len B = entered (start_at (words_of B) len) len (length B - 2)

-- what a word per node says of a handle: the handles 0 and 1 stand for themselves, and handle h from 2 on has word h
-- − 2
unfoldable pub word_of : List ℕ → ℕ → ℕ
word_of words h = cond (ltb h 2) h (get_or words (h - 2) 0)
