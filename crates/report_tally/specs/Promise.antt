-- What opening a log promises: the tally and the lent words keep the log that the definitions name.
use Rattle.std.specs.Prelude.{ℕ, ◌+◌, ◌≤◌, ◌≡◌, List, length}
use Rattle.family.specs.Family.{largest_item}
use Rattle.family.specs.Book.{at}
use Rattle.store.specs.Capacity.{capacity_of}
use Rattle.store.specs.Words.{book_of}
use Rattle.store.specs.Sound.{Sound}
use Rattle.report_line.specs.Line.{state_of}
use Rattle.report_tally.specs.declared.Tally.{Tally}
use Rattle.report_tally.specs.Log.{Log, opening, capped}

-- The tally and the lent words keep a log: the store is sound, has the limit of all items and holds the log's book, the
-- two handles are its families', the line read is its line.
pub record Keeps (capacity : ℕ) (t : Tally) (nodes lookup cache : List ℕ) (g : Log) : Type 0 where
  pub sound : Sound t.store nodes lookup cache
  pub capacity_is : t.store.capacity ≡ capacity
  -- "`gatecount` and document 01's cases have limit 512"
  pub limit_is : t.store.limit ≡ largest_item
  pub book_is : book_of nodes t.store.count ≡ g.lot.book
  pub passed_held : t.passed ≤ t.store.count + 1
  pub passed_is : at (book_of nodes t.store.count) t.passed ≡ g.lot.passed
  pub returned_held : t.returned ≤ t.store.count + 1
  pub returned_is : at (book_of nodes t.store.count) t.returned ≡ g.lot.returned
  pub lines_is : t.lines ≡ capped g.lines
  pub line_is : state_of t.reading ≡ g.line
  pub ending_is : t.ending ≡ g.ending

-- `open_log`: fresh words, of which there are enough for a node and a longer lookup, keep the log of no byte.
pub record OpenCall (nodes lookup : List ℕ) (t : Tally) (nodes' lookup' cache' : List ℕ) : Type 0 where
  pub keeps : 3 ≤ length nodes → capacity_of (length nodes) + 1 ≤ length lookup
      → Keeps (capacity_of (length nodes)) t nodes' lookup' cache' opening
