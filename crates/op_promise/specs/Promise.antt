-- The promise of the six operations: document 01, 'Calls' and 'Numbers and trade words'.
use Rattle.std.specs.Prelude.{ℕ, min, cond, List, eqb}
use Rattle.op_promise.specs.declared.Operation.{Operation}
use Rattle.op_promise.specs.declared.Operation.TheVariants.{Subset1, Subset0, Change, Union, Intsec, Diff}
use Rattle.store.specs.declared.record.Store.{Store}
use Rattle.store.specs.declared.record.Placement.{Placement}
use Rattle.store.specs.declared.record.Answered.{Answered}
use Rattle.store.specs.Words.{book_of}
use Rattle.store.specs.Tests.{item_test, tests_of}
use Rattle.store.specs.Operations.{takes_item, named}
use Rattle.store.specs.Promise.{PlaceCall}

-- "operation (1 Subset1, 2 Subset0, 3 Change, 4 Union, 5 Intsec, 6 Diff)"
abbrev pub number_of : Operation → ℕ
number_of Subset1 = 1
number_of Subset0 = 2
number_of Change = 3
number_of Union = 4
number_of Intsec = 5
number_of Diff = 6

-- a number from 1 to 6 is an operation's; every other one is taken for 6
unfoldable pub operation_number : ℕ → ℕ
operation_number n = cond (eqb n 0) 6 (min n 6)

-- The number that refuses an operation before it places, 0 where none does, in a store of some limit and count: the
-- operations 1 to 3 take a handle and an item, 4 to 6 two handles.
unfoldable pub operation_refusal : ℕ → ℕ → ℕ → ℕ → ℕ → ℕ
operation_refusal op limit count p q = cond (takes_item op) (tests_of count p 0 (item_test limit q) 0 0) (tests_of count p q 0 0 0)

-- What operation number op on p and q promises: to place the family that it names in the book that the words hold.
abbrev pub OperationCall : ℕ → ℕ → ℕ → Store → List ℕ → List ℕ → List ℕ → Answered Placement → List ℕ → List ℕ → List ℕ → Type 0
OperationCall op p q s nodes lookup cache r nodes' lookup' cache' =
    PlaceCall (operation_refusal op s.limit s.count p q) (named op (book_of nodes s.count) p q) s nodes lookup cache r nodes' lookup' cache'
