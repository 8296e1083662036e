-- The worked store of document 01: its starred lines as one list of calls, with what they are stated to give.
use Rattle.std.specs.Prelude.{ℕ, ◌+◌, ◌*◌, ◌%◌, ◌^◌, ◌≡◌, List, [], ◌∷◌, length, take}
use Rattle.table.specs.Start.{mix_of, start_of}
use Rattle.store.specs.Capacity.{capacity_of}
use Rattle.store.specs.Words.{words_of, lookup_of}
use Rattle.op_promise.specs.declared.Operation.TheVariants.{Subset1, Subset0, Change, Union, Intsec, Diff}
use Rattle.lists.specs.Calls.{Call, Operate, Save, Handle, Writes, Answer, gives}
use Rattle.lists.specs.Books.{Bounds, answers_of, book_of_calls}
use Rattle.lists.specs.Runs.{State, Opening, Runs}

-- the starred lines in their order, with enough scratch and output for the two files
abbrev pub worked : List Call
worked =
    Operate Change 1 1 ∷
    Operate Change 1 2 ∷
    Operate Union 2 3 ∷
    Operate Union 3 2 ∷
    Operate Diff 4 2 ∷
    Operate Intsec 4 1 ∷
    Operate Subset1 4 2 ∷
    Operate Subset0 4 2 ∷
    Operate Change 4 1 ∷
    Operate Change 1 3 ∷
    Operate Change 5 1 ∷
    Save 2 4 6 ∷
    Save 4 4 15 ∷
    []

abbrev pub refused_with : ℕ → Answer
refused_with n = record { refusal = n; value = Handle 0 0 }

abbrev pub gives_file : ℕ → List ℕ → Answer
gives_file long bytes = record { refusal = 0; value = Writes long bytes }

-- "Change(1, 1) = 2", "Change(1, 2) = 3", .., "Change(1, 3) is refused with 5", "Change(5, 1) = 4", and the two files;
-- the four nodes that the store holds in the end are each added once
abbrev pub worked_answers : List Answer
worked_answers =
    gives 2 1 ∷
    gives 3 1 ∷
    gives 4 1 ∷
    gives 4 0 ∷
    gives 3 0 ∷
    gives 0 0 ∷
    gives 1 0 ∷
    gives 2 0 ∷
    gives 5 1 ∷
    refused_with 5 ∷
    gives 4 0 ∷
    gives_file 6 (0x01 ∷ 0x01 ∷ 0x00 ∷ 0x00 ∷ 0x00 ∷ 0x00 ∷ []) ∷
    gives_file 15 (0x01 ∷ 0x02 ∷ 0x00 ∷ 0x00 ∷ 0x00 ∷ 0x00 ∷ 0x06 ∷ 0x02 ∷ 0x00 ∷ 0x00 ∷ 0x00 ∷ 0x01 ∷ 0x00 ∷ 0x00 ∷ 0x00 ∷ []) ∷
    []

-- the words of the nodes 2 to 5: "words 1, 0, 1", of Change(1, 2), "words 2, 2, 1", "words 2, 1, 2"
abbrev pub worked_words : List ℕ
worked_words = 1 ∷ 0 ∷ 1 ∷ 2 ∷ 0 ∷ 1 ∷ 2 ∷ 2 ∷ 1 ∷ 2 ∷ 1 ∷ 2 ∷ []

-- the lookup's slots: node 2 in "the slot 1"
abbrev pub worked_lookup : List ℕ
worked_lookup = 3 ∷ 2 ∷ 5 ∷ 0 ∷ 4 ∷ 0 ∷ 0 ∷ []

-- "Fresh with 12 node words and 7 lookup words has capacity 4."; "document 01's cases have limit 512"
abbrev pub worked_bounds : Bounds
worked_bounds = record { capacity = 4; limit = 512 }

-- The list over the definitions.
pub record WorkedList : Type 0 where
  pub capacity_is : capacity_of 12 ≡ 4
  pub answers_are : answers_of worked_bounds worked ≡ worked_answers
  -- "The store now holds 4."
  pub count_is : length (book_of_calls worked_bounds worked) ≡ 4 + 2
  pub words_are : words_of (book_of_calls worked_bounds worked) ≡ worked_words
  -- "The wrapped sum is 8,302,008, the slot 1."
  pub sum_is : ◌≡◌ {A = ℕ} ((mix_of 1 + 65599 * (0 + 65599 * 1)) % 2 ^ 32) 8302008
  pub slot_is : start_of 1 0 1 7 ≡ 1
  pub lookup_is : lookup_of 7 (book_of_calls worked_bounds worked) ≡ worked_lookup

-- What every store of these lengths has after these calls, whatever parts of the cache they were lent.
pub record WorkedStore (answers : List Answer) (x : State) : Type 0 where
  pub answers_are : answers ≡ worked_answers
  pub count_is : x.store.count ≡ 4
  pub words_are : take 12 x.nodes ≡ worked_words
  pub lookup_is : x.lookup ≡ worked_lookup

abbrev pub WorkedClaim : Type 0
WorkedClaim = (o : Opening) (answers : List Answer) (x : State)
    → length o.nodes ≡ 12 → length o.lookup ≡ 7 → o.limit ≡ 512 → Runs o worked answers x → WorkedStore answers x
