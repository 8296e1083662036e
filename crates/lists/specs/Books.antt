-- The book of a list of calls, worked out from the calls' arguments alone: document 01, 'Calls', the paragraph on the
-- book.
use Rattle.std.specs.Prelude.{ℕ, cond, List, [], ◌∷◌, ◌++◌, eqb}
use Rattle.family.specs.Family.{Family, empty, base, parts}
use Rattle.family.specs.Book.{start, number, place}
use Rattle.lists.specs.Calls.{Call, written, Answer}
use Rattle.lists.specs.Acts.{Act, Gives, Saves, Places, act_of, act_answer, Effect, stays, grows, act_effect, changed}

-- What the book takes of Fresh's arguments: the capacity that its node words give, and its limit.
pub record Bounds : Type 0 where
  pub capacity : ℕ
  pub limit : ℕ

-- The book's answer to a call, what the call does to the book, and the book after it.
unfoldable pub book_answer : Bounds → List Family → Call → Answer
book_answer bounds B c = act_answer bounds.capacity B (act_of bounds.limit B c)

unfoldable pub book_effect : Bounds → List Family → Call → Effect
book_effect bounds B c = act_effect bounds.capacity B (act_of bounds.limit B c)

abbrev pub book_after : Bounds → List Family → Call → List Family
book_after bounds B c = changed B (book_effect bounds B c)

-- a family handed out, and the handle given for it
pub record Handout : Type 0 where
  pub handle : ℕ
  pub family : Family

-- "0 and 1 are given for {} and {{}}"
abbrev pub first_handouts : List Handout
first_handouts = record { handle = 0; family = empty } ∷ record { handle = 1; family = base } ∷ []

-- a family under its number in a book
abbrev pub handout : List Family → Family → Handout
handout B F = record { handle = number B F; family = F }

-- "answers the family's number. That family is handed out, and the handle is given for it"
abbrev pub handing : List Family → List Handout → Effect → List Handout
handing B hs stays = hs
handing B hs (grows F) = hs ++ (handout (place B F) F ∷ [])

-- for some calls after a book: the answers, the book at the end, and what was handed out
abbrev pub answers_from : Bounds → List Family → List Call → List Answer
answers_from bounds B [] = []
answers_from bounds B (c ∷ cs) = book_answer bounds B c ∷ answers_from bounds (book_after bounds B c) cs

abbrev pub book_from : Bounds → List Family → List Call → List Family
book_from bounds B [] = B
book_from bounds B (c ∷ cs) = book_from bounds (book_after bounds B c) cs

abbrev pub handed_from : Bounds → List Family → List Handout → List Call → List Handout
handed_from bounds B hs [] = hs
handed_from bounds B hs (c ∷ cs) = handed_from bounds (book_after bounds B c) (handing B hs (book_effect bounds B c)) cs

-- The answers, and the book, of a list of calls in a store of some capacity and limit: the book is "at first {} and {{}}".
unfoldable pub answers_of : Bounds → List Call → List Answer
answers_of bounds calls = answers_from bounds start calls

unfoldable pub book_of_calls : Bounds → List Call → List Family
book_of_calls bounds calls = book_from bounds start calls

-- All families handed out, with the handles given for them.
unfoldable pub handed_out : Bounds → List Call → List Handout
handed_out bounds calls = handed_from bounds start first_handouts calls

-- the parts of all families handed out
abbrev pub all_parts : List Handout → List Family
all_parts [] = []
all_parts (h ∷ hs) = parts h.family ++ all_parts hs

-- a file that a list of calls saved: the family that the handle meant in the book when Save was called, and the bytes
-- that it answered
pub record SavedFile : Type 0 where
  pub family : Family
  pub bytes : List ℕ

abbrev pub file_by : Act → Answer → List SavedFile
file_by (Gives n fact) a = []
file_by (Saves n F) a = cond (eqb a.refusal 0) (record { family = F; bytes = written a.value } ∷ []) []
file_by (Places n F) a = []

abbrev pub files_from : Bounds → List Family → List Call → List Answer → List SavedFile
files_from bounds B [] answers = []
files_from bounds B (c ∷ cs) [] = []
files_from bounds B (c ∷ cs) (a ∷ answers) = file_by (act_of bounds.limit B c) a ++ files_from bounds (book_after bounds B c) cs answers

-- all files that a list of calls saved, by the answers that it got
unfoldable pub files_of : Bounds → List Call → List Answer → List SavedFile
files_of bounds calls answers = files_from bounds start calls answers
