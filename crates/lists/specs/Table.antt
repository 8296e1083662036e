-- The number that refuses a call, by the book: document 01, 'Numbers and trade words'. A page for readers, in the
-- document's order: proofs/Tabled shows that the book's answers, which cite the promises, are refused by it.
use Rattle.std.specs.Prelude.{ℕ, ◌+◌, ◌*◌, Bool, cond, not, ◌&&◌, ◌||◌, List, eqb, ltb, length}
use Rattle.std.proofs.Math.Option.{Option, none, some}
use Rattle.family.specs.Family.{Family, size, top, largest_item}
use Rattle.family.specs.Book.{at}
use Rattle.family.specs.Parity.{parity}
use Rattle.family.specs.File.{file_of, family_of}
use Rattle.store.specs.Operations.{takes_item, named}
use Rattle.store.specs.Placing.{too_large}
use Rattle.store.specs.Tests.{is_item}
use Rattle.words.specs.Words.{most}
use Rattle.op_promise.specs.declared.Operation.{Operation}
use Rattle.op_promise.specs.Promise.{number_of}
use Rattle.query_size.specs.Promise.{need_of}
use Rattle.query_weight.specs.Promise.{sum_by}
use Rattle.lists.specs.Calls.{Call, Operate, Parity, Size, Has, Weigh, Save, Load, Audit}
use Rattle.lists.specs.Acts.{count}
use Rattle.lists.specs.Books.{Bounds}

-- "a handle above count + 1"
abbrev pub above : List Family → ℕ → Bool
above B h = ltb (count B + 1) h

-- the operations 1 to 3 take an item, 4 to 6 a second handle
abbrev pub on_item : Operation → Bool
on_item op = takes_item (number_of op)

-- 9: "the bytes are the file of no family"; then 13: "a good file holds an item above this store's limit"; then 5: "the
-- result's parts not yet held outnumber capacity − count"
abbrev pub file_refusal : Bounds → List Family → Option Family → ℕ
file_refusal bounds B none = 9
file_refusal bounds B (some F) = cond (ltb bounds.limit (top F)) 13 (cond (too_large bounds.capacity B F) 5 0)

-- The table, for each call in the order "4, 3, 7, 9, 6, 8, 5", with 11 "directly after 4" and 13 "after 9 and before 5";
-- 0 where nothing refuses the call, and never 10: "On a sound store 10 never comes". 3: an item 0 or above "the store's
-- own limit". 11: "the weight list isn't 512 long". 7: "scratch shorter than stated", a word per node held for Size and
-- Save, "two 64-bit words for each part of the asked family" for Size's second entry, three per node held for a sum of
-- weights, six words per file byte for Load. 6: size or sum "above 18,446,744,073,709,551,615". 8: "output shorter than
-- the file".
unfoldable pub refusal_of : Bounds → List Family → Call → ℕ
refusal_of bounds B (Operate op p q) =
    cond (above B p || (not (on_item op) && above B q)) 4 (cond (on_item op && not (is_item bounds.limit q)) 3 (cond (too_large bounds.capacity B (named (number_of op) B p q)) 5 0))
refusal_of bounds B (Parity even p) = cond (above B p) 4 (cond (too_large bounds.capacity B (parity even (at B p))) 5 0)
refusal_of bounds B (Size entry p scratch) = cond (above B p) 4 (cond (ltb scratch (need_of entry B p)) 7 (cond (ltb most (size (at B p))) 6 0))
refusal_of bounds B (Has p combination) = cond (above B p) 4 0
refusal_of bounds B (Weigh way p weights scratch) =
    cond (above B p) 4 (cond (not (eqb (length weights) largest_item)) 11 (cond (ltb scratch (3 * count B)) 7 (cond (ltb most (sum_by way weights (at B p))) 6 0)))
refusal_of bounds B (Save p scratch output) = cond (above B p) 4 (cond (ltb scratch (count B)) 7 (cond (ltb output (length (file_of (at B p)))) 8 0))
refusal_of bounds B (Load file scratch) = cond (ltb scratch (6 * length file)) 7 (file_refusal bounds B (family_of largest_item file))
refusal_of bounds B Audit = 0
