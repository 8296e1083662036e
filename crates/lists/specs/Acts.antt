-- What a call comes to on a book: document 01, 'Calls', the paragraph on the book. One line for each call; all else is
-- said of acts and their effects, and no longer of calls.
use Rattle.std.specs.Prelude.{ℕ, ◌-◌, Bool, true, cond, List, [], eqb, length, take}
use Rattle.family.specs.Family.{Family}
use Rattle.family.specs.Combination.{items_of}
use Rattle.family.specs.Book.{at, place}
use Rattle.family.specs.Parity.{parity}
use Rattle.family.specs.File.{file_of}
use Rattle.store.specs.Refusals.{Given}
use Rattle.store.specs.Operations.{named}
use Rattle.store.specs.Placing.{too_large, place_answer}
use Rattle.op_promise.specs.Promise.{operation_refusal, number_of}
use Rattle.op_parity.specs.Promise.{parity_refusal}
use Rattle.query_size.specs.Promise.{SizeGiven, size_answer}
use Rattle.query_has.specs.Promise.{HasGiven, has_answer}
use Rattle.query_weight.specs.Promise.{WeightGiven, weight_answer}
use Rattle.file_save.specs.Promise.{SaveGiven, save_refusal}
use Rattle.file_load.specs.Promise.{load_refusal, load_family}
use Rattle.lists.specs.Calls.{Call, Operate, Parity, Size, Has, Weigh, Save, Load, Audit, Fact, Number, Says, Handle, Tells, Writes, Answer}

-- the answers, by what the calls return
abbrev pub place_returns : Given → Answer
place_returns g = record { refusal = g.refusal; value = Handle g.handle g.added }

abbrev pub size_returns : SizeGiven → Answer
size_returns g = record { refusal = g.refusal; value = Tells (Number g.size) }

abbrev pub has_returns : HasGiven → Answer
has_returns g = record { refusal = g.refusal; value = Tells (Says g.member) }

abbrev pub weight_returns : WeightGiven → Answer
weight_returns g = record { refusal = g.refusal; value = Tells (Number g.sum) }

-- Save's file is the front of the output, as long as Save says
abbrev pub save_returns : SaveGiven → List ℕ → Answer
save_returns g out = record { refusal = g.refusal; value = Writes g.file_length (take g.file_length out) }

abbrev pub audit_returns : Bool → Answer
audit_returns sound = record { refusal = 0; value = Tells (Says sound) }

-- "the count is the book's length less 2"
abbrev pub count : List Family → ℕ
count B = length B - 2

-- What a call is on a book: it tells a fact; it writes the file of a family; it takes a family to place. The number is
-- that which refuses it before a family is placed, 0 where none does.
pub data Act : Type 0 where
  Gives : (refusal : ℕ) → Fact → Act
  Saves : (refusal : ℕ) → Family → Act
  Places : (refusal : ℕ) → Family → Act

-- "A call's handles are read in it", the book: refusals and facts are the promises' own, in a store of some limit. The
-- capacity plays no part.
abbrev pub act_of : ℕ → List Family → Call → Act
act_of limit B (Operate op p q) = Places (operation_refusal (number_of op) limit (count B) p q) (named (number_of op) B p q)
act_of limit B (Parity even p) = Places (parity_refusal (count B) p) (parity even (at B p))
act_of limit B (Size entry p scratch) = Gives (size_answer entry B p scratch).refusal (Number (size_answer entry B p scratch).size)
act_of limit B (Has p combination) = Gives (has_answer B p (items_of combination)).refusal (Says (has_answer B p (items_of combination)).member)
act_of limit B (Weigh way p weights scratch) = Gives (weight_answer way B p weights scratch).refusal (Number (weight_answer way B p weights scratch).sum)
act_of limit B (Save p scratch output) = Saves (save_refusal B p scratch output) (at B p)
act_of limit B (Load file scratch) = Places (load_refusal limit file scratch) (load_family file)
act_of limit B Audit = Gives 0 (Says true)

-- The book's answer to an act. A placing that nothing refused before is refused with 5 where the family has too many
-- parts that the book does not hold.
abbrev pub act_answer : ℕ → List Family → Act → Answer
act_answer capacity B (Gives n fact) = record { refusal = n; value = Tells fact }
act_answer capacity B (Saves n F) = record { refusal = n; value = cond (eqb n 0) (Writes (length (file_of F)) (file_of F)) (Writes 0 []) }
act_answer capacity B (Places n F) = place_returns (place_answer capacity B n F)

-- what an act does to the book: it stays, or grows by a family
pub data Effect : Type 0 where
  stays : Effect
  grows : Family → Effect

-- where the call is refused "the book then stays"; "The other calls .. leave the book"
abbrev pub act_effect : ℕ → List Family → Act → Effect
act_effect capacity B (Gives n fact) = stays
act_effect capacity B (Saves n F) = stays
act_effect capacity B (Places n F) = cond (eqb n 0) (cond (too_large capacity B F) stays (grows F)) stays

-- "puts each part not yet held at the book's end, in placing order"
abbrev pub changed : List Family → Effect → List Family
changed B stays = B
changed B (grows F) = place B F
