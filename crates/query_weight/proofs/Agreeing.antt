-- Both ways of adding give one number and one answer, for every family, handle and list of weights.
-- The two sums of a family are equal, and nothing else in the answer goes by the way.
use Prim.Native.Nat.{ℕ}
use mathlib.Core.Path.{◌≡◌, refl, sym, ◌∙◌}
use mathlib.Core.List.{List, []}
use lib.ListN.{length}
use Rattle.family.specs.Family.{Family}
use Rattle.family.specs.Book.{at}
use Rattle.family.proofs.Weights.{sums_agree}
use Rattle.store.specs.declared.record.Store.{Store}
use Rattle.store.specs.Sound.{Sound}
use Rattle.store.specs.Words.{book_of}
use Rattle.store.specs.declared.record.Answered.{Answered}
use Rattle.query_weight.specs.Promise.{Way, by_members, by_nodes, sum_by, weight_given_by, weight_refusal, weight_answer, WeightCall}

pub ways_agree : (way other : Way) (weights : List ℕ) (F : Family) → sum_by way weights F ≡ sum_by other weights F
ways_agree by_members by_members weights F = refl
ways_agree by_members by_nodes weights F = sums_agree weights F
ways_agree by_nodes by_members weights F = sym (sums_agree weights F)
ways_agree by_nodes by_nodes weights F = refl

pub answers_agree : (way other : Way) (B : List Family) (p : ℕ) (weights : List ℕ) (words : ℕ) → weight_answer way B p weights words ≡ weight_answer other B p weights words
unfolding weight_answer weight_refusal
answers_agree way other B p weights words = rw (ways_agree way other weights (at B p))

-- over the promises: on a sound store two calls with equal arguments give one answer, whatever the way of each
pub calls_agree : (way other : Way) {s : Store} {nodes lookup : List ℕ} {p : ℕ} {weights scratch scratch' scratch'' : List ℕ} {r t : Answered ℕ} → Sound s nodes lookup []
    → WeightCall way s nodes lookup p weights scratch r scratch' → WeightCall other s nodes lookup p weights scratch t scratch''
    → weight_given_by r.answer ≡ weight_given_by t.answer
calls_agree way other {s} {nodes} {lookup} {p} {weights} {scratch} S C D =
    C.answer_is S ∙ answers_agree way other (book_of nodes s.count) p weights (length scratch) ∙ sym (D.answer_is S)
