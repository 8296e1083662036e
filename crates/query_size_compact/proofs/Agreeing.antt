-- The two entries on one sound store, whatever scratch each is lent, give one answer where neither gives 7.
-- Both promises are equations to one definition, in which the entries differ by their need alone.
use Prim.Native.Nat.{ℕ}
use mathlib.Core.Path.{◌≡◌, sym, ap, ◌∙◌}
use mathlib.Core.List.{List, []}
use lib.ListN.{length}
use Rattle.store.specs.declared.record.Store.{Store}
use Rattle.store.specs.declared.record.Answered.{Answered}
use Rattle.store.specs.Words.{book_of}
use Rattle.store.specs.Sound.{Sound}
use Rattle.query_size.specs.Promise.{by_node, by_part, size_given_by, size_answer, SizeCall}
use Rattle.query_size.proofs.Agreeing.{entries_agree}
use Rattle.query_size_compact.specs.Promise.{CompactCall}

pub calls_agree : {s : Store} {nodes lookup : List ℕ} {p : ℕ} → Sound s nodes lookup [] → {scratch scratch' more more' : List ℕ} {r q : Answered ℕ}
    → SizeCall s nodes lookup p scratch r scratch' → CompactCall s nodes lookup p more q more'
    → ((size_given_by r.answer).refusal ≡ 7 → ⊥) → ((size_given_by q.answer).refusal ≡ 7 → ⊥) → size_given_by r.answer ≡ size_given_by q.answer
unfolding size_answer
calls_agree {s} {nodes} {lookup} {p} S {scratch} {scratch'} {more} R Q n m =
    let a = R.answer_is S in
    let b = Q.answer_is S in
    a ∙ entries_agree by_node by_part (book_of nodes s.count) p (length scratch) (length more) (λ d. n (ap (λ g. g.refusal) a ∙ d)) (λ d. m (ap (λ g. g.refusal) b ∙ d)) ∙ sym b
