-- `is_empty` says yes exactly when every word is 0, and a record whose words are 0 means the combination without
-- items.
-- A word that is not 0 gives it an item.
use Rattle.std.proofs.Common.{◌≡◌, ℕ, rules}
use Rattle.std.proofs.lemmas.Iterator.{cases_from_all, YieldsList-from_slice}
use borrow.Author.Tests.{tests}
use Rattle.combination.proofs.Given.{given_words}
use Rattle.combination.proofs.Places.{empty_is}
use Rattle.combination.proofs.Combination.is_empty.Goals as goal

pub returns : goal.returns
returns c =
    let g = c.well_formed.0.1.1.0 in
    empty_is _ _ (given_words c.args.self.words g.0 g.1.0.1 g.1.1)
    (cases_from_all _ _ _ (λ (x : ℕ). x ≡ 0) (λ (x : ℕ). x ≡ 0 → ⊥) c.all.ensures.ran (YieldsList-from_slice c.args.self.words cc) (λ x q k. search (rules, tests)) (λ x q k. search (rules, tests)))
