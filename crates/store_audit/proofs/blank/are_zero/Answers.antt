-- `are_zero` decides whether the part is 0.
-- All its words pass the test, or one of them is not 0.
use Rattle.std.proofs.Common.{◌≡◌, ℕ, ◌-◌, take, drop, rules}
use Rattle.std.proofs.lemmas.Iterator.{cases_from_all, YieldsList-from_slice}
use borrow.Author.Tests.{tests}
use Rattle.store_audit.proofs.Testing.{blank_decided}
use Rattle.store_audit.proofs.blank.are_zero.Goals as goal

pub returns : goal.returns
returns c =
    let a = c.args in
    blank_decided a.words.now a.from a.to c.requires.rising c.requires.within _
    (cases_from_all _ _ _ (λ (x : ℕ). x ≡ 0) (λ (x : ℕ). x ≡ 0 → ⊥) c.all.ensures.ran (YieldsList-from_slice (take (a.to - a.from) (drop a.from a.words.now)) cc) (λ x q k. search (rules, tests)) (λ x q k. search (rules, tests)))
