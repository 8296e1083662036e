-- A part of some words is 0 exactly when each of its words passes the test.
-- Word k of the part is word k after the place where the part begins.
use Rattle.std.proofs.Common.{◌≡◌, ℕ, ◌+◌, ◌-◌, ◌≤◌, ◌<◌, Bool, true, false, List, length, get_or, take, drop, MatchBool, sym, ◌∙◌, arith, length-take, length-drop}
use lib.Seq.{get_or-take, get_or-drop}
use Rattle.std.specs.List.{AllWithin, HoldsAt}
use Rattle.store_audit.specs.Inner.{Decides, Blank}
use Rattle.store_audit.proofs.Deciding.{decides_yes, decides_no}

module _ (words : List ℕ) (from to : ℕ) (rising : from ≤ to) (within : to ≤ length words) where
  abbrev part : List ℕ
  part = take (to - from) (drop from words)

  part_long : length part ≡ to - from
  part_long = omega (arith, length-take (to - from) (drop from words), length-drop from words)

  part_at : (k : ℕ) → k < to - from → get_or part k 0 ≡ get_or words (from + k) 0
  part_at k l = get_or-take (to - from) (drop from words) k 0 l ∙ get_or-drop from words k 0

  pub blank_decided : (r : Bool) → MatchBool r (AllWithin (λ (x : ℕ). x ≡ 0) part 0 (length part)) ((k : ℕ) × (k < length part) × HoldsAt (λ (x : ℕ). x ≡ 0 → ⊥) part k)
      → Decides (Blank words from to) r
  blank_decided true all =
      decides_yes (record {
        is = λ k h g.
            let e : from + (k - from) ≡ k = omega arith in
            rw e at (sym (part_at (k - from) (omega arith)) ∙ all (k - from) 0 (omega arith) (omega (arith, part_long)));
      })
  blank_decided false (k, l, d) =
      decides_no (λ b. d 0 (part_at k (omega (arith, part_long)) ∙ b.is (from + k) (omega arith) (omega (arith, part_long))))
