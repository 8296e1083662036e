-- `probe` finds the slot of the definition.
-- What the slots that are left give is what all of them give.
use Rattle.std.proofs.Common.{◌≡◌, ℕ, ◌-◌, List, length, get_or, sym, ◌∙◌, arith}
use Rattle.table.specs.Start.{start_of}
use Rattle.table.specs.Probe.{scan, stop_on, probe_of}
use Rattle.table.proofs.Starts.{start_lt}
use Rattle.table.proofs.Scan.{after_lt, left_none, left_hit, left_miss}
use Rattle.table.proofs.probe.probe.Goals as goal

-- the whole search is to come
begun : (nodes lookup : List ℕ) (count item z o slot : ℕ) → slot ≡ start_of item z o (length lookup)
    → scan (λ x. stop_on nodes count item z o (get_or lookup x 0)) (length lookup) (length lookup - 0) slot ≡ probe_of nodes lookup count item z o
unfolding probe_of
begun nodes lookup count item z o slot e = let n : length lookup - 0 ≡ length lookup = omega arith in rw (n, e)

pub loop-init : goal.loop-init
loop-init c =
    record {
      inside = rw c.start_slot-slot.ensures (start_lt _ _ _ _ c.requires.start.some);
      whole = begun _ _ _ _ _ _ _ c.start_slot-slot.ensures;
    }

pub loop-preserved : goal.loop-preserved
loop-preserved c =
    record {
      inside = rw c.next_slot-slot.ensures (after_lt _ _ c.loop.invariant.inside);
      whole = rw c.next_slot-slot.ensures (sym (left_miss _ _ _ _ c.loop-test.true (sym c.stops.ensures ∙ c.if-stops.false)) ∙ c.loop.invariant.whole);
    }

pub returns-then-stops : goal.returns-then-stops
returns-then-stops c =
    record {
      is = sym (left_hit _ _ _ _ c.loop-test.true (sym c.stops.ensures ∙ c.if-stops.true)) ∙ c.loop.invariant.whole;
      inside = c.loop.invariant.inside;
    }

pub returns : goal.returns
returns c = sym c.loop.invariant.whole ∙ left_none _ _ _ _ c.loop-test.false
