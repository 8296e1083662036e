-- `probe` finds the slot of the definition.
-- What the slots that are left give is what all of them give.
use Rattle.std.proofs.Common.{◌≡◌, ◌-◌, ◌<◌, length, get_or}
use Rattle.table.specs.Probe.{scan, stop_on, probe_of}
use Rattle.table.proofs.probe.probe.Given as goal

abbrev pub invariant-loop : goal.invariant-loop
invariant-loop l =
    record {
      inside : l.slot < length l.lookup;
      whole : scan (λ x. stop_on l.nodes l.count l.item l.zero l.one (get_or l.lookup x 0)) (length l.lookup) (length l.lookup - l.counter) l.slot ≡ probe_of l.nodes l.lookup l.count l.item l.zero l.one;
    }
