-- `used_slots` counts the slots that hold a number.
-- It counts those whose number is not 0, which is what the definition does slot by slot.
use Rattle.std.proofs.Common.{◌≡◌, not, eqb, sym, ◌∙◌, rules, count_by}
use Rattle.store_audit.proofs.Counting.{used_count}
use Rattle.store_audit.proofs.slots.used_slots.Goals as goal

pub returns : goal.returns
returns c =
    let e : c.count.result ≡ count_by (λ x. not (eqb x 0)) c.args.lookup.now = search rules in
    e ∙ sym (used_count c.args.lookup.now)
