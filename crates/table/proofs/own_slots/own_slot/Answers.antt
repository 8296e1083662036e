-- `own_slot` follows the definition: no item, or the probe of the node's own words.
-- Each way out is one branch.
use Rattle.table.proofs.OwnSlots.{own_none, own_search}
use Rattle.table.proofs.own_slots.own_slot.Goals as goal

pub returns-then-item-lt1 : goal.returns-then-item-lt1
returns-then-item-lt1 c = own_none _ _ _ c.then-item-lt1.either

pub returns : goal.returns
returns c = rw (own_search _ _ _ c.if-item-lt1.false c.if-item-gt512.false) c.probe.ensures
