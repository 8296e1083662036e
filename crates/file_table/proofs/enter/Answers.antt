-- `enter` probes the local lookup for the part's words, and writes them and the part's number where they are new.
-- Each way out is one law of the local table.
use mathlib.Core.Path.{refl}
use Rattle.file_table.proofs.Entries.{stored, enter_past, enter_old, enter_new}
use Rattle.file_table.proofs.enter.Goals as goal

pub returns-in_err-slot : goal.returns-in_err-slot
returns-in_err-slot c = rw c.from_residual.ensures (enter_past c.requires.table refl c.in_err-slot.ensures)

pub returns-then-lookup-slot-ne0 : goal.returns-then-lookup-slot-ne0
returns-then-lookup-slot-ne0 c = enter_old c.requires.table c.in_ok-slot.ensures.is c.if-lookup-slot-ne0.true

pub returns : goal.returns
returns c =
    let a = c.args in
    enter_new c.requires.table c.in_ok-slot.ensures.is c.if-lookup-slot-ne0.false (stored a.nodes.now a.k a.part.item a.part.zero a.part.one)
