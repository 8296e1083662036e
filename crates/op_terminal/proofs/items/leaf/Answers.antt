-- `leaf` gives what the operation is where the item is not below the top: a side at the item, or the node of the sides
-- swapped.
-- Each way out is one law of restricting; where a split fails, the words hold no book.
use mathlib.Core.Path.{ap}
use native.Mathlib.Omega.{arith}
use Rattle.std.proofs.Common.{rules}
use Rattle.store_sides.proofs.Answers.{halves_two, halves_none}
use Rattle.store.proofs.Plain.{plain_broken}
use Rattle.op_cache.specs.Inner.{call_of}
use Rattle.op_terminal.specs.Inner.{item_number}
use Rattle.op_terminal.proofs.Restricting.{leaf_one, leaf_zero, leaf_node}
use Rattle.op_terminal.proofs.items.leaf.Goals as goal

pub returns-in_default : goal.returns-in_default
returns-in_default c =
    let a = c.args in
    plain_broken _ _ a.fill.now a.nodes.now a.lookup.now c.requires.taken.roomy
    (λ l B H. halves_none c.in_default.is c.cofactors_at.ensures l B a.lookup.now H)

pub returns-in-Subset1 : goal.returns-in-Subset1
returns-in-Subset1 c =
    let a = c.args in
    let p = c.requires in
    leaf_one (call_of (item_number a.op) a.p a.item) a.fill.now a.nodes.now a.lookup.now p.taken (omega (arith, p.level_is, p.not_below)) (halves_two c.in-Some.is c.cofactors_at.ensures) (ap item_number c.in-Subset1.is)

pub returns-in-Subset0 : goal.returns-in-Subset0
returns-in-Subset0 c =
    let a = c.args in
    let p = c.requires in
    leaf_zero (call_of (item_number a.op) a.p a.item) a.fill.now a.nodes.now a.lookup.now p.taken (omega (arith, p.level_is, p.not_below)) (halves_two c.in-Some.is c.cofactors_at.ensures) (ap item_number c.in-Subset0.is)

pub node_of-requires : goal.node_of-requires
node_of-requires c =
    let p = c.requires in
    let T = halves_two c.in-Some.is c.cofactors_at.ensures in
    search rules

pub returns-in-Change : goal.returns-in-Change
returns-in-Change c =
    let a = c.args in
    let p = c.requires in
    let three = ap item_number c.in-Change.is in
    leaf_node (call_of (item_number a.op) a.p a.item) a.fill.now a.nodes.now a.lookup.now p.taken (omega (arith, p.level_is, p.not_below)) (halves_two c.in-Some.is c.cofactors_at.ensures) _
    (λ e. omega (arith, three, e)) (λ e. omega (arith, three, e)) c.node_of.ensures
