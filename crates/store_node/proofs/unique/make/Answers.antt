-- `make` finds the node or enters it at the slot that the probe found; each way out is one law of the nodes.
-- Where the words hold a book no test fails, so it is never damaged.
use mathlib.Core.Path.{refl}
use native.Mathlib.Omega.{arith}
use Rattle.store.proofs.Answers.{passed_on}
use Rattle.store_node.proofs.Nodes.{slot_none, slot_some, made_damaged, not_past, not_one, not_above, made_full, made_found, made_new}
use Rattle.store_node.proofs.unique.make.Goals as goal
use Rattle.store_node.proofs.unique.make.Goals.{then-number-lt2-via-then-number-lt2, then-number-lt2-via-else-number-lt2+then-count-number}

pub returns-in_err-slot : goal.returns-in_err-slot
returns-in_err-slot c =
    let a = c.args in
    let p = c.requires in
    let s = slot_none _ _ c.probe.ensures c.in_err-slot.ensures.value in
    rw (passed_on _ c.from_residual.ensures.1, s.1)
    (made_damaged a.fill a.nodes.now a.lookup.now a.item a.zero a.one _ p.roomy p.zero_held p.one_held refl
    (not_past a.fill a.nodes.now a.lookup.now a.item a.zero a.one _ p.roomy p.zero_held p.one_held refl (omega (arith, s.0))))

pub returns-then-fill-count : goal.returns-then-fill-count
returns-then-fill-count c =
    let a = c.args in
    let p = c.requires in
    let s = slot_some _ _ _ c.probe.ensures c.in_ok-slot.ensures.value in
    made_full a.fill a.nodes.now a.lookup.now a.item a.zero a.one _ p.roomy p.zero_held p.one_held s c.if-number-eq0.true c.if-fill-count.true

pub returns-then-number-eq0 : goal.returns-then-number-eq0
returns-then-number-eq0 c =
    let a = c.args in
    let p = c.requires in
    let s = slot_some _ _ _ c.probe.ensures c.in_ok-slot.ensures.value in
    made_new a.fill a.nodes.now a.lookup.now a.item a.zero a.one _ p.roomy p.zero_held p.one_held s _ _ c.enter.ensures.nodes_are c.enter.ensures.lookup_is c.if-number-eq0.true c.if-fill-count.false

pub returns-then-number-lt2 : goal.returns-then-number-lt2
returns-then-number-lt2 c =
    let a = c.args in
    let p = c.requires in
    let s = slot_some _ _ _ c.probe.ensures c.in_ok-slot.ensures.value in
    let damaged = made_damaged a.fill a.nodes.now a.lookup.now a.item a.zero a.one _ p.roomy p.zero_held p.one_held s in
    elim c.then-number-lt2.branch [
      | then-number-lt2-via-then-number-lt2 w ↦
          damaged (not_one a.fill a.nodes.now a.lookup.now a.item a.zero a.one _ p.roomy p.zero_held p.one_held s c.if-number-eq0.false w.if-number-lt2.true)
      | then-number-lt2-via-else-number-lt2+then-count-number w ↦
          damaged (not_above a.fill a.nodes.now a.lookup.now a.item a.zero a.one _ p.roomy p.zero_held p.one_held s c.if-number-eq0.false w.if-count-number.true)
    ]

pub returns : goal.returns
returns c =
    let a = c.args in
    let p = c.requires in
    let s = slot_some _ _ _ c.probe.ensures c.in_ok-slot.ensures.value in
    made_found a.fill a.nodes.now a.lookup.now a.item a.zero a.one _ p.roomy p.zero_held p.one_held s c.if-number-eq0.false (omega (arith, c.if-count-number.false))
