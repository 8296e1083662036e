-- `save_parts` walks the parts, tests the room for their file, and writes it.
-- Each way out is one law of saving.
use native.Mathlib.Omega.{arith}
use Rattle.file_save.proofs.Saves.{parts_damaged, parts_broken, parts_short, parts_unwritten, parts_done}
use Rattle.file_save.proofs.save_parts.Goals as goal

pub returns-then-store-top : goal.returns-then-store-top
returns-then-store-top c =
    let a = c.args in
    parts_damaged a.store a.p a.nodes.now a.links.now a.out.now c.requires.two c.requires.inside _ (omega (arith, c.top_of-top.ensures, c.if-store-top.true))

pub returns-in_err-trail : goal.returns-in_err-trail
returns-in_err-trail c =
    let a = c.args in
    let W = rw c.in_err-trail.ensures.ok_part at c.walk.ensures in
    parts_broken a.store a.p a.nodes.now a.links.now a.out.now c.requires.two c.requires.inside c.requires.lent.linkable c.zero.ensures W _

pub returns-then-out-trail : goal.returns-then-out-trail
returns-then-out-trail c =
    let a = c.args in
    let W = rw c.in_ok-trail.ensures.ok_part at c.walk.ensures in
    parts_short a.store a.p a.nodes.now a.links.now a.out.now c.requires.two c.requires.inside c.requires.lent.linkable c.zero.ensures W (omega (arith, W.trail_fits.some, c.if-out-trail.true))

pub returns-in_err-ok_or : goal.returns-in_err-ok_or
returns-in_err-ok_or c =
    let a = c.args in
    let W = rw c.in_ok-trail.ensures.ok_part at c.walk.ensures in
    let F = rw c.in_err-ok_or.ensures.ok_part at c.write_file.ensures in
    parts_unwritten a.store a.p a.nodes.now a.links.now a.out.now c.requires.two c.requires.inside c.requires.lent.linkable c.zero.ensures W (omega (arith, c.if-out-trail.false)) F _

pub returns : goal.returns
returns c =
    let a = c.args in
    let W = rw c.in_ok-trail.ensures.ok_part at c.walk.ensures in
    let F = rw c.in_ok-ok_or.ensures.ok_part at c.write_file.ensures in
    parts_done a.store a.p a.nodes.now a.links.now a.out.now c.requires.two c.requires.inside c.requires.lent.linkable c.zero.ensures W (omega (arith, c.if-out-trail.false)) F
