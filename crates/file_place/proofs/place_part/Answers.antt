-- `place_part` makes the node of a local part from its item and the handles of its children.
-- Its children stand before it, so they have handles.
use native.Mathlib.Omega.{arith}
use Rattle.file_place.proofs.Placements.{node_as}
use Rattle.file_place.proofs.place_part.Goals as goal

pub node_of-requires : goal.node_of-requires
node_of-requires c =
    let p = c.requires in
    record {
      roomy = p.roomy;
      item_some = p.local.item_some;
      item_low = p.local.item_low;
      zero_held = omega (arith, c.handle_at-zero.ensures, p.handles_held.each _ p.local.zero_before);
      one_held = omega (arith, c.handle_at-one.ensures, p.handles_held.each _ p.local.one_before);
    }

pub returns : goal.returns
returns c = search node_as
