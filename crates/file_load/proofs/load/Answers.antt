-- `load` tests the record and the scratch, reads the file, compares its top with the limit and places its parts.
-- Each way out is one law of loading.
use mathlib.Core.Path.{refl}
use native.Mathlib.Omega.{arith}
use lib.ListN.{length, take}
use Rattle.store.proofs.Growing.{kept_roomy}
use Rattle.store.proofs.Testing.{tested_clear}
use Rattle.file_read.proofs.Walks.{local_nodes}
use Rattle.file_load.proofs.Loads.{scratch_room, handles_room, scratch_kept, load_refused, load_none, load_leaf, load_above, load_parts}
use Rattle.file_load.proofs.load.Goals as goal

pub returns-in-Err : goal.returns-in-Err
returns-in-Err c = search load_refused

pub overflow_mul-bytes : goal.overflow_mul-bytes
overflow_mul-bytes c = omega (arith, scratch_room (tested_clear c.args.nodes.now c.args.lookup.now c.tested-found.ensures c.in_default.is))

pub split_at_mut-parts-requires : goal.split_at_mut-parts-requires
split_at_mut-parts-requires c = omega (arith, scratch_room (tested_clear c.args.nodes.now c.args.lookup.now c.tested-found.ensures c.in_default.is))

pub split_at_mut-slots-requires : goal.split_at_mut-slots-requires
split_at_mut-slots-requires c =
    omega (arith, scratch_room (tested_clear c.args.nodes.now c.args.lookup.now c.tested-found.ensures c.in_default.is), c.split_at_mut-parts.ensures.back_len)

pub slice_bounds-handles-end : goal.slice_bounds-handles-end
slice_bounds-handles-end c =
    omega (
      arith,
      scratch_room (tested_clear c.args.nodes.now c.args.lookup.now c.tested-found.ensures c.in_default.is),
      c.split_at_mut-parts.ensures.back_len,
      c.split_at_mut-slots.ensures.back_len,
    )

pub slice_bounds-handles-end-2 : goal.slice_bounds-handles-end-2
slice_bounds-handles-end-2 c =
    let P = tested_clear c.args.nodes.now c.args.lookup.now c.tested-found.ensures c.in_default.is in
    let p = c.split_at_mut-parts.ensures in
    let q = c.split_at_mut-slots.ensures in
    omega (arith, handles_room (scratch_room P) c.split_at_mut-parts.result.0.now c.split_at_mut-slots.result.0.now c.split_at_mut-slots.result.1.now p.value p.front_len q.value q.front_len)

pub read_file-requires : goal.read_file-requires
read_file-requires c =
    record { words = omega (arith, c.split_at_mut-parts.ensures.front_len); slots = omega (arith, c.split_at_mut-slots.ensures.front_len) }

pub top_of-requires : goal.top_of-requires
top_of-requires c =
    let A = rw c.in-Some-Parts.field-0-is at c.in-Some-Parts.ensures in
    record { held = omega arith; words = omega (arith, A.outcome.few, A.long, c.split_at_mut-parts.ensures.front_len) }

pub returns-then-store-top_of : goal.returns-then-store-top_of
returns-then-store-top_of c =
    let a = c.args in
    let P = tested_clear a.nodes.now a.lookup.now c.tested-found.ensures c.in_default.is in
    let A = rw c.in-Some-Parts.field-0-is at c.in-Some-Parts.ensures in
    let p = c.split_at_mut-parts.ensures in
    let q = c.split_at_mut-slots.ensures in
    load_above a.store a.nodes.now a.lookup.now a.cache.now a.file.now a.words.now _ P (scratch_kept (scratch_room P) c.split_at_mut-parts.result.0.now c.split_at_mut-slots.result.0.now c.split_at_mut-slots.result.1.now p.value p.front_len q.value q.front_len
    c.read_file.new.nodes c.read_file.new.lookup (take (length a.file.now) c.split_at_mut-slots.result.1.now) A.long A.long_lookup refl) A
    (omega (arith, c.top_of.ensures, c.if-store-top_of.true)) c.refused-then-store-top_of.ensures.0 c.refused-then-store-top_of.ensures.1

pub place_parts-answer-requires : goal.place_parts-answer-requires
place_parts-answer-requires c =
    let P = tested_clear c.args.nodes.now c.args.lookup.now c.tested-found.ensures c.in_default.is in
    let A = rw c.in-Some-Parts.field-0-is at c.in-Some-Parts.ensures in
    let p = c.split_at_mut-parts.ensures in
    let q = c.split_at_mut-slots.ensures in
    rw c.fill-fill.ensures record {
      roomy = P.roomy;
      local = local_nodes A.outcome.table;
      words = omega (arith, A.outcome.few, A.long, c.split_at_mut-parts.ensures.front_len);
      few = omega (arith, A.outcome.few, handles_room (scratch_room P) c.split_at_mut-parts.result.0.now c.split_at_mut-slots.result.0.now c.split_at_mut-slots.result.1.now p.value p.front_len q.value q.front_len);
      low = A.outcome.low;
    }

pub finish-requires : goal.finish-requires
finish-requires c =
    let P = tested_clear c.args.nodes.now c.args.lookup.now c.tested-found.ensures c.in_default.is in
    let K = (rw c.fill-fill.ensures at c.place_parts-answer.ensures).kept in
    record { roomy = rw K.same_capacity at (kept_roomy K P.roomy); fewer = K.grows }

pub returns-in-None : goal.returns-in-None
returns-in-None c =
    let a = c.args in
    let P = tested_clear a.nodes.now a.lookup.now c.tested-found.ensures c.in_default.is in
    let A = c.in-None.ensures in
    let p = c.split_at_mut-parts.ensures in
    let q = c.split_at_mut-slots.ensures in
    load_none a.store a.nodes.now a.lookup.now a.cache.now a.file.now a.words.now _ P (scratch_kept (scratch_room P) c.split_at_mut-parts.result.0.now c.split_at_mut-slots.result.0.now c.split_at_mut-slots.result.1.now p.value p.front_len q.value q.front_len
    c.read_file.new.nodes c.read_file.new.lookup (take (length a.file.now) c.split_at_mut-slots.result.1.now) A.long A.long_lookup refl) A
    c.refused-in-None.ensures.0 c.refused-in-None.ensures.1

pub returns-in-Some-Leaf : goal.returns-in-Some-Leaf
returns-in-Some-Leaf c =
    let a = c.args in
    let P = tested_clear a.nodes.now a.lookup.now c.tested-found.ensures c.in_default.is in
    let A = rw c.in-Some-Leaf.field-0-is at c.in-Some-Leaf.ensures in
    let p = c.split_at_mut-parts.ensures in
    let q = c.split_at_mut-slots.ensures in
    load_leaf a.store a.nodes.now a.lookup.now a.cache.now a.file.now a.words.now _ P (scratch_kept (scratch_room P) c.split_at_mut-parts.result.0.now c.split_at_mut-slots.result.0.now c.split_at_mut-slots.result.1.now p.value p.front_len q.value q.front_len
    c.read_file.new.nodes c.read_file.new.lookup (take (length a.file.now) c.split_at_mut-slots.result.1.now) A.long A.long_lookup refl) A
    c.placed.ensures.0 c.placed.ensures.1

pub returns-else-store-top_of : goal.returns-else-store-top_of
returns-else-store-top_of c =
    let a = c.args in
    let P = tested_clear a.nodes.now a.lookup.now c.tested-found.ensures c.in_default.is in
    let A = rw c.in-Some-Parts.field-0-is at c.in-Some-Parts.ensures in
    let p = c.split_at_mut-parts.ensures in
    let q = c.split_at_mut-slots.ensures in
    let W = rw c.fill-fill.ensures at c.place_parts-answer.ensures in
    load_parts a.store a.nodes.now a.lookup.now a.cache.now a.file.now a.words.now _ P (scratch_kept (scratch_room P) c.split_at_mut-parts.result.0.now c.split_at_mut-slots.result.0.now c.split_at_mut-slots.result.1.now p.value p.front_len q.value q.front_len
    c.read_file.new.nodes c.read_file.new.lookup c.place_parts-answer.new.handles A.long A.long_lookup W.long) A
    W (omega (arith, c.top_of.ensures, c.if-store-top_of.false)) c.finish.ensures
