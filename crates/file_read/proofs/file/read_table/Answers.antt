-- `read_table` empties the local lookup, reads the records and walks the placing order from the last part.
-- Each way out is one law of the local table of a file.
use native.Mathlib.Omega.{arith}
use Rattle.file_read.proofs.Walks.{local_nodes}
use Rattle.file_read.proofs.Tables.{blank_table, table_unread, table_broken, table_done}
use Rattle.file_read.proofs.file.read_table.Goals as goal

pub read_records-requires : goal.read_records-requires
read_records-requires c =
    let p = c.requires.records_room in record {
      records_room = record { words = p.words; slots = omega (arith, p.slots, c.fill.auto.self); low = p.low };
      local = blank_table c.args.nodes.now _ (c.fill.ensures.after (λ y e. e));
    }

pub returns-in_err-read_records : goal.returns-in_err-read_records
returns-in_err-read_records c = rw c.from_residual.ensures (table_unread c.fill.auto.self c.in_err-read_records.ensures)

pub in_order-requires : goal.in_order-requires
in_order-requires c =
    let R = c.in_ok-read_records.ensures in
    record {
      room = omega (arith, c.requires.records_room.words, R.long, R.outcome.few);
      inside = omega arith;
      some_placed = omega arith;
      local = local_nodes R.outcome.table;
    }

pub returns-in_err-last : goal.returns-in_err-last
returns-in_err-last c = rw c.from_residual-in_err-last.ensures (table_broken c.fill.auto.self c.in_ok-read_records.ensures c.in_err-last.ensures)

pub returns : goal.returns
returns c = table_done c.fill.auto.self c.in_ok-read_records.ensures c.in_ok-last.last c.in_ok-last.ensures _ c.then_some.ensures
