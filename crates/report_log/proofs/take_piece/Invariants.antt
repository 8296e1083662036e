-- A piece is taken byte by byte.
-- Before each turn the bytes up to the index are taken.
use Rattle.std.proofs.Common.{take}
use Rattle.report_log.specs.Promise.{TakeCall}
use Rattle.report_log.proofs.take_piece.Given as goal

abbrev pub invariant-loop-b : goal.invariant-loop-b
invariant-loop-b l = TakeCall l.fn.t l.initial.nodes l.initial.lookup l.initial.cache (take l.b-index l.piece) l.t l.nodes l.lookup l.cache
