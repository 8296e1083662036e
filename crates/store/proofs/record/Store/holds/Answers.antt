-- `holds` tests a handle against the count without a sum that could wrap.
-- The two numbers below 2 are always held.
use Prim.Native.Nat.{◌+◌}
use mathlib.Core.Path.{sym}
use native.Mathlib.Omega.{arith}
use borrow.Author.Tests.{le-leb}
use Rattle.store.proofs.Fitting.{below_leb}
use Rattle.store.proofs.record.Store.holds.Goals as goal

pub returns-then-handle-lt2 : goal.returns-then-handle-lt2
returns-then-handle-lt2 c = sym (le-leb c.args.handle (c.args.self.count + 1) (omega arith))

pub returns : goal.returns
returns c = below_leb _ _ c.if-handle-lt2.false
