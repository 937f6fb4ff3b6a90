-- `wire::put` meets its contract: the test says whether the bytes fit. Assumes nothing.
use mathlib.Core.Path.{sym}
use native.Mathlib.Omega.{arith}
use Rattle.wire.proofs.Placed.{placed_out, placed_mid}
use Rattle.wire.proofs.put.Goals as goal

pub returns-then-length : goal.returns-then-length
returns-then-length g c = sym (placed_out _ c.args.i _ (grind arith))

pub returns : goal.returns
returns g c = placed_mid _ _ _ g.row.N _ _ c.copy_from_slice.ensures.after c.copy_from_slice.ensures.len (omega arith) (omega arith)
