-- `unroll::put_vector` meets its contract: bit by bit, or eight packets and eight. Assumes nothing.
use native.Mathlib.Omega.{arith}
use Rattle.unroll.proofs.Whole.{whole}
use Rattle.unroll.proofs.put_vector.Goals as goal

pub returns : goal.returns
returns c = whole _ _ (omega arith) _ _ c.put_eight.ensures c.put_eight-2.ensures (omega arith)
