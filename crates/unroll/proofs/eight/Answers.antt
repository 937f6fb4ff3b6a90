-- `unroll::eight` meets its contract. Assumes nothing.
use native.Mathlib.Omega.{arith}
use Rattle.unroll.proofs.Whole.{received_most, lost_packed}
use Rattle.unroll.proofs.eight.Goals as goal

pub overflow_sub-result : goal.overflow_sub-result
overflow_sub-result c = received_most c.args.bits

pub returns : goal.returns
returns c = lost_packed c.args.bits (omega arith)
