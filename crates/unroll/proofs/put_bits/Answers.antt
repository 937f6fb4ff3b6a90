-- `unroll::put_bits` meets its contract. The loop's invariant is `Filling`. Assumes nothing.
use native.Mathlib.Omega.{arith}
use Rattle.chunk.specs.Chunks.{vector_bits}
use Rattle.chunk.proofs.Vectors.{length_vector, packet_at}
use Rattle.unroll.proofs.Filling.{filling_none, filling_more, filling_all}
use Rattle.unroll.proofs.put_bits.Goals as goal

pub loop-j-init : goal.loop-j-init
loop-j-init c = filling_none _ _ (omega (arith, length_vector vector_bits c.args.bits))

pub loop-j-preserved : goal.loop-j-preserved
loop-j-preserved c = filling_more _ _ _ _ c.loop-j.invariant _ (packet_at c.args.bits c.loop-j.j (omega arith)) (omega arith)

pub returns : goal.returns
returns c = filling_all _ _ _ _ c.loop-j.invariant (omega arith)
