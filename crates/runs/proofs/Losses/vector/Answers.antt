-- `runs::Losses::vector` meets its contract. The loop's invariant is `Packing`. Assumes nothing.
use Rattle.std.proofs.Common.{◌+◌, arith}
use Rattle.runs.proofs.Packing.{packing_none, packing_here, packing_room, packing_more, packing_all}
use Rattle.runs.proofs.Losses.vector.Goals as goal

pub loop-j-init : goal.loop-j-init
loop-j-init c = packing_none _ _ _ c.requires

pub overflow_mul-bits : goal.overflow_mul-bits
overflow_mul-bits c = omega (arith, packing_room _ _ _ _ _ c.loop-j.invariant (omega arith))

pub overflow_add-bits : goal.overflow_add-bits
overflow_add-bits c = omega (arith, packing_here _ _ _ _ _ c.loop-j.invariant (omega arith))

pub bounds-self-first : goal.bounds-self-first
bounds-self-first c = packing_here _ _ _ _ _ c.loop-j.invariant (omega arith)

pub overflow_sub-bits : goal.overflow_sub-bits
overflow_sub-bits c = c.args.self.bits (c.args.first + c.loop-j.j)

pub overflow_add-bits-in-loop-j : goal.overflow_add-bits-in-loop-j
overflow_add-bits-in-loop-j c = omega (arith, packing_room _ _ _ _ _ c.loop-j.invariant (omega arith))

pub loop-j-preserved : goal.loop-j-preserved
loop-j-preserved c = packing_more _ _ _ _ _ c.loop-j.invariant (omega arith)

pub overflow_sub-result : goal.overflow_sub-result
overflow_sub-result c = omega (arith, c.loop-j.invariant.few.is)

pub returns : goal.returns
returns c = packing_all _ _ _ _ _ c.loop-j.invariant (omega arith)
