-- `runs::Losses::four` meets its contract: packets are received or lost, so that four of them fit four bits. Assumes nothing.
use Rattle.std.proofs.Common.{◌+◌, refl, arith}
use Rattle.runs.specs.Packets.{four_from}
use Rattle.runs.proofs.Losses.four.Goals as goal

pub overflow_cast-high : goal.overflow_cast-high
overflow_cast-high c = omega (arith, c.args.self.bits c.args.i)

pub overflow_mul-high : goal.overflow_mul-high
overflow_mul-high c = omega (arith, c.args.self.bits c.args.i)

pub overflow_cast-high-2 : goal.overflow_cast-high-2
overflow_cast-high-2 c = omega (arith, c.args.self.bits (c.args.i + 1))

pub overflow_add-high-2 : goal.overflow_add-high-2
overflow_add-high-2 c = omega (arith, c.args.self.bits c.args.i, c.args.self.bits (c.args.i + 1))

pub overflow_cast-low : goal.overflow_cast-low
overflow_cast-low c = omega (arith, c.args.self.bits (c.args.i + 2))

pub overflow_mul-low : goal.overflow_mul-low
overflow_mul-low c = omega (arith, c.args.self.bits (c.args.i + 2))

pub overflow_cast-low-2 : goal.overflow_cast-low-2
overflow_cast-low-2 c = omega (arith, c.args.self.bits (c.args.i + 3))

pub overflow_add-low-3 : goal.overflow_add-low-3
overflow_add-low-3 c = omega (arith, c.args.self.bits (c.args.i + 2), c.args.self.bits (c.args.i + 3))

pub overflow_mul-result : goal.overflow_mul-result
overflow_mul-result c = omega (arith, c.args.self.bits c.args.i, c.args.self.bits (c.args.i + 1))

pub overflow_add-result : goal.overflow_add-result
overflow_add-result c = omega (arith, c.args.self.bits c.args.i, c.args.self.bits (c.args.i + 1), c.args.self.bits (c.args.i + 2), c.args.self.bits (c.args.i + 3))

pub returns : goal.returns
unfolding four_from
returns c = refl
