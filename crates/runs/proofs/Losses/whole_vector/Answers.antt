-- `runs::Losses::whole_vector` meets its contract: sixteen ones, less those of the lost packets. Assumes nothing.
use Rattle.std.proofs.Common.{arith}
use Rattle.runs.proofs.Fours.{whole_fours}
use Rattle.runs.proofs.Losses.whole_vector.Goals as goal

pub overflow_mul-result : goal.overflow_mul-result
overflow_mul-result c = omega (arith, whole_fours _ _ _ _ _ _ c.args.self.bits c.requires c.four-a.ensures c.four-b.ensures c.four-c.ensures c.four-d.ensures)

pub overflow_mul-result-2 : goal.overflow_mul-result-2
overflow_mul-result-2 c = omega (arith, whole_fours _ _ _ _ _ _ c.args.self.bits c.requires c.four-a.ensures c.four-b.ensures c.four-c.ensures c.four-d.ensures)

pub overflow_add-result : goal.overflow_add-result
overflow_add-result c = omega (arith, whole_fours _ _ _ _ _ _ c.args.self.bits c.requires c.four-a.ensures c.four-b.ensures c.four-c.ensures c.four-d.ensures)

pub overflow_mul-result-3 : goal.overflow_mul-result-3
overflow_mul-result-3 c = omega (arith, whole_fours _ _ _ _ _ _ c.args.self.bits c.requires c.four-a.ensures c.four-b.ensures c.four-c.ensures c.four-d.ensures)

pub overflow_add-result-2 : goal.overflow_add-result-2
overflow_add-result-2 c = omega (arith, whole_fours _ _ _ _ _ _ c.args.self.bits c.requires c.four-a.ensures c.four-b.ensures c.four-c.ensures c.four-d.ensures)

pub overflow_add-result-3 : goal.overflow_add-result-3
overflow_add-result-3 c = omega (arith, whole_fours _ _ _ _ _ _ c.args.self.bits c.requires c.four-a.ensures c.four-b.ensures c.four-c.ensures c.four-d.ensures)

pub overflow_sub-result : goal.overflow_sub-result
overflow_sub-result c = omega (arith, whole_fours _ _ _ _ _ _ c.args.self.bits c.requires c.four-a.ensures c.four-b.ensures c.four-c.ensures c.four-d.ensures)

pub returns : goal.returns
returns c = omega (arith, whole_fours _ _ _ _ _ _ c.args.self.bits c.requires c.four-a.ensures c.four-b.ensures c.four-c.ensures c.four-d.ensures)
