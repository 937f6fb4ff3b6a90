-- `batch::Bytes::over_after` meets its contract. The loop's invariant is `Tallied`. Assumes nothing.
use Prim.Native.Nat.{◌+◌, ◌-◌}
use mathlib.Core.Path.{refl}
use native.Mathlib.Omega.{arith}
use lib.ListN.{length}
use Rattle.trace.specs.Trace.{counted_at}
use Rattle.batch.specs.Batches.{losses_in}
use Rattle.batch.specs.Stride.{stride}
use Rattle.batch.proofs.Sliding.{Slid, slid}
use Rattle.batch.proofs.Counting.{at_most}
use Rattle.batch.proofs.Loops.{Tallied, tallied_none, tallied_more, tallied_small, tallied_all}
use Rattle.batch.proofs.BytesForm.over_after.Goals as goal

pub loop-start-init : goal.loop-start-init
loop-start-init c = tallied_none _ _ _ _ _ _ c.requires.1.held

pub over_in_stride-over-requires : goal.over_in_stride-over-requires
over_in_stride-over-requires c = (record { within = omega arith; held = c.loop-start.invariant.losses }, omega arith, c.losses_among-entering.ensures, c.losses_among-leaving.ensures)

pub overflow_add-over : goal.overflow_add-over
overflow_add-over c = omega (arith, tallied_small _ _ _ _ _ _ _ _ c.loop-start.invariant, at_most _ _ _ _ c.over_in_stride-over.ensures)

pub overflow_add-losses : goal.overflow_add-losses
overflow_add-losses c = omega (arith, tallied_small _ _ _ _ _ _ _ _ c.loop-start.invariant, at_most _ _ _ _ c.losses_among-entering.ensures)

pub overflow_sub-losses : goal.overflow_sub-losses
overflow_sub-losses c =
    let moved : Slid (counted_at c.args.self.now.event c.args.self.now.trace.now) c.args.batches.size c.loop-start.start stride c.loop-start.losses c.losses_among-entering.result c.losses_among-leaving.result = slid _ _ _ _ c.loop-start.invariant.losses _ _ _ c.losses_among-entering.ensures c.losses_among-leaving.ensures in
    omega (arith, moved.enough)

pub loop-start-preserved : goal.loop-start-preserved
loop-start-preserved c =
    let moved : Slid (counted_at c.args.self.now.event c.args.self.now.trace.now) c.args.batches.size c.loop-start.start stride c.loop-start.losses c.losses_among-entering.result c.losses_among-leaving.result = slid _ _ _ _ c.loop-start.invariant.losses _ _ _ c.losses_among-entering.ensures c.losses_among-leaving.ensures in
    tallied_more _ _ _ _ _ _ _ _ c.loop-start.invariant _ _ _ (omega arith) moved.value c.over_in_stride-over.ensures

pub over_between-requires : goal.over_between-requires
over_between-requires c = (record { within = omega arith; held = c.loop-start.invariant.losses }, omega arith, omega arith)

pub overflow_add-result : goal.overflow_add-result
overflow_add-result c =
    let whole : let last = length c.args.self.now.trace.now - c.args.batches.size in let lost = counted_at c.args.self.now.event c.args.self.now.trace.now in Tallied lost c.args.batches.size c.args.batches.threshold c.args.from.start last (c.loop-start.over + c.over_between.result) (losses_in lost c.args.batches.size (c.loop-start.start + (last - c.loop-start.start))) (c.loop-start.start + (last - c.loop-start.start)) = tallied_more _ _ _ _ _ _ _ _ c.loop-start.invariant _ _ _ (omega arith) refl c.over_between.ensures in
    omega (arith, tallied_small _ _ _ _ _ _ _ _ whole)

pub returns : goal.returns
returns c =
    let whole : let last = length c.args.self.now.trace.now - c.args.batches.size in let lost = counted_at c.args.self.now.event c.args.self.now.trace.now in Tallied lost c.args.batches.size c.args.batches.threshold c.args.from.start last (c.loop-start.over + c.over_between.result) (losses_in lost c.args.batches.size (c.loop-start.start + (last - c.loop-start.start))) (c.loop-start.start + (last - c.loop-start.start)) = tallied_more _ _ _ _ _ _ _ _ c.loop-start.invariant _ _ _ (omega arith) refl c.over_between.ensures in
    tallied_all _ _ _ _ _ _ _ _ whole (omega arith)
