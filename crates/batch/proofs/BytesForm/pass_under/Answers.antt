-- `batch::Bytes::pass_under` meets its contract. The loop's invariant is `Under`. Assumes nothing.
use native.Mathlib.Omega.{arith}
use Rattle.trace.specs.Trace.{counted_at}
use Rattle.batch.specs.Stride.{stride}
use Rattle.batch.proofs.Sliding.{Slid, slid, all_under}
use Rattle.batch.proofs.Counting.{at_most}
use Rattle.batch.proofs.Loops.{under_first, under_more, under_small, passed}
use Rattle.batch.proofs.BytesForm.pass_under.Goals as goal

pub loop-start-init : goal.loop-start-init
loop-start-init c = (under_first _ _ _ _ _ _ (omega arith) c.requires.1.held (omega arith), omega arith)

pub overflow_add-losses : goal.overflow_add-losses
overflow_add-losses c = omega (arith, under_small _ _ _ _ _ _ _ c.loop-start.invariant.0, at_most _ _ _ _ c.losses_among-entering.ensures)

pub overflow_add-losses-in-loop-start : goal.overflow_add-losses-in-loop-start
overflow_add-losses-in-loop-start c = omega (arith, under_small _ _ _ _ _ _ _ c.loop-start.invariant.0, at_most _ _ _ _ c.losses_among-entering.ensures)

pub overflow_sub-losses : goal.overflow_sub-losses
overflow_sub-losses c =
    let moved : Slid (counted_at c.args.self.now.event c.args.self.now.trace.now) c.args.batches.size c.loop-start.start stride c.loop-start.losses c.losses_among-entering.result c.losses_among.result = slid _ _ _ _ c.loop-start.invariant.0.losses _ _ _ c.losses_among-entering.ensures c.losses_among.ensures in
    omega (arith, moved.enough)

pub loop-start-preserved : goal.loop-start-preserved
loop-start-preserved c =
    let moved : Slid (counted_at c.args.self.now.event c.args.self.now.trace.now) c.args.batches.size c.loop-start.start stride c.loop-start.losses c.losses_among-entering.result c.losses_among.result = slid _ _ _ _ c.loop-start.invariant.0.losses _ _ _ c.losses_among-entering.ensures c.losses_among.ensures in
    (under_more _ _ _ _ _ _ _ c.loop-start.invariant.0 _ _ (omega arith) moved.value (all_under _ _ _ _ _ (omega arith)), omega arith)

pub returns-after-loop-start : goal.returns-after-loop-start
returns-after-loop-start c = passed _ _ _ _ _ _ _ c.loop-start.invariant

pub returns-then-batches-losses : goal.returns-then-batches-losses
returns-then-batches-losses c = passed _ _ _ _ _ _ _ c.loop-start.invariant
