-- `batch::Bytes::first_losses` meets its contract. The loop's invariant is `Part`, a stride a turn. Assumes nothing.
use Prim.Native.Nat.{◌+◌, ◌*◌, ◌/◌, ◌%◌}
use mathlib.Core.Path.{◌≡◌}
use native.Mathlib.Omega.{arith}
use Rattle.trace.specs.Trace.{counted_at}
use Rattle.batch.specs.Stride.{stride}
use Rattle.batch.proofs.Loops.{Part, part_none, part_add, part_small, part_all}
use Rattle.batch.proofs.BytesForm.first_losses.Goals as goal

pub loop-k-init : goal.loop-k-init
loop-k-init c = part_none _ _ _

pub overflow_add-losses : goal.overflow_add-losses
overflow_add-losses c =
    let added : Part (counted_at c.args.self.now.event c.args.self.now.trace.now) c.args.batches.size 0 (c.loop-k.losses + c.losses_among-losses.result) (stride * c.loop-k.k + stride) = part_add _ _ _ _ _ c.loop-k.invariant _ _ _ (omega arith) (omega arith) c.losses_among-losses.ensures in
    omega (arith, part_small _ _ _ _ _ added)

pub loop-k-preserved : goal.loop-k-preserved
loop-k-preserved c =
    let next : stride * (c.loop-k.k + 1) ≡ stride * c.loop-k.k + stride = omega arith in
    rw next (part_add _ _ _ _ _ c.loop-k.invariant _ _ _ (omega arith) (omega arith) c.losses_among-losses.ensures)

pub overflow_add-result : goal.overflow_add-result
overflow_add-result c =
    let end : c.loop-k.k ≡ c.args.batches.size / stride = omega arith in
    let here = rw end at c.loop-k.invariant in
    let rest : Part (counted_at c.args.self.now.event c.args.self.now.trace.now) c.args.batches.size 0 (c.loop-k.losses + c.losses_among.result) (stride * (c.args.batches.size / stride) + c.args.batches.size % stride) = part_add _ _ _ _ _ here _ _ _ (omega arith) (omega arith) c.losses_among.ensures in
    omega (arith, part_small _ _ _ _ _ rest)

pub returns : goal.returns
returns c =
    let end : c.loop-k.k ≡ c.args.batches.size / stride = omega arith in
    let here = rw end at c.loop-k.invariant in
    let rest : Part (counted_at c.args.self.now.event c.args.self.now.trace.now) c.args.batches.size 0 (c.loop-k.losses + c.losses_among.result) (stride * (c.args.batches.size / stride) + c.args.batches.size % stride) = part_add _ _ _ _ _ here _ _ _ (omega arith) (omega arith) c.losses_among.ensures in
    part_all _ _ _ _ _ rest (omega arith)
