-- `batch::Bytes::over_between` meets its contract. The loop's invariant is `Tallied`. Assumes nothing.
use Prim.Native.Nat.{◌+◌, ◌-◌, ◌≤◌}
use mir.Val.{bool_byte}
use lib.Dec.{ltb}
use native.Mathlib.Omega.{arith}
use Rattle.trace.specs.Trace.{counted_at}
use Rattle.trace.proofs.Sums.{bit_le}
use Rattle.batch.proofs.Sliding.{Slid, slid_one}
use Rattle.batch.proofs.Loops.{Tallied, tallied_none, tallied_next, tallied_small, tallied_all}
use Rattle.batch.proofs.Bytes.over_between.Goals as goal

pub loop-k-init : goal.loop-k-init
loop-k-init c = tallied_none _ _ _ _ _ _ c.requires.0.held

pub overflow_add-losses : goal.overflow_add-losses
overflow_add-losses c =
    let one : c.loss.result ≤ 1 = rw c.loss.ensures (bit_le _) in
    omega (arith, tallied_small _ _ _ _ _ _ _ _ c.loop-k.invariant, one)

pub overflow_sub-losses : goal.overflow_sub-losses
overflow_sub-losses c =
    let moved : Slid (counted_at c.args.self.now.event c.args.self.now.trace.now) c.args.batches.size c.loop-k.k 1 c.loop-k.losses c.loss.result c.loss-in-loop-k.result = slid_one _ _ _ _ c.loop-k.invariant.losses _ _ c.loss.ensures c.loss-in-loop-k.ensures in
    omega (arith, moved.enough)

pub overflow_add-over : goal.overflow_add-over
overflow_add-over c =
    let moved : Slid (counted_at c.args.self.now.event c.args.self.now.trace.now) c.args.batches.size c.loop-k.k 1 c.loop-k.losses c.loss.result c.loss-in-loop-k.result = slid_one _ _ _ _ c.loop-k.invariant.losses _ _ c.loss.ensures c.loss-in-loop-k.ensures in
    let next : let held = c.loop-k.losses + c.loss.result - c.loss-in-loop-k.result in Tallied (counted_at c.args.self.now.event c.args.self.now.trace.now) c.args.batches.size c.args.batches.threshold c.args.from.start c.args.end (c.loop-k.over + bool_byte (ltb c.args.batches.threshold held)) held (c.loop-k.k + 1) = tallied_next _ _ _ _ _ _ _ _ c.loop-k.invariant _ _ moved (omega arith) in
    omega (arith, tallied_small _ _ _ _ _ _ _ _ next)

pub loop-k-preserved : goal.loop-k-preserved
loop-k-preserved c =
    let moved : Slid (counted_at c.args.self.now.event c.args.self.now.trace.now) c.args.batches.size c.loop-k.k 1 c.loop-k.losses c.loss.result c.loss-in-loop-k.result = slid_one _ _ _ _ c.loop-k.invariant.losses _ _ c.loss.ensures c.loss-in-loop-k.ensures in
    let next : let held = c.loop-k.losses + c.loss.result - c.loss-in-loop-k.result in Tallied (counted_at c.args.self.now.event c.args.self.now.trace.now) c.args.batches.size c.args.batches.threshold c.args.from.start c.args.end (c.loop-k.over + bool_byte (ltb c.args.batches.threshold held)) held (c.loop-k.k + 1) = tallied_next _ _ _ _ _ _ _ _ c.loop-k.invariant _ _ moved (omega arith) in
    next

pub returns : goal.returns
returns c = tallied_all _ _ _ _ _ _ _ _ c.loop-k.invariant (omega arith)
