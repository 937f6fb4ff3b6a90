-- `batch::first_over` meets its contract. The invariant of both loops is `Under`, from the first batch on. Assumes nothing.
use Prim.Native.Nat.{◌≤◌}
use mathlib.Core.Path.{refl}
use native.Mathlib.Omega.{arith}
use Rattle.trace.proofs.Sums.{bit_le}
use Rattle.batch.proofs.Sliding.{Slid, slid_one}
use Rattle.batch.proofs.Loops.{under_next, under_small, found_here, found_next, found_none}
use Rattle.batch.proofs.first_over.Goals as goal

pub returns-then-batches-losses : goal.returns-then-batches-losses
returns-then-batches-losses g c = found_here _ _ _ _ _ (omega (arith, c.requires.within)) c.first_losses-losses.ensures (omega arith) (λ j l. absurd (omega arith))

pub overflow_add-losses : goal.overflow_add-losses
overflow_add-losses g c =
    let one : c.loss.result ≤ 1 = rw c.loss.ensures (bit_le _) in
    omega (arith, under_small _ _ _ _ _ _ _ c.loop-k.invariant.0, one, c.requires.within, c.requires.most)

pub overflow_sub-losses : goal.overflow_sub-losses
overflow_sub-losses g c =
    let moved : Slid (g.F.Form.lost c.args.form.now) c.args.batches.size c.loop-k.k 1 c.loop-k.losses c.loss.result c.loss-in-loop-k.result = slid_one _ _ _ _ c.loop-k.invariant.0.losses _ _ c.loss.ensures c.loss-in-loop-k.ensures in
    omega (arith, moved.enough)

pub returns-then-batches-losses-2 : goal.returns-then-batches-losses-2
returns-then-batches-losses-2 g c =
    let moved : Slid (g.F.Form.lost c.args.form.now) c.args.batches.size c.loop-k.k 1 c.loop-k.losses c.loss.result c.loss-in-loop-k.result = slid_one _ _ _ _ c.loop-k.invariant.0.losses _ _ c.loss.ensures c.loss-in-loop-k.ensures in
    found_next _ _ _ _ _ _ c.loop-k.invariant.0 _ refl (omega (arith, c.pass_under-passed.ensures.at.within)) moved.value (omega arith)

pub loop-k-preserved : goal.loop-k-preserved
loop-k-preserved g c =
    let moved : Slid (g.F.Form.lost c.args.form.now) c.args.batches.size c.loop-k.k 1 c.loop-k.losses c.loss.result c.loss-in-loop-k.result = slid_one _ _ _ _ c.loop-k.invariant.0.losses _ _ c.loss.ensures c.loss-in-loop-k.ensures in
    (under_next _ _ _ _ _ _ _ c.loop-k.invariant.0 _ (omega (arith, c.pass_under-passed.ensures.at.within)) moved.value (omega arith), c.loop-k.invariant.1)

pub returns-after-batches : goal.returns-after-batches
returns-after-batches g c = rw c.batches.invariant.1 (found_none _ _ _ _ _ _ c.batches.invariant.0 (omega arith))
