-- `resend::slide` meets its contract: what leaves the window is nothing, or one packet less its mark. Assumes
-- nothing.
use Prim.Native.Nat.{◌-◌}
use native.Mathlib.Omega.{arith}
use Rattle.resend.proofs.Filling.{leaves_less, slides_none}
use Rattle.resend.proofs.slide.Goals as goal

pub returns-then-i-batch : goal.returns-then-i-batch
returns-then-i-batch g c = slides_none _ _ _ _ _ c.if-i-batch.true

pub overflow_cast-result-2 : goal.overflow_cast-result-2
overflow_cast-result-2 g c =
    let late = c.if-i-batch.false in
    let leaves = leaves_less g.lost c.args.batch c.args.plan.now c.args.i late (c.requires.1.1.1.1.1 late) c.counts.result (c.requires.1.1.0 (c.args.i - c.args.batch) _ (omega arith) c.counts.ensures) in
    omega (arith, leaves.0, leaves.1)

pub overflow_sub-result : goal.overflow_sub-result
overflow_sub-result g c =
    let late = c.if-i-batch.false in
    let leaves = leaves_less g.lost c.args.batch c.args.plan.now c.args.i late (c.requires.1.1.1.1.1 late) c.counts.result (c.requires.1.1.0 (c.args.i - c.args.batch) _ (omega arith) c.counts.ensures) in
    leaves.0

pub overflow_sub-result-2 : goal.overflow_sub-result-2
overflow_sub-result-2 g c =
    let late = c.if-i-batch.false in
    let leaves = leaves_less g.lost c.args.batch c.args.plan.now c.args.i late (c.requires.1.1.1.1.1 late) c.counts.result (c.requires.1.1.0 (c.args.i - c.args.batch) _ (omega arith) c.counts.ensures) in
    rw (← leaves.2) c.requires.1.1.1.1.0

pub returns : goal.returns
returns g c =
    let late = c.if-i-batch.false in
    let leaves = leaves_less g.lost c.args.batch c.args.plan.now c.args.i late (c.requires.1.1.1.1.1 late) c.counts.result (c.requires.1.1.0 (c.args.i - c.args.batch) _ (omega arith) c.counts.ensures) in
    rw leaves.2
