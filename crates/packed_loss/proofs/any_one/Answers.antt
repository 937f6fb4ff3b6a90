-- `packed_loss::any_one` meets its contract: the invariant is `Over`. Assumes nothing.
use native.Mathlib.Omega.{arith}
use Rattle.batch.proofs.Loops.{part_length, part_at}
use Rattle.packed_loss.specs.Steps.{group}
use Rattle.packed_loss.proofs.Settling.{over_none, over_more}
use Rattle.packed_loss.proofs.any_one.Goals as goal

pub loop-word-init : goal.loop-word-init
loop-word-init c = over_none c.args.w.now c.args.from

pub loop-word-preserved : goal.loop-word-preserved
loop-word-preserved c =
    let a = c.args in
    let l = c.loop-word in
    rw (part_at a.w.now a.from group l.word-index (omega (arith, part_length a.w.now a.from group))) (over_more a.w.now a.from l.any l.word-index l.invariant)

pub returns : goal.returns
returns c h k l m = c.loop-word.invariant h k l (omega (arith, part_length c.args.w.now c.args.from group))
