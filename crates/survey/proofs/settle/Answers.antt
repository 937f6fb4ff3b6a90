-- `survey::settle` meets its contract. The loop's invariant is `Settle`. Assumes nothing.
use Prim.Native.Nat.{◌*◌, ◌<◌}
use mathlib.Core.Path.{sym, ◌∙◌}
use native.Mathlib.Omega.{arith}
use Rattle.survey.proofs.Settling.{settle_start, settle_table, settle_on, settle_back, settle_left, settle_enough, settle_end}
use Rattle.survey.proofs.settle.Goals as goal
use Rattle.survey.proofs.settle.Goals.{then-is_measured, else-is_measured}

pub loop-i-init : goal.loop-i-init
loop-i-init c = settle_start _ _ _ _ c.requires

pub is_measured-requires : goal.is_measured-requires
is_measured-requires c = settle_table _ _ _ _ c.requires _ _ c.loop-i.invariant

pub overflow_sub-out : goal.overflow_sub-out
overflow_sub-out c =
    let more : c.loop-i.i < 2 * c.args.count = omega arith in
    omega (arith, settle_enough _ _ _ _ c.requires _ _ c.loop-i.invariant more (sym c.is_measured.ensures ∙ c.if-is_measured.true))

pub loop-i-preserved : goal.loop-i-preserved
loop-i-preserved c =
    let more : c.loop-i.i < 2 * c.args.count = omega arith in
    settle_on _ _ _ _ c.requires _ _ c.loop-i.invariant more _
    (elim c.if-is_measured.branch [
      | then-is_measured w ↦ w.out-is ∙ settle_back _ _ _ _ c.requires _ _ c.loop-i.invariant more (sym c.is_measured.ensures ∙ w.if-is_measured.true)
      | else-is_measured w ↦ w.out-is ∙ settle_left _ _ _ _ c.requires _ _ c.loop-i.invariant more (sym c.is_measured.ensures ∙ w.if-is_measured.false)
    ])

pub returns : goal.returns
returns c = settle_end _ _ _ _ c.requires _ _ c.loop-i.invariant (omega arith)
