-- `packed_plan::marks_among` meets its contract. Assumes nothing.
use Prim.Native.Nat.{◌+◌}
use mathlib.Core.Path.{◌≡◌, sym, ap, ◌∙◌}
use native.Mathlib.Omega.{arith}
use lib.ListN.{get_or}
use Rattle.trace.specs.Sum.{sum}
use Rattle.trace.proofs.Sums.{sum_none}
use Rattle.batch.proofs.Loops.{part_length, part_at}
use Rattle.packed_plan.proofs.Strides.{sum_on, sum_few}
use Rattle.packed_plan.proofs.marks_among.Goals as goal

pub loop-mark-init : goal.loop-mark-init
loop-mark-init c = (omega arith, sym (sum_none _ _))

pub overflow_add-marks : goal.overflow_add-marks
overflow_add-marks c =
    let a = c.args in
    let l = c.loop-mark in
    let here = part_at a.plan.now a.i a.n l.mark-index (omega (arith, part_length a.plan.now a.i a.n)) in
    let turned = sum_on (λ p. get_or a.plan.now p 0) a.i l.mark-index l.marks _ l.invariant.1 here in
    omega (arith, turned, sum_few (λ p. get_or a.plan.now p 0) a.i (l.mark-index + 1) (λ p m h. c.requires.2 p m (omega (arith, part_length a.plan.now a.i a.n))), part_length a.plan.now a.i a.n)

pub loop-mark-preserved : goal.loop-mark-preserved
loop-mark-preserved c =
    let a = c.args in
    let l = c.loop-mark in
    let here = part_at a.plan.now a.i a.n l.mark-index (omega (arith, part_length a.plan.now a.i a.n)) in
    (omega (arith, part_length a.plan.now a.i a.n), sum_on (λ p. get_or a.plan.now p 0) a.i l.mark-index l.marks _ l.invariant.1 here)

pub overflow_cast-result : goal.overflow_cast-result
overflow_cast-result c =
    let a = c.args in
    let l = c.loop-mark in
    omega (arith, l.invariant, sum_few (λ p. get_or a.plan.now p 0) a.i l.mark-index (λ p m h. c.requires.2 p m (omega (arith, l.invariant.0))))

pub returns : goal.returns
returns c =
    let a = c.args in
    let l = c.loop-mark in
    let end : l.mark-index ≡ a.n = omega (arith, l.invariant.0, part_length a.plan.now a.i a.n) in
    l.invariant.1 ∙ ap (sum (λ p. get_or a.plan.now p 0) a.i) end
