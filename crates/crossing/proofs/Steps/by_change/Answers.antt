-- `crossing::Steps::by_change` meets its contract. The loop's invariant is `Behind`; the words still differ at the next change.
-- Assumes nothing.
use mathlib.Core.Path.{refl}
use native.Mathlib.Omega.{arith}
use Rattle.trace.proofs.Sums.{count_most}
use Rattle.packed.specs.Words.{word_bits}
use Rattle.crossing.specs.Crossing.{over_after}
use Rattle.crossing.proofs.Levels.{behind_none, behind_change, behind_changed, behind_rest}
use Rattle.crossing.proofs.Steps.by_change.Goals as goal

pub loop-enters-init : goal.loop-enters-init
loop-enters-init c = behind_none _ _ _ _ _

pub overflow_cast-same : goal.overflow_cast-same
overflow_cast-same c = omega (arith, (behind_change _ _ _ _ _ _ _ _ _ _ _ c.loop-enters.invariant refl (omega (arith, c)) (omega (arith, c)) (omega arith)).within)

pub overflow_add-over : goal.overflow_add-over
overflow_add-over c = omega (arith, (behind_changed _ _ _ _ _ _ _ _ _ _ _ c.loop-enters.invariant _ _ (behind_change _ _ _ _ _ _ _ _ _ _ _ c.loop-enters.invariant refl (omega (arith, c)) (omega (arith, c)) (omega arith)) refl c.all_or_none-over.ensures).few, c)

pub overflow_shr-left : goal.overflow_shr-left
overflow_shr-left c = omega (arith, (behind_change _ _ _ _ _ _ _ _ _ _ _ c.loop-enters.invariant refl (omega (arith, c)) (omega (arith, c)) (omega arith)).within)

pub overflow_shr-came : goal.overflow_shr-came
overflow_shr-came c = omega (arith, (behind_change _ _ _ _ _ _ _ _ _ _ _ c.loop-enters.invariant refl (omega (arith, c)) (omega (arith, c)) (omega arith)).within)

pub overflow_add-low : goal.overflow_add-low
overflow_add-low c = omega (arith, (behind_changed _ _ _ _ _ _ _ _ _ _ _ c.loop-enters.invariant _ _ (behind_change _ _ _ _ _ _ _ _ _ _ _ c.loop-enters.invariant refl (omega (arith, c)) (omega (arith, c)) (omega arith)) refl c.all_or_none-over.ensures).few, c)

pub overflow_add-high : goal.overflow_add-high
overflow_add-high c = omega (arith, (behind_changed _ _ _ _ _ _ _ _ _ _ _ c.loop-enters.invariant _ _ (behind_change _ _ _ _ _ _ _ _ _ _ _ c.loop-enters.invariant refl (omega (arith, c)) (omega (arith, c)) (omega arith)) refl c.all_or_none-over.ensures).few, c)

pub overflow_cast-over : goal.overflow_cast-over
overflow_cast-over c = tt

pub overflow_add-over-in-loop-enters : goal.overflow_add-over-in-loop-enters
overflow_add-over-in-loop-enters c = omega (arith, (behind_changed _ _ _ _ _ _ _ _ _ _ _ c.loop-enters.invariant _ _ (behind_change _ _ _ _ _ _ _ _ _ _ _ c.loop-enters.invariant refl (omega (arith, c)) (omega (arith, c)) (omega arith)) refl c.all_or_none-over.ensures).few, c)

pub overflow_add-j : goal.overflow_add-j
overflow_add-j c = omega (arith, (behind_changed _ _ _ _ _ _ _ _ _ _ _ c.loop-enters.invariant _ _ (behind_change _ _ _ _ _ _ _ _ _ _ _ c.loop-enters.invariant refl (omega (arith, c)) (omega (arith, c)) (omega arith)) refl c.all_or_none-over.ensures).few, c)

pub overflow_add-j-in-loop-enters : goal.overflow_add-j-in-loop-enters
overflow_add-j-in-loop-enters c = omega (arith, (behind_changed _ _ _ _ _ _ _ _ _ _ _ c.loop-enters.invariant _ _ (behind_change _ _ _ _ _ _ _ _ _ _ _ c.loop-enters.invariant refl (omega (arith, c)) (omega (arith, c)) (omega arith)) refl c.all_or_none-over.ensures).few, c)

pub loop-enters-smaller : goal.loop-enters-smaller
loop-enters-smaller c = omega (arith, (behind_changed _ _ _ _ _ _ _ _ _ _ _ c.loop-enters.invariant _ _ (behind_change _ _ _ _ _ _ _ _ _ _ _ c.loop-enters.invariant refl (omega (arith, c)) (omega (arith, c)) (omega arith)) refl c.all_or_none-over.ensures).few, c)

pub loop-enters-preserved : goal.loop-enters-preserved
loop-enters-preserved c = behind_changed _ _ _ _ _ _ _ _ _ _ _ c.loop-enters.invariant _ _ (behind_change _ _ _ _ _ _ _ _ _ _ _ c.loop-enters.invariant refl (omega (arith, c)) (omega (arith, c)) (omega arith)) refl c.all_or_none-over.ensures

pub overflow_sub-j : goal.overflow_sub-j
overflow_sub-j c = omega (arith, c.loop-enters.invariant.few)

pub overflow_add-result : goal.overflow_add-result
overflow_add-result c = let a = c.args.self in omega (arith, behind_rest _ _ _ _ _ _ _ _ _ _ _ c.loop-enters.invariant _ (omega (arith, c)) c.all_or_none.ensures, count_most (over_after a.threshold a.losses a.entering a.leaving) 0 word_bits)

pub returns : goal.returns
returns c = behind_rest _ _ _ _ _ _ _ _ _ _ _ c.loop-enters.invariant _ (omega (arith, c)) c.all_or_none.ensures
