-- `resend::fill` meets its contract. The loop's invariant is `Filling`, and each arm is one of the two ways of a packet. Assumes nothing.
use Prim.Native.Nat.{◌+◌, ◌-◌, ◌≤◌}
use mathlib.Core.Path.{◌≡◌, sym, ◌∙◌}
use native.Mathlib.Omega.{arith}
use lib.ListN.{length}
use Rattle.resend.proofs.Filling.{filling_none, filling_length, filling_small, slid_some, slid_small, marks_lost, mark_small, enters_lost, enters_fine, filling_all}
use Rattle.resend.proofs.fill.Goals as goal
use Rattle.resend.proofs.fill.Goals.{then-counts, else-counts}

pub loop-at-init : goal.loop-at-init
loop-at-init g c = filling_none _ _ _ _ _ c.requires.1.1.1.0 c.requires.1.1.1.1

pub slide-before-requires : goal.slide-before-requires
slide-before-requires g c κs within =
    let long : length c.loop-at.out ≡ length c.args.out.now = filling_length _ _ _ _ _ _ _ _ _ c.loop-at.invariant in
    (within, (c.requires.1.0, (c.requires.1.1.0, ((c.requires.1.1.1.0, c.loop-at-test.true, omega (arith, long, c.requires.1.1.1.1)), (slid_some _ _ _ _ _ _ _ _ _ c.loop-at.invariant, marks_lost _ _ _ _ _ _ _ _ _ c.loop-at.invariant)))))

pub overflow_add-before : goal.overflow_add-before
overflow_add-before g c =
    let few_left : c.slide-before.result ≤ c.loop-at.at = rw c.slide-before.ensures (slid_small _ _ _ _ _ _ _ _ _ c.loop-at.invariant) in
    omega (arith, few_left)

pub overflow_add-out : goal.overflow_add-out
overflow_add-out g c =
    let few_left : c.slide-before.result ≤ c.loop-at.at = rw c.slide-before.ensures (slid_small _ _ _ _ _ _ _ _ _ c.loop-at.invariant) in
    omega (arith, few_left)

pub overflow_sub-out : goal.overflow_sub-out
overflow_sub-out g c = omega (arith, c.min-left.ensures)

pub overflow_cast-out : goal.overflow_cast-out
overflow_cast-out g c =
    let one : c.slide-before.result + 1 - c.min-left.result ≤ 1 = mark_small _ _ _ _ _ _ _ _ _ c.loop-at.invariant _ c.slide-before.ensures _ (omega (arith, c.min-left.ensures)) in
    omega (arith, one)

pub bounds-out-at : goal.bounds-out-at
bounds-out-at g c =
    let long : length c.loop-at.out ≡ length c.args.out.now = filling_length _ _ _ _ _ _ _ _ _ c.loop-at.invariant in
    omega (arith, long, c.requires.1.1.1.1)

pub overflow_add-marks : goal.overflow_add-marks
overflow_add-marks g c =
    let few_left : c.slide-before.result ≤ c.loop-at.at = rw c.slide-before.ensures (slid_small _ _ _ _ _ _ _ _ _ c.loop-at.invariant) in
    omega (arith, few_left)

pub overflow_sub-marks : goal.overflow_sub-marks
overflow_sub-marks g c = omega (arith, c.min-left.ensures)

pub overflow_add-marks-then-counts : goal.overflow_add-marks-then-counts
overflow_add-marks-then-counts g c =
    let few_marks : c.loop-at.marks ≤ c.loop-at.at = filling_small _ _ _ _ _ _ _ _ _ c.loop-at.invariant in
    let one : c.slide-before.result + 1 - c.min-left.result ≤ 1 = mark_small _ _ _ _ _ _ _ _ _ c.loop-at.invariant _ c.slide-before.ensures _ (omega (arith, c.min-left.ensures)) in
    omega (arith, few_marks, one)

pub bounds-out-at-else-counts : goal.bounds-out-at-else-counts
bounds-out-at-else-counts g c =
    let long : length c.loop-at.out ≡ length c.args.out.now = filling_length _ _ _ _ _ _ _ _ _ c.loop-at.invariant in
    omega (arith, long, c.requires.1.1.1.1)

pub loop-at-preserved : goal.loop-at-preserved
loop-at-preserved g c =
    elim c.if-counts.branch [
      | then-counts w ↦ rw (w.out-is, w.left-is, w.marks-is) (enters_lost _ _ _ _ _ _ _ _ _ c.loop-at.invariant _ c.slide-before.ensures c.loop-at-test.true (sym (c.requires.1.1.0 _ _ c.loop-at-test.true c.counts.ensures) ∙ w.if-counts.true) _ (omega (arith, w.min-left.ensures)))
      | else-counts w ↦ rw (w.out-is, w.left-is, w.marks-is) (enters_fine _ _ _ _ _ _ _ _ _ c.loop-at.invariant _ c.slide-before.ensures c.loop-at-test.true (sym (c.requires.1.1.0 _ _ c.loop-at-test.true c.counts.ensures) ∙ w.if-counts.false))
    ]

pub shape_of-out : goal.shape_of-out
shape_of-out g c =
    let long : length c.loop-at.out ≡ length c.args.out.now = filling_length _ _ _ _ _ _ _ _ _ c.loop-at.invariant in
    long

pub returns : goal.returns
returns g c = let told = filling_all _ _ _ _ _ _ _ _ _ c.loop-at.invariant (omega arith) in record { count = told.0; buffer = told.1 }
