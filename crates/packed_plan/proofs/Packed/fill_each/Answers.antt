-- `packed_plan::Packed::fill_each` meets its contract. The loop's invariant is `Filling`.
-- Assumes nothing.
use Prim.Native.Nat.{ℕ, ◌+◌, ◌-◌, ◌%◌, ◌<◌, ◌≤◌}
use mathlib.Core.Path.{◌≡◌, ap, ◌∙◌}
use native.Mathlib.Omega.{arith}
use native.Mathlib.Nat.{add-zero, add_assoc, div-one}
use lib.ListN.{length, set}
use Rattle.trace.specs.Sum.{bit, count}
use Rattle.resend.specs.Plans.{marked}
use Rattle.resend.specs.Greedy.{plan_of}
use Rattle.resend.specs.Steps.{Filling}
use Rattle.resend.proofs.Filling.{filling_length, filling_small, slid_some, slid_small, marks_lost, enters_any}
use Rattle.packed.specs.Words.{word_bits, one_in, number_of}
use Rattle.packed_plan.specs.Steps.{behind}
use Rattle.packed_plan.proofs.Leaving.{bit_here, later}
use Rattle.packed_plan.proofs.Packed.fill_each.Goals as goal

pub loop-next-init : goal.loop-next-init
loop-next-init g c =
    let none : c.args.i - c.args.i ≡ 0 = omega arith in
    (rw (add-zero (count (marked (plan_of (one_in c.args.self.now.words.now) c.args.self.now.batches.size c.args.self.now.batches.threshold c.args.self.now.packets)) 0 c.args.i)) c.requires.0, omega arith, c.requires.1, rw (none, div-one (number_of (one_in c.args.self.now.words.now) c.args.i word_bits)) c.window-enters.ensures, rw (none, div-one (number_of (behind (one_in c.args.self.now.words.now) c.args.self.now.batches.size) c.args.i word_bits)) c.gone-leaves.ensures)

pub slide-requires : goal.slide-requires
slide-requires g c =
    let long : length c.loop-next.out ≡ length c.args.out.now = filling_length _ _ _ _ _ _ _ _ _ c.loop-next.invariant.0 in
    let steps : (c.loop-next.next - c.args.i < word_bits) × (c.args.i + (c.loop-next.next - c.args.i) ≡ c.loop-next.next) = let inv = c.loop-next.invariant in let pre = c.requires in (omega (arith, inv.1, pre.3), omega (arith, inv.1)) in
    let leaves_now : c.loop-next.leaves % 2 ≡ bit (behind (one_in c.args.self.now.words.now) c.args.self.now.batches.size c.loop-next.next) = let a = c.args in
    bit_here (behind (one_in a.self.now.words.now) a.self.now.batches.size) a.i (c.loop-next.next - a.i) _ steps.0 c.loop-next.invariant.4
    ∙ ap (λ (k : ℕ). bit (behind (one_in a.self.now.words.now) a.self.now.batches.size k)) steps.1 in
    let f = c.loop-next.invariant.0 in
    (omega (arith, long, f.room, c.requires.2), leaves_now, slid_some _ _ _ _ _ _ _ _ _ f, marks_lost _ _ _ _ _ _ _ _ _ f)

pub overflow_add-held : goal.overflow_add-held
overflow_add-held g c =
    let few_left : c.slide.result ≤ c.loop-next.next = rw c.slide.ensures (slid_small _ _ _ _ _ _ _ _ _ c.loop-next.invariant.0) in
    omega (arith, few_left)

pub overflow_sub-out : goal.overflow_sub-out
overflow_sub-out g c = omega (arith, c.kept-left.ensures)

pub overflow_cast-out : goal.overflow_cast-out
overflow_cast-out g c =
    let steps : (c.loop-next.next - c.args.i < word_bits) × (c.args.i + (c.loop-next.next - c.args.i) ≡ c.loop-next.next) = let inv = c.loop-next.invariant in let pre = c.requires in (omega (arith, inv.1, pre.3), omega (arith, inv.1)) in
    let enters_now : c.loop-next.enters % 2 ≡ bit (one_in c.args.self.now.words.now c.loop-next.next) = let a = c.args in
    bit_here (one_in a.self.now.words.now) a.i (c.loop-next.next - a.i) _ steps.0 c.loop-next.invariant.3 ∙ ap (λ (k : ℕ). bit (one_in a.self.now.words.now k)) steps.1 in
    let turned : let mark = c.slide.result + c.loop-next.enters % 2 - c.kept-left.result in (mark ≤ 1) × Filling (one_in c.args.self.now.words.now) c.args.self.now.batches.size c.args.self.now.batches.threshold c.args.self.now.packets c.args.out.now (set c.loop-next.out c.loop-next.next mark) c.kept-left.result (count (marked (plan_of (one_in c.args.self.now.words.now) c.args.self.now.batches.size c.args.self.now.batches.threshold c.args.self.now.packets)) 0 c.args.i + c.loop-next.marks + mark) (c.loop-next.next + 1) = enters_any _ _ _ _ _ _ _ _ _ c.loop-next.invariant.0 _ c.slide.ensures (omega (arith, c.requires.2)) _ _ enters_now c.kept-left.ensures in
    omega (arith, turned.0)

pub bounds-out-next : goal.bounds-out-next
bounds-out-next g c =
    let long : length c.loop-next.out ≡ length c.args.out.now = filling_length _ _ _ _ _ _ _ _ _ c.loop-next.invariant.0 in
    omega (arith, long, c.loop-next.invariant.0.room, c.requires.2)

pub overflow_sub-marks : goal.overflow_sub-marks
overflow_sub-marks g c = omega (arith, c.kept-left.ensures)

pub overflow_add-marks : goal.overflow_add-marks
overflow_add-marks g c =
    let few_marks : c.loop-next.marks ≤ c.loop-next.next = omega (arith, filling_small _ _ _ _ _ _ _ _ _ c.loop-next.invariant.0) in
    let steps : (c.loop-next.next - c.args.i < word_bits) × (c.args.i + (c.loop-next.next - c.args.i) ≡ c.loop-next.next) = let inv = c.loop-next.invariant in let pre = c.requires in (omega (arith, inv.1, pre.3), omega (arith, inv.1)) in
    let enters_now : c.loop-next.enters % 2 ≡ bit (one_in c.args.self.now.words.now c.loop-next.next) = let a = c.args in
    bit_here (one_in a.self.now.words.now) a.i (c.loop-next.next - a.i) _ steps.0 c.loop-next.invariant.3 ∙ ap (λ (k : ℕ). bit (one_in a.self.now.words.now k)) steps.1 in
    let turned : let mark = c.slide.result + c.loop-next.enters % 2 - c.kept-left.result in (mark ≤ 1) × Filling (one_in c.args.self.now.words.now) c.args.self.now.batches.size c.args.self.now.batches.threshold c.args.self.now.packets c.args.out.now (set c.loop-next.out c.loop-next.next mark) c.kept-left.result (count (marked (plan_of (one_in c.args.self.now.words.now) c.args.self.now.batches.size c.args.self.now.batches.threshold c.args.self.now.packets)) 0 c.args.i + c.loop-next.marks + mark) (c.loop-next.next + 1) = enters_any _ _ _ _ _ _ _ _ _ c.loop-next.invariant.0 _ c.slide.ensures (omega (arith, c.requires.2)) _ _ enters_now c.kept-left.ensures in
    omega (arith, few_marks, turned.0)

pub loop-next-preserved : goal.loop-next-preserved
loop-next-preserved g c =
    let steps : (c.loop-next.next - c.args.i < word_bits) × (c.args.i + (c.loop-next.next - c.args.i) ≡ c.loop-next.next) = let inv = c.loop-next.invariant in let pre = c.requires in (omega (arith, inv.1, pre.3), omega (arith, inv.1)) in
    let enters_now : c.loop-next.enters % 2 ≡ bit (one_in c.args.self.now.words.now c.loop-next.next) = let a = c.args in
    bit_here (one_in a.self.now.words.now) a.i (c.loop-next.next - a.i) _ steps.0 c.loop-next.invariant.3 ∙ ap (λ (k : ℕ). bit (one_in a.self.now.words.now k)) steps.1 in
    let turned : let mark = c.slide.result + c.loop-next.enters % 2 - c.kept-left.result in (mark ≤ 1) × Filling (one_in c.args.self.now.words.now) c.args.self.now.batches.size c.args.self.now.batches.threshold c.args.self.now.packets c.args.out.now (set c.loop-next.out c.loop-next.next mark) c.kept-left.result (count (marked (plan_of (one_in c.args.self.now.words.now) c.args.self.now.batches.size c.args.self.now.batches.threshold c.args.self.now.packets)) 0 c.args.i + c.loop-next.marks + mark) (c.loop-next.next + 1) = enters_any _ _ _ _ _ _ _ _ _ c.loop-next.invariant.0 _ c.slide.ensures (omega (arith, c.requires.2)) _ _ enters_now c.kept-left.ensures in
    let l = c.loop-next in (
      rw (← add_assoc _ l.marks (c.slide.result + l.enters % 2 - c.kept-left.result)) turned.1,
      omega (arith, l.invariant.1),
      omega arith,
      later (one_in c.args.self.now.words.now) c.args.i l.next _ l.invariant.1 l.invariant.3,
      later (behind (one_in c.args.self.now.words.now) c.args.self.now.batches.size) c.args.i l.next _ l.invariant.1 l.invariant.4,
    )

pub shape_of-out : goal.shape_of-out
shape_of-out g c =
    let long : length c.loop-next.out ≡ length c.args.out.now = filling_length _ _ _ _ _ _ _ _ _ c.loop-next.invariant.0 in
    long

pub returns : goal.returns
returns g c = let l = c.loop-next in let end : l.next ≡ c.args.end = omega (arith, l.invariant.2) in rw (← end) l.invariant.0
