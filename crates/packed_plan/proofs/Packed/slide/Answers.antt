-- `packed_plan::Packed::slide` meets its contract. Assumes nothing.
use Prim.Native.Nat.{◌-◌, ◌≤◌}
use mathlib.Core.Path.{◌≡◌}
use native.Mathlib.Omega.{arith}
use lib.ListN.{get_or}
use Rattle.trace.proofs.Sums.{bit_le}
use Rattle.packed.specs.Words.{one_in}
use Rattle.resend.specs.Steps.{leaving}
use Rattle.packed_plan.specs.Steps.{behind}
use Rattle.packed_plan.proofs.Leaving.{slides_by, slides_lost}
use Rattle.packed_plan.proofs.Packed.slide.Goals as goal

pub returns-then-gone-eq0 : goal.returns-then-gone-eq0
returns-then-gone-eq0 c = slides_by _ _ _ _ c.requires.3 _ (omega (arith, c.requires.1))

pub overflow_sub-at : goal.overflow_sub-at
overflow_sub-at c =
    let gone : (c.args.self.now.batches.size ≤ c.args.i) × (get_or c.args.plan.now (c.args.i - c.args.self.now.batches.size) 0 ≤ 1) × (leaving (one_in c.args.self.now.words.now) c.args.self.now.batches.size c.args.plan.now c.args.i ≡ 1 - get_or c.args.plan.now (c.args.i - c.args.self.now.batches.size) 0) = let a = c.args in
    slides_lost (one_in a.self.now.words.now) a.self.now.batches.size a.plan.now a.i c.requires.3 (omega (arith, c.requires.1, bit_le (behind (one_in a.self.now.words.now) a.self.now.batches.size a.i))) in
    gone.0

pub overflow_cast-result : goal.overflow_cast-result
overflow_cast-result c =
    let gone : (c.args.self.now.batches.size ≤ c.args.i) × (get_or c.args.plan.now (c.args.i - c.args.self.now.batches.size) 0 ≤ 1) × (leaving (one_in c.args.self.now.words.now) c.args.self.now.batches.size c.args.plan.now c.args.i ≡ 1 - get_or c.args.plan.now (c.args.i - c.args.self.now.batches.size) 0) = let a = c.args in
    slides_lost (one_in a.self.now.words.now) a.self.now.batches.size a.plan.now a.i c.requires.3 (omega (arith, c.requires.1, bit_le (behind (one_in a.self.now.words.now) a.self.now.batches.size a.i))) in
    omega (arith, gone)

pub overflow_sub-result : goal.overflow_sub-result
overflow_sub-result c =
    let gone : (c.args.self.now.batches.size ≤ c.args.i) × (get_or c.args.plan.now (c.args.i - c.args.self.now.batches.size) 0 ≤ 1) × (leaving (one_in c.args.self.now.words.now) c.args.self.now.batches.size c.args.plan.now c.args.i ≡ 1 - get_or c.args.plan.now (c.args.i - c.args.self.now.batches.size) 0) = let a = c.args in
    slides_lost (one_in a.self.now.words.now) a.self.now.batches.size a.plan.now a.i c.requires.3 (omega (arith, c.requires.1, bit_le (behind (one_in a.self.now.words.now) a.self.now.batches.size a.i))) in
    gone.1

pub overflow_sub-result-2 : goal.overflow_sub-result-2
overflow_sub-result-2 c =
    let gone : (c.args.self.now.batches.size ≤ c.args.i) × (get_or c.args.plan.now (c.args.i - c.args.self.now.batches.size) 0 ≤ 1) × (leaving (one_in c.args.self.now.words.now) c.args.self.now.batches.size c.args.plan.now c.args.i ≡ 1 - get_or c.args.plan.now (c.args.i - c.args.self.now.batches.size) 0) = let a = c.args in
    slides_lost (one_in a.self.now.words.now) a.self.now.batches.size a.plan.now a.i c.requires.3 (omega (arith, c.requires.1, bit_le (behind (one_in a.self.now.words.now) a.self.now.batches.size a.i))) in
    rw (← gone.2) c.requires.2

pub returns : goal.returns
returns c =
    let gone : (c.args.self.now.batches.size ≤ c.args.i) × (get_or c.args.plan.now (c.args.i - c.args.self.now.batches.size) 0 ≤ 1) × (leaving (one_in c.args.self.now.words.now) c.args.self.now.batches.size c.args.plan.now c.args.i ≡ 1 - get_or c.args.plan.now (c.args.i - c.args.self.now.batches.size) 0) = let a = c.args in
    slides_lost (one_in a.self.now.words.now) a.self.now.batches.size a.plan.now a.i c.requires.3 (omega (arith, c.requires.1, bit_le (behind (one_in a.self.now.words.now) a.self.now.batches.size a.i))) in
    rw gone.2
