-- `packed_plan::Packed::fill` meets its contract. The loop's invariant is `Filling`. Assumes nothing.
use Prim.Native.Nat.{◌+◌}
use native.Mathlib.Omega.{arith}
use Rattle.resend.specs.Steps.{Filling}
use Rattle.resend.proofs.Filling.{filling_none, filling_length, filling_small, filling_all}
use Rattle.packed.specs.Words.{word_bits, one_in}
use Rattle.packed_plan.proofs.Strides.{standing, onward}
use Rattle.packed_plan.proofs.Packed.fill.Goals as goal

pub loop-i-init : goal.loop-i-init
loop-i-init c = filling_none _ _ _ _ _ c.args.self.now.least c.requires

pub overflow_add-i : goal.overflow_add-i
overflow_add-i c = omega (arith, c.loop-i.invariant.within, c.args.self.now.most)

pub fill_word-next-requires : goal.fill_word-next-requires
fill_word-next-requires c = (standing _ _ _ _ _ _ _ _ _ c.loop-i.invariant, omega arith)

pub overflow_add-marks : goal.overflow_add-marks
overflow_add-marks c =
    let turned : Filling (one_in c.args.self.now.words.now) c.args.self.now.batches.size c.args.self.now.batches.threshold c.args.self.now.packets c.args.out.now c.fill_word-next.new.out c.fill_word-next.result.left (c.loop-i.marks + c.fill_word-next.result.marks) (c.loop-i.i + word_bits) = onward _ _ _ _ _ _ _ _ _ c.loop-i.invariant _ _ _ _ (omega arith) c.fill_word-next.ensures in
    omega (arith, filling_small _ _ _ _ _ _ _ _ _ turned, c.args.self.now.most)

pub loop-i-preserved : goal.loop-i-preserved
loop-i-preserved c =
    let turned : Filling (one_in c.args.self.now.words.now) c.args.self.now.batches.size c.args.self.now.batches.threshold c.args.self.now.packets c.args.out.now c.fill_word-next.new.out c.fill_word-next.result.left (c.loop-i.marks + c.fill_word-next.result.marks) (c.loop-i.i + word_bits) = onward _ _ _ _ _ _ _ _ _ c.loop-i.invariant _ _ _ _ (omega arith) c.fill_word-next.ensures in
    turned

pub fill_each-rest-requires : goal.fill_each-rest-requires
fill_each-rest-requires c = let inv = c.loop-i.invariant in (standing _ _ _ _ _ _ _ _ _ inv, inv.within, omega arith, omega arith)

pub overflow_add-result : goal.overflow_add-result
overflow_add-result c =
    let whole : Filling (one_in c.args.self.now.words.now) c.args.self.now.batches.size c.args.self.now.batches.threshold c.args.self.now.packets c.args.out.now c.fill_each-rest.new.out c.fill_each-rest.result.left (c.loop-i.marks + c.fill_each-rest.result.marks) c.args.self.now.packets = onward _ _ _ _ _ _ _ _ _ c.loop-i.invariant _ _ _ _ c.loop-i.invariant.within c.fill_each-rest.ensures in
    omega (arith, filling_small _ _ _ _ _ _ _ _ _ whole, c.args.self.now.most)

pub shape_of-out : goal.shape_of-out
shape_of-out c =
    let whole : Filling (one_in c.args.self.now.words.now) c.args.self.now.batches.size c.args.self.now.batches.threshold c.args.self.now.packets c.args.out.now c.fill_each-rest.new.out c.fill_each-rest.result.left (c.loop-i.marks + c.fill_each-rest.result.marks) c.args.self.now.packets = onward _ _ _ _ _ _ _ _ _ c.loop-i.invariant _ _ _ _ c.loop-i.invariant.within c.fill_each-rest.ensures in
    filling_length _ _ _ _ _ _ _ _ _ whole

pub returns : goal.returns
returns c =
    let whole : Filling (one_in c.args.self.now.words.now) c.args.self.now.batches.size c.args.self.now.batches.threshold c.args.self.now.packets c.args.out.now c.fill_each-rest.new.out c.fill_each-rest.result.left (c.loop-i.marks + c.fill_each-rest.result.marks) c.args.self.now.packets = onward _ _ _ _ _ _ _ _ _ c.loop-i.invariant _ _ _ _ c.loop-i.invariant.within c.fill_each-rest.ensures in
    let told = filling_all _ _ _ _ _ _ _ _ _ whole (omega arith) in record { count = told.0; buffer = told.1 }
