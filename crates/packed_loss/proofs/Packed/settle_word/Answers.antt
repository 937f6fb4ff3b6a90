-- `packed_loss::Packed::settle_word` meets its contract. Assumes nothing.
use Prim.Native.Nat.{◌+◌, ◌-◌, ◌≤◌}
use native.Mathlib.Omega.{arith}
use Rattle.trace.proofs.Sums.{count_most}
use Rattle.packed.specs.Words.{word_bits, one_at, one_in}
use Rattle.packed_loss.specs.Steps.{Settled}
use Rattle.packed_loss.proofs.Settling.{settled_word}
use Rattle.packed_loss.proofs.Packed.settle_word.Goals as goal

pub overflow_cast-steps-2 : goal.overflow_cast-steps-2
overflow_cast-steps-2 c =
    let small : c.args.from.losses ≤ c.args.batches.size = omega (arith, c.requires.1.held, count_most (one_in c.args.self.now.words.now) c.args.from.start c.args.batches.size) in
    omega (arith, small)

pub overflow_add-result-2 : goal.overflow_add-result-2
overflow_add-result-2 c =
    let small : c.args.from.losses ≤ c.args.batches.size = omega (arith, c.requires.1.held, count_most (one_in c.args.self.now.words.now) c.args.from.start c.args.batches.size) in
    omega (arith, small, c.ones.ensures, count_most (one_at c.window-entering.result) 0 word_bits)

pub overflow_sub-result : goal.overflow_sub-result
overflow_sub-result c =
    let stride : (c.ones-2.result ≤ c.args.from.losses + c.ones.result) × Settled (one_in c.args.self.now.words.now) c.args.self.now.packets c.args.batches.size c.args.batches.threshold c.args.from.start c.over_in_word.result (c.args.from.start + word_bits) (c.args.from.losses + c.ones.result - c.ones-2.result) = settled_word _ _ _ _ _ _ c.requires.1.held _ _ _ _ _ c.requires.2 c.window-entering.ensures c.window-leaving.ensures
    c.over_in_word.ensures c.ones.ensures c.ones-2.ensures in
    stride.0

pub returns : goal.returns
returns c =
    let stride : (c.ones-2.result ≤ c.args.from.losses + c.ones.result) × Settled (one_in c.args.self.now.words.now) c.args.self.now.packets c.args.batches.size c.args.batches.threshold c.args.from.start c.over_in_word.result (c.args.from.start + word_bits) (c.args.from.losses + c.ones.result - c.ones-2.result) = settled_word _ _ _ _ _ _ c.requires.1.held _ _ _ _ _ c.requires.2 c.window-entering.ensures c.window-leaving.ensures
    c.over_in_word.ensures c.ones.ensures c.ones-2.ensures in
    stride.1
