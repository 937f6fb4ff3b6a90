-- `packed_loss::Packed::first_losses` meets its contract: the invariant is `Part`, a word a turn. Assumes nothing.
use Prim.Native.Nat.{ℕ, ◌+◌, ◌*◌, ◌/◌, ◌%◌, min}
use mathlib.Core.Path.{◌≡◌, ap, ◌∙◌}
use native.Mathlib.Omega.{arith}
use Rattle.batch.proofs.Loops.{Part, part_none, part_add, part_small, part_all}
use Rattle.trace.specs.Sum.{count}
use Rattle.packed.specs.Words.{word_bits, one_at, one_in}
use Rattle.packed.proofs.Counts.{window_count}
use Rattle.packed_loss.proofs.PackedForm.first_losses.Goals as goal

pub loop-k-init : goal.loop-k-init
loop-k-init c = part_none _ _ _

pub overflow_add-losses : goal.overflow_add-losses
overflow_add-losses c =
    let turned : Part (one_in c.args.self.now.words.now) c.args.batches.size 0 (c.loop-k.losses + c.ones-losses.result) (word_bits * c.loop-k.k + word_bits) =
    part_add _ _ _ _ _ c.loop-k.invariant word_bits _ (word_bits * c.loop-k.k) (omega arith) (omega arith)
    (c.ones-losses.ensures ∙ ap (λ (x : ℕ). count (one_at x) 0 word_bits) c.window.ensures ∙ window_count (one_in c.args.self.now.words.now) (word_bits * c.loop-k.k) word_bits (omega arith))
    in
    omega (arith, turned.within, part_small _ _ _ _ _ turned, c.requires)

pub loop-k-preserved : goal.loop-k-preserved
loop-k-preserved c =
    let next : word_bits * (c.loop-k.k + 1) ≡ word_bits * c.loop-k.k + word_bits = omega arith in
    rw next
    (part_add _ _ _ _ _ c.loop-k.invariant word_bits _ (word_bits * c.loop-k.k) (omega arith) (omega arith)
    (c.ones-losses.ensures ∙ ap (λ (x : ℕ). count (one_at x) 0 word_bits) c.window.ensures ∙ window_count (one_in c.args.self.now.words.now) (word_bits * c.loop-k.k) word_bits (omega arith)))

pub overflow_add-result : goal.overflow_add-result
overflow_add-result c =
    let end : c.loop-k.k ≡ c.args.batches.size / word_bits = omega arith in
    let here = rw end at c.loop-k.invariant in
    let rest : ℕ = c.args.batches.size % word_bits in
    let few : min rest word_bits ≡ rest = omega arith in
    let whole = part_add _ _ _ _ _ here rest _ (word_bits * (c.args.batches.size / word_bits)) (omega arith) (omega arith)
    (c.ones_among.ensures ∙ ap (count (one_in c.args.self.now.words.now) (word_bits * (c.args.batches.size / word_bits))) few) in
    omega (arith, whole.within, part_small _ _ _ _ _ whole, c.requires)

pub returns : goal.returns
returns c =
    let end : c.loop-k.k ≡ c.args.batches.size / word_bits = omega arith in
    let here = rw end at c.loop-k.invariant in
    let rest : ℕ = c.args.batches.size % word_bits in
    let few : min rest word_bits ≡ rest = omega arith in
    let whole = part_add _ _ _ _ _ here rest _ (word_bits * (c.args.batches.size / word_bits)) (omega arith) (omega arith)
    (c.ones_among.ensures ∙ ap (count (one_in c.args.self.now.words.now) (word_bits * (c.args.batches.size / word_bits))) few) in
    part_all _ _ _ _ _ whole (omega arith)
