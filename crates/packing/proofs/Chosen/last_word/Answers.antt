-- `packing::Chosen::last_word` meets its contract. The word has the packets so far. Assumes nothing.
use Prim.Native.Nat.{ℕ, ◌+◌, ◌-◌, ◌*◌, ◌%◌, ◌^◌}
use mathlib.Core.Path.{◌≡◌, sym, ap, ◌∙◌}
use native.Mathlib.Omega.{arith}
use lib.ListN.{length}
use Rattle.trace.specs.Trace.{counted_at}
use Rattle.trace.proofs.Events.{none_past}
use Rattle.packed.specs.Words.{word_bits, number_of}
use Rattle.packed.proofs.Numbers.{number_none, number_one}
use Rattle.packing.proofs.Words.{number_front, number_fits, number_more}
use Rattle.packing.proofs.Chosen.last_word.Goals as goal

pub loop-j-init : goal.loop-j-init
loop-j-init c = (omega arith, sym (number_none (counted_at c.args.self.now.event c.args.self.now.trace.now) c.args.i))

pub overflow_add-word : goal.overflow_add-word
overflow_add-word c =
    let more : c.loop-j.word + c.counted.result * 2 ^ c.loop-j.j % 2 ^ 64 ≡ number_of (counted_at c.args.self.now.event c.args.self.now.trace.now) c.args.i (c.loop-j.j + 1) = let a = c.args in
    let lost = counted_at a.self.now.event a.self.now.trace.now in
    let j = c.loop-j.j in
    ap (λ (w : ℕ). w + c.counted.result * 2 ^ j % 2 ^ 64) c.loop-j.invariant.1
    ∙ number_more lost a.i j 1 c.counted.result (omega arith) (c.counted.ensures ∙ sym (number_one lost (a.i + j))) in
    let a = c.args in omega (arith, more, number_fits (counted_at a.self.now.event a.self.now.trace.now) a.i (c.loop-j.j + 1) (omega arith))

pub loop-j-preserved : goal.loop-j-preserved
loop-j-preserved c =
    let more : c.loop-j.word + c.counted.result * 2 ^ c.loop-j.j % 2 ^ 64 ≡ number_of (counted_at c.args.self.now.event c.args.self.now.trace.now) c.args.i (c.loop-j.j + 1) = let a = c.args in
    let lost = counted_at a.self.now.event a.self.now.trace.now in
    let j = c.loop-j.j in
    ap (λ (w : ℕ). w + c.counted.result * 2 ^ j % 2 ^ 64) c.loop-j.invariant.1
    ∙ number_more lost a.i j 1 c.counted.result (omega arith) (c.counted.ensures ∙ sym (number_one lost (a.i + j))) in
    (omega arith, more)

pub returns : goal.returns
returns c =
    let a = c.args in
    let end : c.loop-j.j ≡ length a.self.now.trace.now - a.i = omega arith in
    c.loop-j.invariant.1
    ∙ sym (number_front (counted_at a.self.now.event a.self.now.trace.now) a.i c.loop-j.j word_bits (omega arith) (λ j h. none_past a.self.now.event a.self.now.trace.now j (omega arith)))
