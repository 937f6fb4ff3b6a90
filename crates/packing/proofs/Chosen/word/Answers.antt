-- `packing::Chosen::word` meets its contract. The word has the octets so far. Assumes nothing.
use Prim.Native.Nat.{ℕ, ◌+◌, ◌*◌, ◌%◌, ◌^◌}
use mathlib.Core.Path.{◌≡◌, sym, ap, ◌∙◌}
use native.Mathlib.Omega.{arith}
use Rattle.trace.specs.Trace.{counted_at}
use Rattle.packed.specs.Words.{word_bits, number_of}
use Rattle.packed.proofs.Numbers.{number_none}
use Rattle.packing.proofs.Words.{number_fits, number_more}
use Rattle.packing.proofs.Chosen.word.Goals as goal

pub loop-j-init : goal.loop-j-init
loop-j-init c = (omega arith, sym (number_none (counted_at c.args.self.now.event c.args.self.now.trace.now) c.args.i))

pub octet-requires : goal.octet-requires
octet-requires c = omega arith

pub overflow_add-word : goal.overflow_add-word
overflow_add-word c =
    let more : c.loop-j.word + c.octet.result * 2 ^ (8 * c.loop-j.j) % 2 ^ 64 ≡ number_of (counted_at c.args.self.now.event c.args.self.now.trace.now) c.args.i (8 * (c.loop-j.j + 1)) = let event = c.args.self.now.event in
    let s = c.args.self.now.trace.now in
    let i = c.args.i in
    let j = c.loop-j.j in
    let next : 8 * j + 8 ≡ 8 * (j + 1) = omega arith in
    ap (λ (w : ℕ). w + c.octet.result * 2 ^ (8 * j) % 2 ^ 64) c.loop-j.invariant.1
    ∙ number_more (counted_at event s) i (8 * j) 8 c.octet.result (omega arith) c.octet.ensures ∙ ap (number_of (counted_at event s) i) next in
    let start = c.args in omega (arith, more, number_fits (counted_at start.self.now.event start.self.now.trace.now) start.i (8 * (c.loop-j.j + 1)) (omega arith))

pub loop-j-preserved : goal.loop-j-preserved
loop-j-preserved c =
    let more : c.loop-j.word + c.octet.result * 2 ^ (8 * c.loop-j.j) % 2 ^ 64 ≡ number_of (counted_at c.args.self.now.event c.args.self.now.trace.now) c.args.i (8 * (c.loop-j.j + 1)) = let event = c.args.self.now.event in
    let s = c.args.self.now.trace.now in
    let i = c.args.i in
    let j = c.loop-j.j in
    let next : 8 * j + 8 ≡ 8 * (j + 1) = omega arith in
    ap (λ (w : ℕ). w + c.octet.result * 2 ^ (8 * j) % 2 ^ 64) c.loop-j.invariant.1
    ∙ number_more (counted_at event s) i (8 * j) 8 c.octet.result (omega arith) c.octet.ensures ∙ ap (number_of (counted_at event s) i) next in
    (omega arith, more)

pub returns : goal.returns
returns c =
    let end : 8 * c.loop-j.j ≡ word_bits = omega arith in
    c.loop-j.invariant.1 ∙ ap (number_of (counted_at c.args.self.now.event c.args.self.now.trace.now) c.args.i) end
