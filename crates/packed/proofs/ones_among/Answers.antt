-- `packed::ones_among` meets its contract: the ones of a whole window, or of its front. Assumes nothing.
use Prim.Native.Nat.{ℕ, ◌-◌, ◌*◌, ◌%◌, ◌^◌, min}
use mathlib.Core.Path.{◌≡◌, sym, ap, ◌∙◌}
use native.Mathlib.Omega.{arith}
use lib.Bits.{bit_and}
use Rattle.trace.specs.Sum.{count}
use Rattle.packed.specs.Words.{word_bits, one_at, one_in}
use Rattle.packed.proofs.Counts.{window_count, front_count}
use Rattle.packed.proofs.ones_among.Goals as goal

pub returns-then-n-ge-WORD : goal.returns-then-n-ge-WORD
returns-then-n-ge-WORD c =
    let a = c.args in
    let all : min a.n word_bits ≡ word_bits = omega arith in
    c.ones.ensures ∙ ap (λ (x : ℕ). count (one_at x) 0 word_bits) c.window.ensures
    ∙ window_count (one_in a.words.now) a.i word_bits (omega arith) ∙ ap (count (one_in a.words.now) a.i) (sym all)

pub returns : goal.returns
returns c =
    let a = c.args in
    let few : min a.n word_bits ≡ a.n = omega arith in
    c.ones-2.ensures ∙ ap (λ (x : ℕ). count (one_at (bit_and x (1 * 2 ^ a.n % 2 ^ 64 - 1))) 0 word_bits) c.window-2.ensures
    ∙ front_count (one_in a.words.now) a.i a.n (omega arith) ∙ ap (count (one_in a.words.now) a.i) (sym few)
