-- `packed::window` meets its contract: 64 packets out of one word or two. Assumes nothing.
use Prim.Native.Nat.{◌/◌}
use native.Mathlib.Omega.{arith}
use Rattle.packed.specs.Words.{word_bits}
use Rattle.packed.proofs.Windows.{window_past, window_aligned, window_last, window_both}
use Rattle.packed.proofs.window.Goals as goal

pub returns-then-words-word-2 : goal.returns-then-words-word-2
returns-then-words-word-2 c = window_past _ _ (omega arith)

pub returns-then-words-word : goal.returns-then-words-word
returns-then-words-word c = let a = c.args in window_last a.words.now a.i (omega (arith, c.type_inv.words (a.i / word_bits))) (omega arith)

pub returns-then-skipped-eq0 : goal.returns-then-skipped-eq0
returns-then-skipped-eq0 c = let a = c.args in window_aligned a.words.now a.i (omega (arith, c.type_inv.words (a.i / word_bits))) (omega arith)

pub returns : goal.returns
returns c = let a = c.args in window_both a.words.now a.i (omega (arith, c.type_inv.words (a.i / word_bits)))
