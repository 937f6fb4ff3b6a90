-- `packed_loss::Packed::quiet_end` meets its contract. Assumes nothing.
use Prim.Native.Nat.{◌/◌}
use native.Mathlib.Omega.{arith}
use Rattle.packed.specs.Words.{word_bits}
use Rattle.packed_loss.specs.Steps.{Quiet}
use Rattle.packed_loss.proofs.Settling.{quiet_on, lost_quiet}
use Rattle.packed_loss.proofs.Packed.quiet_end.Goals as goal

pub returns : goal.returns
returns c =
    let a = c.args in
    let all : Quiet a.self.now.words.now (a.i / word_bits) c.quiet_words-end.result = quiet_on _ _ _ _ c.quiet_groups.ensures c.quiet_words-end.ensures in
    (omega (arith), λ j l m. lost_quiet a.self.now.words.now (a.i / word_bits) c.quiet_words-end.result a.i j all (omega arith) l (omega (arith)))
