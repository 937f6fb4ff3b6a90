-- `packed_loss::Packed::first_losses` meets its contract: the invariant is `Part`, a word a turn. Assumes nothing.
use Prim.Native.Nat.{◌*◌}
use Rattle.batch.proofs.Loops.{Part}
use Rattle.packed.specs.Words.{word_bits, one_in}
use Rattle.packed_loss.proofs.PackedForm.first_losses.Given as goal

abbrev pub invariant-loop-k : goal.invariant-loop-k
invariant-loop-k l = Part (one_in l.self.words.now) l.batches.size 0 l.losses (word_bits * l.k)
