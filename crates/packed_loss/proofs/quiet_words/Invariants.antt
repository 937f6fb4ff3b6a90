-- `packed_loss::quiet_words` meets its contract: the invariant is `Quiet`. Assumes nothing.
use Rattle.packed_loss.specs.Steps.{Quiet}
use Rattle.packed_loss.proofs.quiet_words.Given as goal

abbrev pub invariant-loop-q : goal.invariant-loop-q
invariant-loop-q l = Quiet l.w l.from l.q
