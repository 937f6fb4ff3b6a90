-- `packed_loss::any_one` meets its contract: the invariant is `Over`. Assumes nothing.
use Rattle.packed_loss.proofs.Settling.{Over}
use Rattle.packed_loss.proofs.any_one.Given as goal

abbrev pub invariant-loop-word : goal.invariant-loop-word
invariant-loop-word l = Over l.w l.from l.any l.word-index
