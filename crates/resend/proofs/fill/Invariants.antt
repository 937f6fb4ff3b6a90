-- `resend::fill` meets its contract. The loop's invariant is `Filling`, and each arm is one of the two ways of a packet. Assumes nothing.
use lib.ListN.{length}
use Rattle.resend.specs.Steps.{Filling}
use Rattle.resend.proofs.fill.Given as goal

abbrev pub ghost-slide : goal.ghost-slide
ghost-slide g a = g.lost

abbrev pub invariant-loop-at : goal.invariant-loop-at
invariant-loop-at g l = Filling g.lost l.batches.size l.batches.threshold (length l.s) l.initial.out l.out l.left l.marks l.at
