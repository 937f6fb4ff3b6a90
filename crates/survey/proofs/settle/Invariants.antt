-- `survey::settle` meets its contract. The loop's invariant is `Settle`. Assumes nothing.
use Rattle.survey.proofs.Settling.{Settle}
use Rattle.survey.proofs.settle.Given as goal

abbrev pub invariant-loop-i : goal.invariant-loop-i
invariant-loop-i l = Settle l.s l.initial.out l.count l.out l.i
