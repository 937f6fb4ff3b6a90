-- `survey::spread` meets its contract. The loop's invariant is `Spread`. Assumes nothing.
use Rattle.survey.proofs.Spreading.{Spread}
use Rattle.survey.proofs.spread.Given as goal

abbrev pub invariant-loop-i : goal.invariant-loop-i
invariant-loop-i l = Spread l.initial.out l.count l.out l.i
