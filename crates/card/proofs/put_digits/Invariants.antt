-- `card::put_digits` meets its contract. The loop's invariant is `Put`. Assumes nothing.
use Rattle.card.proofs.Loops.{Put}
use Rattle.card.proofs.put_digits.Given as goal

abbrev pub invariant-loop-i : goal.invariant-loop-i
invariant-loop-i l = Put l.initial.part l.n l.part l.rest l.i
