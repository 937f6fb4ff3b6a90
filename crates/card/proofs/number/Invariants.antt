-- `card::number` meets its contract. The loop's invariant is `Taken`; at most 18 digits, so the number fits.
-- Assumes nothing.
use Rattle.card.proofs.Loops.{Taken}
use Rattle.card.proofs.number.Given as goal

abbrev pub invariant-loop-b : goal.invariant-loop-b
invariant-loop-b l = Taken l.s l.n l.b-index
