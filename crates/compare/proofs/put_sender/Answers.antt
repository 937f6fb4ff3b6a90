-- `compare::put_sender` meets its contract: nothing, or one entry. Assumes nothing.
use borrow.Author.Tests.{eq-eqb, ne_eqb}
use Rattle.difference.proofs.Writing.{adds_none}
use Rattle.compare.proofs.put_sender.Goals as goal

pub returns-then-a-b : goal.returns-then-a-b
returns-then-a-b c = rw (eq-eqb _ _ c.if-a-b.true) (adds_none _ _)

pub returns : goal.returns
returns c = rw (ne_eqb _ _ c.if-a-b.false) c.put.ensures
