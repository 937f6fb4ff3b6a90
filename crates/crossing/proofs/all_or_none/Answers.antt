-- `crossing::all_or_none` meets its contract. Assumes nothing.
use borrow.Author.Tests.{lt-ltb, le-ltb}
use Rattle.crossing.proofs.all_or_none.Goals as goal

pub returns-then-low-high : goal.returns-then-low-high
returns-then-low-high c = rw (lt-ltb _ _ c.if-low-high.true)

pub returns-else-low-high : goal.returns-else-low-high
returns-else-low-high c = rw (le-ltb _ _ c.if-low-high.false)
