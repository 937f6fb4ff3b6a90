-- `verdict::quarter` meets its contract: the turns are those of Searching.antt. Assumes nothing.
use Rattle.verdict.specs.Search.{Search}
use Rattle.verdict.proofs.quarter.Given as goal

abbrev pub invariant-loop-size : goal.invariant-loop-size
invariant-loop-size l = Search l.table l.x l.low l.size

abbrev pub decreases-loop-size : goal.decreases-loop-size
decreases-loop-size l = l.size
