-- `trace::counts` meets its contract, one event after the other. Assumes nothing.
use Rattle.trace.specs.Trace.{counts_as}
use Rattle.trace.proofs.counts.Goals as goal

pub returns-in-Lost : goal.returns-in-Lost
unfolding counts_as
returns-in-Lost c = rw c.in-Lost.is

pub returns-in-Discarded : goal.returns-in-Discarded
unfolding counts_as
returns-in-Discarded c = rw c.in-Discarded.is

pub returns-in-Either : goal.returns-in-Either
unfolding counts_as
returns-in-Either c = rw c.in-Either.is
