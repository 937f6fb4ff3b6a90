-- `compare::list` meets its contract: the senders, then the walk of Walking.antt. Assumes nothing.
use Prim.Native.Nat.{◌+◌, ◌-◌}
use lib.ListN.{length}
use Rattle.compare.proofs.Walking.{Standing}
use Rattle.compare.proofs.list.Given as goal

abbrev pub invariant-loop-at : goal.invariant-loop-at
invariant-loop-at l = Standing l.first l.second l.sources.first.now l.sources.second.now l.initial.out l.out l.initial.n l.at l.bt l.k l.n

abbrev pub decreases-loop-at : goal.decreases-loop-at
decreases-loop-at l = length l.first - l.at + (length l.second - l.bt)
