-- `chunk::count` meets its contract. The loop's invariant is `Counting`. Assumes nothing.
use lib.ListN.{length}
use Prim.Native.Nat.{◌-◌}
use Rattle.chunk.proofs.Counting.{Counting}
use Rattle.chunk.proofs.count.Given as goal

abbrev pub invariant-loop-left : goal.invariant-loop-left
invariant-loop-left l = Counting l.chunks l.packets l.left l.lost l.i l.since

abbrev pub decreases-loop-left : goal.decreases-loop-left
decreases-loop-left l = length l.chunks - l.i
