-- `batch::first_over` meets its contract. The invariant of both loops is `Under`, from the first batch on. Assumes nothing.
use Prim.Native.Nat.{◌-◌}
use mathlib.Core.Path.{◌≡◌}
use Rattle.std.specs.Prelude.{None}
use Rattle.batch.proofs.Loops.{Under}
use Rattle.batch.proofs.first_over.Given as goal

abbrev pub invariant-loop-k : goal.invariant-loop-k
invariant-loop-k g l = Under (g.F.Form.lost l.form) (g.F.Form.extent l.form) l.batches.size l.batches.threshold 0 l.losses l.k × (l.first ≡ None)

abbrev pub invariant-batches : goal.invariant-batches
invariant-batches g l = Under (g.F.Form.lost l.form) (g.F.Form.extent l.form) l.batches.size l.batches.threshold 0 l.losses l.start × (l.first ≡ None)

abbrev pub decreases-batches : goal.decreases-batches
decreases-batches g l = l.last - l.start
