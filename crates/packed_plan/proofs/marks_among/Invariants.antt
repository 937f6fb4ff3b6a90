-- `packed_plan::marks_among` meets its contract. Assumes nothing.
use Prim.Native.Nat.{◌≤◌}
use mathlib.Core.Path.{◌≡◌}
use lib.ListN.{get_or}
use Rattle.trace.specs.Sum.{sum}
use Rattle.packed_plan.proofs.marks_among.Given as goal

abbrev pub invariant-loop-mark : goal.invariant-loop-mark
invariant-loop-mark l = (l.mark-index ≤ l.n) × (l.marks ≡ sum (λ p. get_or l.plan p 0) l.i l.mark-index)
