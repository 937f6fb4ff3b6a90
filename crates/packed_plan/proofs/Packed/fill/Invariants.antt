-- `packed_plan::Packed::fill` meets its contract. The loop's invariant is `Filling`. Assumes nothing.
use Prim.Native.Nat.{◌-◌}
use Rattle.resend.specs.Steps.{Filling}
use Rattle.packed.specs.Words.{one_in}
use Rattle.packed_plan.proofs.Packed.fill.Given as goal

abbrev pub invariant-loop-i : goal.invariant-loop-i
invariant-loop-i l = Filling (one_in l.self.words.now) l.self.batches.size l.self.batches.threshold l.self.packets l.initial.out l.out l.left l.marks l.i

abbrev pub decreases-loop-i : goal.decreases-loop-i
decreases-loop-i l = l.self.packets - l.i
