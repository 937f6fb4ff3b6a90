-- `packed_loss::Packed::go_on` meets its contract. The loop's invariant is `Tallied`. Assumes nothing.
use Prim.Native.Nat.{◌-◌, ◌≤◌}
use mathlib.Core.Path.{◌≡◌}
use mathlib.Core.Bool.{true}
use Rattle.batch.proofs.Loops.{Tallied}
use Rattle.packed.specs.Words.{one_in}
use Rattle.packed_loss.proofs.Packed.go_on.Given as goal

abbrev pub invariant-loop-start : goal.invariant-loop-start
invariant-loop-start l = Tallied (one_in l.self.words.now) l.batches.size l.batches.threshold l.initial.start l.last l.over l.losses l.start × (l.start ≤ l.last) × (l.stop ≡ true → l.over ≡ 0)

abbrev pub decreases-loop-start : goal.decreases-loop-start
decreases-loop-start l = l.last - l.start
