-- `packed_plan::Packed::fill_each` meets its contract. The loop's invariant is `Filling`.
-- Assumes nothing.
use Prim.Native.Nat.{◌+◌, ◌-◌, ◌/◌, ◌^◌, ◌≤◌}
use mathlib.Core.Path.{◌≡◌}
use Rattle.trace.specs.Sum.{count}
use Rattle.resend.specs.Plans.{marked}
use Rattle.resend.specs.Greedy.{plan_of}
use Rattle.resend.specs.Steps.{Filling}
use Rattle.packed.specs.Words.{word_bits, one_in, number_of}
use Rattle.packed_plan.specs.Steps.{behind}
use Rattle.packed_plan.proofs.Packed.fill_each.Given as goal

abbrev pub invariant-loop-next : goal.invariant-loop-next
invariant-loop-next g l = Filling (one_in l.self.words.now) l.self.batches.size l.self.batches.threshold l.self.packets l.initial.out l.out l.left (count (marked (plan_of (one_in l.self.words.now) l.self.batches.size l.self.batches.threshold l.self.packets)) 0 l.i + l.marks) l.next
    × (l.i ≤ l.next) × (l.next ≤ l.end)
    × (l.enters ≡ number_of (one_in l.self.words.now) l.i word_bits / 2 ^ (l.next - l.i)) × (l.leaves ≡ number_of (behind (one_in l.self.words.now) l.self.batches.size) l.i word_bits / 2 ^ (l.next - l.i))
