-- `batch::Bytes::losses_among` meets its contract: so few losses fit a byte. The loop's invariant is `Part`. Assumes nothing.
use Prim.Native.Nat.{ℕ, ◌≤◌}
use mathlib.Core.Path.{ap, ◌∙◌}
use native.Mathlib.Omega.{arith}
use Rattle.trace.specs.Sum.{bit}
use Rattle.trace.specs.Trace.{counts_as}
use Rattle.trace.proofs.Sums.{bit_le}
use Rattle.batch.proofs.Loops.{part_none, part_more, part_small, part_all, part_length, part_at}
use Rattle.batch.proofs.Bytes.losses_among.Goals as goal

pub loop-packet-init : goal.loop-packet-init
loop-packet-init c = part_none _ _ _

pub overflow_cast-losses : goal.overflow_cast-losses
overflow_cast-losses c = let one : c.counted.result ≤ 1 = rw c.counted.ensures (bit_le _) in omega arith

pub overflow_add-losses : goal.overflow_add-losses
overflow_add-losses c =
    let one : c.counted.result ≤ 1 = rw c.counted.ensures (bit_le _) in
    omega (arith, part_small _ _ _ _ _ c.loop-packet.invariant, c.loop-packet.invariant.within)

pub loop-packet-preserved : goal.loop-packet-preserved
loop-packet-preserved c =
    let a = c.args in
    let l = c.loop-packet in
    part_more _ _ _ _ _ l.invariant (omega (arith, part_length a.self.now.trace.now a.i a.n)) _
    (c.counted.ensures ∙ ap (λ (p : ℕ). bit (counts_as a.self.now.event p)) (part_at a.self.now.trace.now a.i a.n l.packet-index (omega (arith, part_length a.self.now.trace.now a.i a.n))))

pub overflow_cast-result : goal.overflow_cast-result
overflow_cast-result c = omega (arith, part_small _ _ _ _ _ c.loop-packet.invariant)

pub returns : goal.returns
returns c = part_all _ _ _ _ _ c.loop-packet.invariant (omega (arith, part_length c.args.self.now.trace.now c.args.i c.args.n))
