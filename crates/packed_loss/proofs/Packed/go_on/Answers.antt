-- `packed_loss::Packed::go_on` meets its contract. The loop's invariant is `Tallied`. Assumes nothing.
use Prim.Native.Nat.{ℕ, ◌+◌, ◌-◌}
use mathlib.Core.Path.{refl, sym, ap₂, ◌∙◌}
use native.Mathlib.Omega.{arith}
use Rattle.batch.proofs.Loops.{Tallied, tallied_none, tallied_small}
use Rattle.packed.specs.Words.{one_in}
use Rattle.refusal.proofs.Tests.{and_left}
use Rattle.packed_loss.proofs.Settling.{tallied_settled, true_false, walked, not_stopped}
use Rattle.packed_loss.proofs.Packed.go_on.Goals as goal

pub overflow_sub-last : goal.overflow_sub-last
overflow_sub-last c = omega (arith, c.requires.1.within)

pub loop-start-init : goal.loop-start-init
loop-start-init c = (tallied_none _ _ _ _ _ _ c.requires.1.held, omega (arith, c.requires.1.within), λ h. refl)

pub overflow_add-start : goal.overflow_add-start
overflow_add-start c = omega (arith, c.requires.0.most)

pub settle-next-requires : goal.settle-next-requires
settle-next-requires c = (c.requires.0, record { within = omega arith; held = c.loop-start.invariant.0.losses }, omega arith)

pub overflow_add-over : goal.overflow_add-over
overflow_add-over c =
    let turned : Tallied (one_in c.args.self.now.words.now) c.args.batches.size c.args.batches.threshold c.args.from.start (c.args.self.now.packets - c.args.batches.size) (c.loop-start.over + c.settle-next.result.over) c.settle-next.result.losses c.settle-next.result.start = tallied_settled _ _ _ _ _ _ _ _ _ _ _ c.loop-start.invariant.0 c.settle-next.ensures in
    omega (arith, tallied_small _ _ _ _ _ _ _ _ turned, c.requires.0.most, c.settle-next.ensures.within)

pub loop-start-smaller : goal.loop-start-smaller
loop-start-smaller c = omega (arith, c.settle-next.ensures.onward)

pub loop-start-preserved : goal.loop-start-preserved
loop-start-preserved c =
    let turned : Tallied (one_in c.args.self.now.words.now) c.args.batches.size c.args.batches.threshold c.args.from.start (c.args.self.now.packets - c.args.batches.size) (c.loop-start.over + c.settle-next.result.over) c.settle-next.result.losses c.settle-next.result.start = tallied_settled _ _ _ _ _ _ _ _ _ _ _ c.loop-start.invariant.0 c.settle-next.ensures in
    let l = c.loop-start in
    (turned, omega (arith, c.settle-next.ensures.within), λ on. ap₂ (λ (x y : ℕ). x + y) (l.invariant.2 on) (not_stopped _ _ c.if-stop-next.false on))

pub returns-after-loop-start : goal.returns-after-loop-start
returns-after-loop-start c = let l = c.loop-start in walked _ _ _ _ _ _ _ _ _ l.invariant.0 (omega (arith, l.invariant.1, c.requires.0.within)) l.invariant.2 (λ off. omega arith)

pub returns-then-stop-next : goal.returns-then-stop-next
returns-then-stop-next c = let l = c.loop-start in walked _ _ _ _ _ _ _ _ _ l.invariant.0 (omega (arith, l.invariant.1, c.requires.0.within)) l.invariant.2 (λ off. absurd (true_false (sym (and_left _ _ c.if-stop-next.true) ∙ off)))
