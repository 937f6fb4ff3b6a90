-- `frame::walk` meets its contract. The loop's invariant is `Walk`. Assumes nothing.
use mathlib.Core.Logic.{inl, inr}
use native.Mathlib.Omega.{arith}
use Rattle.frame.proofs.Walking.{walk_past, walk_on, walk_end}
use Rattle.frame.proofs.walk.Goals.{then-count-index, else-count-index}
use Rattle.frame.proofs.walk.Goals as goal

pub returns-then-end-next : goal.returns-then-end-next
returns-then-end-next c = rw (← c.min-end.ensures) (walk_past _ _ _ _ _ _ _ c.loop-at.invariant (omega arith) (omega (arith, c.next_block-next.ensures)))

pub loop-at-preserved : goal.loop-at-preserved
loop-at-preserved c =
    walk_on _ _ _ _ _ _ _ c.loop-at.invariant _ _ (omega arith) c.next_block-next.ensures (omega arith)
    (elim c.if-count-index.branch [ then-count-index w ↦ inl (w.if-count-index.true, w.found-is) | else-count-index w ↦ inr (w.if-count-index.false, w.found-is) ])

pub returns : goal.returns
returns c = rw (← c.min-end.ensures) (walk_end _ _ _ _ _ _ _ c.loop-at.invariant (omega arith))
