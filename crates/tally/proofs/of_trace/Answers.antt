-- `tally::of_trace` meets its contract. The loop's invariant is `Running`. Assumes nothing.
use mathlib.Core.Path.{sym, ◌∙◌}
use native.Mathlib.Omega.{arith}
use Rattle.tally.proofs.Running.{running_bounded, running_more, of_start, of_all}
use Rattle.tally.proofs.of_trace.Goals as goal

pub loop-packet-init : goal.loop-packet-init
loop-packet-init c = of_start _ _ _ _ _ (sym c.open.ensures ∙ c.in_ok-tally.was) (sym c.judge.ensures ∙ c.in_ok-judge.was)

pub step-tally-requires : goal.step-tally-requires
step-tally-requires c = running_bounded _ _ _ _ _ _ c.loop-packet.invariant

pub loop-packet-preserved : goal.loop-packet-preserved
loop-packet-preserved c = running_more _ _ _ _ _ _ c.loop-packet.invariant _ (omega arith) c.step-tally.ensures

pub returns : goal.returns
returns c =
    of_all _ _ _ _ _ (sym c.open.ensures ∙ c.in_ok-tally.was) (sym c.judge.ensures ∙ c.in_ok-judge.was) _ _ c.loop-packet.invariant (omega arith)
