-- `trace::has_bad` meets its contract. The loop's invariant is `Asked`. Assumes nothing.
use native.Mathlib.Omega.{arith}
use Rattle.trace.proofs.Judging.{asked_none, asked_more, asked_all}
use Rattle.trace.proofs.has_bad.Goals as goal

pub loop-packet-init : goal.loop-packet-init
loop-packet-init c = asked_none _ _

pub loop-packet-preserved : goal.loop-packet-preserved
loop-packet-preserved c = asked_more _ _ _ _ c.loop-packet.invariant (omega arith)

pub returns : goal.returns
returns c = asked_all _ _ _ _ c.loop-packet.invariant (omega arith)
