-- `trace::in_range` meets its contract. Assumes nothing.
use mathlib.Core.Path.{refl}
use Rattle.trace.specs.Trace.{packets_within}
use Rattle.trace.proofs.in_range.Goals as goal

pub returns : goal.returns
unfolding packets_within
returns c = refl
