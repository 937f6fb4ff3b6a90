-- `trace::counted` meets its contract: the test as a bit. Assumes nothing.
use mathlib.Core.Path.{ap, ◌∙◌}
use Rattle.trace.specs.Sum.{bit}
use Rattle.trace.proofs.Sums.{bool_bit}
use Rattle.trace.proofs.counted.Goals as goal

pub returns : goal.returns
returns c = bool_bit _ ∙ ap bit c.counts.ensures
