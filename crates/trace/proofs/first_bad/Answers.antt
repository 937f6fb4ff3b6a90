-- `trace::first_bad` meets its contract: where no byte is above the highest, the search finds none. Assumes nothing.
use mathlib.Core.Path.{sym, ◌∙◌}
use Rattle.trace.proofs.Judging.{no_position}
use Rattle.trace.proofs.first_bad.Goals as goal

pub returns-then-not-has_bad : goal.returns-then-not-has_bad
returns-then-not-has_bad c = no_position _ _ (sym c.has_bad.ensures ∙ c.if-not-has_bad.true)
