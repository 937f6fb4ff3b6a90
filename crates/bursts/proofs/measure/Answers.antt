-- `bursts::measure` meets its contract: what sound sums have is what the figures ask for. Assumes nothing.
use mathlib.Core.Path.{sym, ◌∙◌}
use Rattle.bursts.proofs.Soundness.{measurable}
use Rattle.bursts.proofs.measure.Goals as goal

pub rate-requires : goal.rate-requires
rate-requires c = (measurable _ (sym c.sound.ensures ∙ c.if-not-sound.false)).in_bursts

pub overflow_sub-s : goal.overflow_sub-s
overflow_sub-s c = (measurable _ (sym c.sound.ensures ∙ c.if-not-sound.false)).events

pub overflow_sub-s-2 : goal.overflow_sub-s-2
overflow_sub-s-2 c = (measurable _ (sym c.sound.ensures ∙ c.if-not-sound.false)).packets

pub rate-requires-2 : goal.rate-requires-2
rate-requires-2 c = (measurable _ (sym c.sound.ensures ∙ c.if-not-sound.false)).in_gaps
