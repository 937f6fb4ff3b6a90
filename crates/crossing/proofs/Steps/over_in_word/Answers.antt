-- `crossing::Steps::over_in_word` meets its contract: each return is one of the ways to settle 64 batches. Assumes nothing.
use mathlib.Core.Path.{sym}
use native.Mathlib.Omega.{arith}
use Rattle.trace.proofs.Sums.{count_most}
use Rattle.packed.specs.Words.{word_bits, one_at}
use Rattle.crossing.proofs.Levels.{none_crosses, all_cross}
use Rattle.crossing.proofs.Steps.over_in_word.Goals as goal

pub overflow_add-losses : goal.overflow_add-losses
overflow_add-losses c = omega (arith, c.ones.ensures, count_most (one_at c.args.self.entering) 0 word_bits, c)

pub returns-then-losses-ones : goal.returns-then-losses-ones
returns-then-losses-ones c = let a = c.args.self in sym (none_crosses a.threshold a.losses a.entering a.leaving word_bits (omega (arith, c.ones.ensures)))

pub overflow_add-threshold : goal.overflow_add-threshold
overflow_add-threshold c = omega (arith, c.ones-2.ensures, count_most (one_at c.args.self.leaving) 0 word_bits, c)

pub returns-then-threshold-ones : goal.returns-then-threshold-ones
returns-then-threshold-ones c = let a = c.args.self in sym (all_cross a.threshold a.losses a.entering a.leaving word_bits (omega (arith, c.ones-2.ensures)))
