-- `dials::needle_at` meets its contract: the machine's quotient is the position. Assumes nothing.
use mathlib.Core.Path.{sym, ap, ◌∙◌}
use native.Mathlib.Omega.{arith}
use Rattle.dials.specs.declared.Needle.TheVariants.{Lit}
use Rattle.dials.proofs.Value.{divided}
use Rattle.dials.proofs.Panels.{lit, unlit}
use Rattle.dials.proofs.needle_at.Goals as goal

pub returns-then-rate-gt-RATE_MAX : goal.returns-then-rate-gt-RATE_MAX
returns-then-rate-gt-RATE_MAX c = sym (unlit _ (omega arith))

pub returns : goal.returns
returns c = ap Lit (divided _ (omega arith)) ∙ sym (lit _ (omega arith))
