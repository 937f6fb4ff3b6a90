-- `compose::judge_block` meets its contract: what 16 lets through, and what not. Assumes nothing.
use mathlib.Core.Path.{sym, ◌∙◌}
use Rattle.compose.proofs.judge_block.Goals as goal

pub returns-then-not-writable : goal.returns-then-not-writable
returns-then-not-writable c = rw (sym c.writable.ensures ∙ c.if-not-writable.true)

pub returns : goal.returns
returns c = rw (sym c.writable.ensures ∙ c.if-not-writable.false)
