-- `block::judge_summary` meets its contract: each return is a line of the definition, by what the tests answered. Assumes nothing.
use Rattle.block.specs.Reading.{summary_read}
use Rattle.block.proofs.judge_summary.Goals as goal

pub returns-then-not-flag_good : goal.returns-then-not-flag_good
unfolding summary_read
returns-then-not-flag_good c = rw (← c.flag_good.ensures, c.if-not-flag_good.true)

pub returns-then-not-rates_good : goal.returns-then-not-rates_good
unfolding summary_read
returns-then-not-rates_good c = rw (← c.flag_good.ensures, c.if-not-flag_good.false, ← c.rates_good.ensures, c.if-not-rates_good.true)

pub returns : goal.returns
unfolding summary_read
returns c = rw (← c.flag_good.ensures, c.if-not-flag_good.false, ← c.rates_good.ensures, c.if-not-rates_good.false)
