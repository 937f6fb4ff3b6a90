-- `block::summary_good` meets its contract: the definition is the three tests joined. Assumes nothing.
use Rattle.block.specs.Reading.{summary_good}
use Rattle.block.proofs.summary_good.Goals as goal

pub returns : goal.returns
unfolding summary_good
returns c = cc
