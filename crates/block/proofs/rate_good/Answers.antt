-- `block::rate_good` meets its contract: the definition is the two tests joined. Assumes nothing.
use Rattle.std.proofs.Common.{refl}
use Rattle.block.specs.Reading.{rate_good}
use Rattle.block.proofs.rate_good.Goals as goal

pub returns : goal.returns
unfolding rate_good
returns c = refl
