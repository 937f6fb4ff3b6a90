-- `block::flag_good` meets its contract: the definition is the two tests joined. Assumes nothing.
use Rattle.std.proofs.Common.{refl}
use Rattle.block.specs.Reading.{flag_good}
use Rattle.block.proofs.flag_good.Goals as goal

pub returns : goal.returns
unfolding flag_good
returns c = refl
