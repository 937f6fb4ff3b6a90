-- `packing::flags` meets its contract: each arm is a case of the definition, masked. Assumes nothing.
use Rattle.packing.specs.Steps.{brought}
use Rattle.packing.proofs.Counted.{and_ones}
use Rattle.packing.proofs.flags.Goals as goal

pub returns-in-Lost : goal.returns-in-Lost
unfolding brought
returns-in-Lost c = rw c.in-Lost.is (and_ones _)

pub returns-in-Discarded : goal.returns-in-Discarded
unfolding brought
returns-in-Discarded c = rw c.in-Discarded.is (and_ones _)

pub returns-in-Either : goal.returns-in-Either
unfolding brought
returns-in-Either c = rw c.in-Either.is (and_ones _)
