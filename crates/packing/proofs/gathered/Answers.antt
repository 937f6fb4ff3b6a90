-- `packing::gathered` meets its contract: a table of every eight bits. Assumes nothing.
use Rattle.packing.proofs.Octets.{gathered_in_lem}
use Rattle.packing.proofs.gathered.Goals as goal

pub returns : goal.returns
returns c = λ bits h is. rw is (gathered_in_lem bits h)
