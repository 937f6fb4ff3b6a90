-- The loop of `listing::list_blocks`: a walk beside the table, with the page. Assumes nothing.
use Rattle.listing.specs.Room.{Roomy}
use Rattle.listing.proofs.Walking.{Walk}
use Rattle.listing.proofs.list_blocks.Given as goal

abbrev pub invariant-loop-k : goal.invariant-loop-k
invariant-loop-k g l = Walk l.s l.table l.count l.k × Roomy l.page
