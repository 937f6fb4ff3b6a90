-- `difference::add_half` meets its contract: one place. Assumes nothing.
use Rattle.difference.specs.Places.{half}
use Rattle.difference.proofs.Comparing.{place_added}
use Rattle.difference.proofs.add_half.Goals as goal

pub returns : goal.returns
returns c = place_added (half _) c.u16_at.ensures c.u16_at-2.ensures c.add_field.ensures
