-- `difference::add_word` meets its contract: one place. Assumes nothing.
use Rattle.difference.specs.Places.{word}
use Rattle.difference.proofs.Comparing.{place_added}
use Rattle.difference.proofs.add_word.Goals as goal

pub returns : goal.returns
returns c = place_added (word _) c.u32_at.ensures c.u32_at-2.ensures c.add_field.ensures
