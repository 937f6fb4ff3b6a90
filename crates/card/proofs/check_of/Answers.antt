-- `card::check_of` meets its contract: the remainder of the payload is enough. Assumes nothing.
use Rattle.card.proofs.Check.{check_of_mod}
use Rattle.card.proofs.check_of.Goals as goal

pub returns : goal.returns
returns c = check_of_mod c.args.payload
