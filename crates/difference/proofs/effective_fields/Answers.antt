-- `difference::effective_fields` meets its contract: two places. Assumes nothing.
use mathlib.Core.Path.{refl}
use Rattle.block.specs.Types.{effective_type}
use Rattle.difference.proofs.Comparing.{places_both, sized, other_size}
use Rattle.difference.proofs.effective_fields.Goals as goal

pub returns-then-x-ne-EFFECTIVE_SIZE : goal.returns-then-x-ne-EFFECTIVE_SIZE
returns-then-x-ne-EFFECTIVE_SIZE c = other_size _ _ _ effective_type c.if-x-ne-EFFECTIVE_SIZE.true

pub returns : goal.returns
returns c =
    sized _ _ _ effective_type c.if-x-ne-EFFECTIVE_SIZE.false
    (places_both refl c.add_word-n.ensures c.add_half.ensures)
