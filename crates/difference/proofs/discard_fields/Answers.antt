-- `difference::discard_fields` meets its contract: four places. Assumes nothing.
use mathlib.Core.Path.{refl}
use Rattle.block.specs.Types.{discard_type}
use Rattle.difference.proofs.Comparing.{places_both, sized, other_size}
use Rattle.difference.proofs.discard_fields.Goals as goal

pub returns-then-x-ne-DISCARD_SIZE : goal.returns-then-x-ne-DISCARD_SIZE
returns-then-x-ne-DISCARD_SIZE c = other_size _ _ _ discard_type c.if-x-ne-DISCARD_SIZE.true

pub returns : goal.returns
returns c =
    sized _ _ _ discard_type c.if-x-ne-DISCARD_SIZE.false
    (places_both refl
    (places_both refl
    (places_both refl c.add_flag-n.ensures c.add_word-n.ensures)
    c.add_half-n.ensures)
    c.add_half.ensures)
