-- `difference::add_field` meets its contract: nothing of two equal readings, else one difference. Assumes nothing.
use Rattle.difference.proofs.Comparing.{field_same, field_added}
use Rattle.difference.proofs.add_field.Goals as goal

pub returns-then-a-b : goal.returns-then-a-b
returns-then-a-b c = field_same c.if-a-b.true

pub returns : goal.returns
returns c = field_added c.if-a-b.false c.add.ensures
