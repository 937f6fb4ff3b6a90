-- `block::read` meets its contract: each arm's type picks one reader of `read_block`, and the last arm has none of
-- the six. Assumes nothing.
use Rattle.std.proofs.Common.{ne_eqb}
use Rattle.block.specs.Reading.{read_block}
use Rattle.block.proofs.read.Goals as goal

pub returns-in-1 : goal.returns-in-1
unfolding read_block
returns-in-1 c = rw c.in-1.is c.read_rle.ensures

pub returns-in-14 : goal.returns-in-14
unfolding read_block
returns-in-14 c = rw c.in-14.is c.read_measurement.ensures

pub returns-in-17 : goal.returns-in-17
unfolding read_block
returns-in-17 c = rw c.in-17.is c.read_loss.ensures

pub returns-in-18 : goal.returns-in-18
unfolding read_block
returns-in-18 c = rw c.in-18.is c.read_discard.ensures

pub returns-in-240 : goal.returns-in-240
unfolding read_block
returns-in-240 c = rw c.in-240.is c.read_effective.ensures

pub returns-in-241 : goal.returns-in-241
unfolding read_block
returns-in-241 c = rw c.in-241.is c.read_streams.ensures

pub returns-in_default : goal.returns-in_default
unfolding read_block
returns-in_default c =
    let rest = c.in_default.in_default-own.rest in
    rw (ne_eqb _ _ rest.0.0.0.0.0.1, ne_eqb _ _ rest.0.0.0.0.1, ne_eqb _ _ rest.0.0.0.1, ne_eqb _ _ rest.0.0.1, ne_eqb _ _ rest.0.1, ne_eqb _ _ rest.1)
