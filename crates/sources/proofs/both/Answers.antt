-- `sources::both` meets its contract: a turn takes a block of each packet. Assumes nothing.
use mathlib.Core.Path.{sym, ◌∙◌}
use Rattle.std.proofs.Common.{rules}
use Rattle.frame.proofs.Parting.{first_part}
use Rattle.sources.proofs.Gathering.{stand_start, stand_on}
use Rattle.sources.proofs.both.Goals as goal

pub loop-x-init : goal.loop-x-init
loop-x-init c =
    let zipped = c.zip-x-items.ensures in
    record {
      first_stands = stand_start _ _ c.requires.0;
      second_stands = stand_start _ _ c.requires.1;
      first_ahead = rw (c.into_iter-x-iterator.ensures.into_iter_gives, zipped.first) c.blocks_from.ensures;
      second_ahead = rw (c.into_iter-x-iterator.ensures.into_iter_gives, zipped.second) c.blocks_from-second_blocks.ensures;
      can = search rules;
      finite = search rules;
    }

pub loop-x-preserved : goal.loop-x-preserved
loop-x-preserved c =
    let old = c.loop-x.invariant in
    let steps = c.in-Some.ensures.steps in
    let x = first_part _ _ _ _ (sym steps.0 ∙ old.first_ahead) in
    let y = first_part _ _ _ _ (sym steps.1 ∙ old.second_ahead) in
    record {
      first_stands = rw c.past-one.ensures.at (stand_on _ _ _ _ old.first_stands _ _ x _ _ c.past-one.ensures.count c.past-one.ensures.table);
      second_stands = rw c.past-two.ensures.at (stand_on _ _ _ _ old.second_stands _ _ y _ _ c.past-two.ensures.count c.past-two.ensures.table);
      first_ahead = rw c.past-one.ensures.at x.after;
      second_ahead = rw c.past-two.ensures.at y.after;
      can = search rules;
      finite = search rules;
    }
