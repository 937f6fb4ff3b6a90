-- `sources::finish` meets its contract: a walk to the end, and the sources sorted. Assumes nothing.
use mathlib.Core.Path.{refl, sym, ◌∙◌}
use native.Mathlib.Omega.{arith}
use Rattle.frame.proofs.Parting.{first_part, no_part}
use Rattle.sources.proofs.Gathering.{stand_past, stand_on, stand_end}
use Rattle.sources.proofs.finish.Goals as goal

pub loop-bytes-preserved : goal.loop-bytes-preserved
loop-bytes-preserved c =
    let old = c.loop-bytes.invariant in
    let part = first_part _ _ _ _ (sym c.in-Some.ensures.steps ∙ old.ahead) in
    record {
      standing = rw c.past-place.ensures.at (stand_on _ _ _ _ old.standing _ _ part _ _ c.past-place.ensures.count c.past-place.ensures.table);
      ahead = rw c.past-place.ensures.at part.after;
      long = c.past-place.auto.table ∙ old.long;
    }

pub returns-then-place-s : goal.returns-then-place-s
returns-then-place-s c =
    let over = no_part _ _ (sym c.loop-bytes.invariant.ahead ∙ c.in-None.ensures.steps.0) in
    record { at = c.loop-bytes.place.at; past_at = stand_past _ _ _ _ c.loop-bytes.invariant.standing (omega arith) over; is = refl }

pub returns : goal.returns
returns c = stand_end _ _ _ _ c.loop-bytes.invariant.standing (omega arith) _ c.sort.ensures.sorted c.sort.ensures.permuted
