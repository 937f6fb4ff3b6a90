-- `survey::mark` meets its contract. The loop's invariant is `Mark`, and that the walk stands at its place. Assumes nothing.
use mathlib.Core.Path.{sym, ◌∙◌}
use native.Mathlib.Omega.{arith}
use Rattle.frame.proofs.Parting.{first_part, no_part}
use Rattle.survey.proofs.Marking.{mark_start, mark_room, mark_on, mark_end}
use Rattle.survey.proofs.mark.Goals as goal

pub loop-bytes-init : goal.loop-bytes-init
loop-bytes-init c = record { marked = mark_start _ _ _ c.requires; ahead = rw c.into_iter-bytes-iterator.ensures.into_iter_gives c.blocks_from-bytes-items.ensures }

pub overflow_cast-out : goal.overflow_cast-out
overflow_cast-out c =
    let part = first_part _ _ _ _ (sym c.in-Some.ensures.steps ∙ c.loop-bytes.invariant.ahead) in
    omega (arith, part.fits, c.requires.short)

pub overflow_mul-out : goal.overflow_mul-out
overflow_mul-out c =
    let part = first_part _ _ _ _ (sym c.in-Some.ensures.steps ∙ c.loop-bytes.invariant.ahead) in
    omega (arith, part.fits, c.requires.short)

pub overflow_add-out : goal.overflow_add-out
overflow_add-out c =
    let part = first_part _ _ _ _ (sym c.in-Some.ensures.steps ∙ c.loop-bytes.invariant.ahead) in
    omega (arith, part.fits, c.requires.short, c.alone.type_inv)

pub bounds-out-i : goal.bounds-out-i
bounds-out-i c =
    let part = first_part _ _ _ _ (sym c.in-Some.ensures.steps ∙ c.loop-bytes.invariant.ahead) in
    let room = mark_room _ _ _ c.requires _ _ _ _ c.loop-bytes.invariant.marked (omega (arith, part.fits)) in
    omega (arith, room.0, c.requires.fits, c.loop-bytes.invariant.marked.long)

pub overflow_add-at : goal.overflow_add-at
overflow_add-at c =
    let part = first_part _ _ _ _ (sym c.in-Some.ensures.steps ∙ c.loop-bytes.invariant.ahead) in
    omega (arith, part.fits, part.long, c.requires.short)

pub loop-bytes-preserved : goal.loop-bytes-preserved
loop-bytes-preserved c =
    let part = first_part _ _ _ _ (sym c.in-Some.ensures.steps ∙ c.loop-bytes.invariant.ahead) in
    record {
      marked = mark_on _ _ _ c.requires _ _ _ _ c.loop-bytes.invariant.marked (omega (arith, part.fits)) _ part.is _ c.alone.ensures _ _ c.gather-k.ensures.count c.gather-k.ensures.table;
      ahead = part.after;
    }

pub returns : goal.returns
returns c = mark_end _ _ _ c.requires _ c.loop-bytes.at _ _ c.loop-bytes.invariant.marked (no_part _ _ (sym c.loop-bytes.invariant.ahead ∙ c.in-None.ensures.steps.0))
