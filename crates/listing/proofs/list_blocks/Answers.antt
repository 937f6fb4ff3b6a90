-- What is left of `listing::list_blocks`: in a turn the table has two more numbers, and a block stands at its place and fits.
-- Assumes nothing.
use Rattle.std.proofs.Common.{arith}
use Rattle.listing.proofs.Walking.{walk_start, walk_room, walk_fits, walk_verdict, walk_next, still_roomy, added_roomy}
use Rattle.listing.proofs.list_blocks.Goals as goal

pub loop-k-init : goal.loop-k-init
loop-k-init g c =
    (walk_start _ _ _ c.requires.0 c.requires.1, still_roomy _ _ _ c.put_head.ensures c.requires.2)

pub overflow_mul-k : goal.overflow_mul-k
overflow_mul-k g c = omega (arith, walk_room _ _ _ _ c.loop-k.invariant.0 c.loop-k-test.true)

pub offset_bounds-table-k : goal.offset_bounds-table-k
offset_bounds-table-k g c = omega (arith, walk_room _ _ _ _ c.loop-k.invariant.0 c.loop-k-test.true)

pub bounds-table-k : goal.bounds-table-k
bounds-table-k g c = omega (arith, walk_room _ _ _ _ c.loop-k.invariant.0 c.loop-k-test.true)

pub overflow_mul-k-in-loop-k : goal.overflow_mul-k-in-loop-k
overflow_mul-k-in-loop-k g c = omega (arith, walk_room _ _ _ _ c.loop-k.invariant.0 c.loop-k-test.true)

pub overflow_add-k : goal.overflow_add-k
overflow_add-k g c = omega (arith, walk_room _ _ _ _ c.loop-k.invariant.0 c.loop-k-test.true)

pub offset_bounds-table-k-in-loop-k : goal.offset_bounds-table-k-in-loop-k
offset_bounds-table-k-in-loop-k g c = omega (arith, walk_room _ _ _ _ c.loop-k.invariant.0 c.loop-k-test.true)

pub bounds-table-k-in-loop-k : goal.bounds-table-k-in-loop-k
bounds-table-k-in-loop-k g c = omega (arith, walk_room _ _ _ _ c.loop-k.invariant.0 c.loop-k-test.true)

pub put_line-requires : goal.put_line-requires
put_line-requires g c =
    (walk_fits _ _ _ _ c.loop-k.invariant.0 c.loop-k-test.true, walk_verdict _ _ _ _ c.loop-k.invariant.0 c.loop-k-test.true, c.in_ok-make_room.ensures.ok)

pub loop-k-preserved : goal.loop-k-preserved
loop-k-preserved g c =
    (walk_next _ _ _ _ c.loop-k.invariant.0 c.loop-k-test.true, added_roomy _ _ _ c.put_line.ensures c.in_ok-make_room.ensures.ok)
