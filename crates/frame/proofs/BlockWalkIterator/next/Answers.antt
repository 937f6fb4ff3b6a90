-- The next block of a walk: the part at its place, and none where no whole block stands there. Assumes nothing.
use mathlib.Core.Path.{◌≡◌, ap}
use native.Mathlib.Omega.{arith}
use Rattle.std.proofs.Common.{ℕ, ◌<◌, List, length}
use Rattle.frame.proofs.Blocks.{block_next}
use Rattle.frame.proofs.Parting.{walk_ends, walk_fits, walk_goes}
use Rattle.frame.proofs.BlockWalkIterator.next.Goals as goal

pub returns-then-is_empty-clause-steps : goal.returns-then-is_empty-clause-steps
returns-then-is_empty-clause-steps c =
    let none : length c.block_at-bytes.result.now ≡ 0 = grind arith in
    let e = walk_ends _ _ _ c.block_at-bytes.ensures.part none in
    (e, e)

pub overflow_add-self : goal.overflow_add-self
overflow_add-self c =
    let some : 0 < length c.block_at-bytes.result.now = grind arith in
    let fits = walk_fits _ _ _ c.block_at-bytes.ensures.part some in
    omega (arith, fits, block_next _ _ _ fits c.block_at-bytes.ensures.part)

pub returns-clause-steps : goal.returns-clause-steps
returns-clause-steps c =
    let some : 0 < length c.block_at-bytes.result.now = grind arith in
    walk_goes _ _ _ c.block_at-bytes.ensures.part some

pub returns-clause-goes : goal.returns-clause-goes
returns-clause-goes c =
    let some : 0 < length c.block_at-bytes.result.now = grind arith in
    let fewer = ap (λ (l : List (List ℕ)). length l) (walk_goes _ _ _ c.block_at-bytes.ensures.part some) in
    grind (arith, fewer)
