-- `verdict::quarter` meets its contract: the turns are those of Searching.antt. Assumes nothing.
use Prim.Native.Nat.{◌+◌, ◌*◌, ◌/◌, ◌≤◌}
use mathlib.Core.Path.{refl}
use native.Mathlib.Omega.{arith}
use native.Mathlib.Nat.{lt_of_le_of_lt}
use Rattle.verdict.proofs.Searching.{quarter_few, quarter_fits, search_quarter}
use Rattle.verdict.proofs.quarter.Goals as goal

pub loop-size-init : goal.loop-size-init
loop-size-init c = c.near-part.ensures

pub overflow_add-low-in-loop-size-3 : goal.overflow_add-low-in-loop-size-3
overflow_add-low-in-loop-size-3 c =
    let few : c.at_most-first.result + c.at_most-second.result + c.at_most-third.result ≤ 3 = quarter_few _ _ _ _ _ _ _ _ c.loop-size.invariant (omega arith) refl c.at_most-first.ensures c.at_most-second.ensures c.at_most-third.ensures in
    omega (arith, few)

pub overflow_add-low-in-loop-size-4 : goal.overflow_add-low-in-loop-size-4
overflow_add-low-in-loop-size-4 c =
    let few : c.at_most-first.result + c.at_most-second.result + c.at_most-third.result ≤ 3 = quarter_few _ _ _ _ _ _ _ _ c.loop-size.invariant (omega arith) refl c.at_most-first.ensures c.at_most-second.ensures c.at_most-third.ensures in
    omega (arith, few)

pub overflow_mul-low : goal.overflow_mul-low
overflow_mul-low c =
    let fits : c.loop-size.size / 4 * (c.at_most-first.result + c.at_most-second.result + c.at_most-third.result) ≤ 3 * (c.loop-size.size / 4) = quarter_fits _ _ _ _ _ _ _ _ c.loop-size.invariant (omega arith) refl c.at_most-first.ensures c.at_most-second.ensures c.at_most-third.ensures in
    record { fits = lt_of_le_of_lt fits (omega (arith, c.loop-size.invariant.within)) }

pub overflow_add-low-in-loop-size-5 : goal.overflow_add-low-in-loop-size-5
overflow_add-low-in-loop-size-5 c =
    let fits : c.loop-size.size / 4 * (c.at_most-first.result + c.at_most-second.result + c.at_most-third.result) ≤ 3 * (c.loop-size.size / 4) = quarter_fits _ _ _ _ _ _ _ _ c.loop-size.invariant (omega arith) refl c.at_most-first.ensures c.at_most-second.ensures c.at_most-third.ensures in
    omega (arith, fits)

pub loop-size-preserved : goal.loop-size-preserved
loop-size-preserved c = search_quarter _ _ _ _ _ _ _ _ c.loop-size.invariant (omega arith) refl c.at_most-first.ensures c.at_most-second.ensures c.at_most-third.ensures

pub returns : goal.returns
returns c = (c.loop-size.invariant, omega arith)
