-- `packing::spread` meets its contract: a table of every eight bits. Assumes nothing.
use Prim.Native.Nat.{◌-◌, ◌≤◌}
use native.Mathlib.Omega.{arith}
use Rattle.packing.specs.Steps.{ones}
use Rattle.packing.proofs.Octets.{spread_out, spread_out_lem, spread_most, zeros_out}
use Rattle.packing.proofs.spread.Goals as goal

pub overflow_add-result : goal.overflow_add-result
overflow_add-result c =
    let most : spread_out (255 - c.args.bits) ≤ ones = rw (spread_out_lem (255 - c.args.bits) (omega arith)) (spread_most (255 - c.args.bits)) in
    omega (arith, most)

pub overflow_sub-result : goal.overflow_sub-result
overflow_sub-result c =
    let most : spread_out (255 - c.args.bits) ≤ ones = rw (spread_out_lem (255 - c.args.bits) (omega arith)) (spread_most (255 - c.args.bits)) in
    most

pub returns : goal.returns
returns c = zeros_out c.args.bits (omega arith)
