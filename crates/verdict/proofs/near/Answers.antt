-- `verdict::near` meets its contract: all of the table, or a part of it between two numbers that x stands between. Assumes nothing.
use Prim.Native.Nat.{◌-◌, ◌*◌, ◌≤◌}
use native.Mathlib.Omega.{arith}
use lib.ListN.{length}
use Rattle.verdict.proofs.Searching.{search_between, share}
use Rattle.verdict.proofs.near.Goals as goal

pub returns : goal.returns
returns c =
    let far : (length c.args.table.now - 64) * c.args.x ≤ 4294967296 * (length c.args.table.now - 64) = share (length c.args.table.now - 64) c.args.x (omega arith) in
    search_between _ _ _ 63 (omega arith) (omega (arith, far)) (omega arith) (omega arith)
