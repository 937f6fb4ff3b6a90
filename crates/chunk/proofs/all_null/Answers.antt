-- `chunk::all_null` meets its contract. Assumes nothing.
use Prim.Native.Nat.{ℕ, ◌+◌, ◌*◌}
use mathlib.Core.Path.{◌≡◌}
use Rattle.chunk.proofs.Counting.{null_so_far, null_all}
use native.Mathlib.Omega.{arith}
use Rattle.chunk.proofs.all_null.Goals as goal

pub loop-k-init : goal.loop-k-init
loop-k-init c = let start : c.args.i + 2 * 0 ≡ c.args.i = omega arith in rw start

pub loop-k-preserved : goal.loop-k-preserved
loop-k-preserved c =
    let at : ℕ = c.args.i + 2 * c.loop-k.k in
    let next : c.args.i + 2 * (c.loop-k.k + 1) ≡ at + 2 = omega arith in
    rw next (null_so_far c.args.chunks.now c.args.i at c.pair_at.result c.loop-k.null c.loop-k.invariant (omega arith) c.pair_at.ensures)

pub returns : goal.returns
returns c = null_all c.args.chunks.now c.args.i (c.args.i + 2 * c.loop-k.k) c.loop-k.null c.loop-k.invariant (omega arith)
