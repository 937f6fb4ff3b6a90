-- `chunk::all_null` meets its contract. Assumes nothing.
use mathlib.Core.Path.{◌≡◌}
use mathlib.Core.Bool.{◌&&◌}
use Prim.Native.Nat.{◌+◌, ◌*◌}
use lib.ListN.{drop}
use Rattle.chunk.specs.Chunks.{covers, chunks_in}
use Rattle.chunk.proofs.all_null.Given as goal

abbrev pub invariant-loop-k : goal.invariant-loop-k
invariant-loop-k l = covers 0 (chunks_in (drop l.i l.chunks)) ≡ (l.null && covers 0 (chunks_in (drop (l.i + 2 * l.k) l.chunks)))
