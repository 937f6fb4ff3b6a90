-- `packing::put_word` meets its contract. The loop's invariant is `Placing`, eight packets a turn. Assumes nothing.
use Prim.Native.Nat.{ℕ, ◌+◌, ◌*◌, ◌/◌, ◌%◌, ◌^◌}
use mathlib.Core.Path.{◌≡◌, refl}
use native.Mathlib.Omega.{arith}
use lib.ListN.{length}
use Rattle.packed.specs.Words.{one_at}
use Rattle.packed.proofs.Bytes.{length_bytes}
use Rattle.packing.proofs.Placing.{placing_none, placing_long, placing_more, placing_all}
use Rattle.packing.proofs.Words.{bytes_fronts, octet_more}
use Rattle.packing.proofs.put_word.Goals as goal

pub loop-j-init : goal.loop-j-init
loop-j-init c = placing_none _ (bytes_fronts (one_at c.args.word)) _ _ _ (omega arith)

pub put_eight-requires : goal.put_eight-requires
put_eight-requires c =
    let long : length c.loop-j.out ≡ length c.args.out.now = placing_long _ (bytes_fronts _) _ _ _ _ _ c.loop-j.invariant in
    (omega (arith, long), omega arith)

pub loop-j-preserved : goal.loop-j-preserved
loop-j-preserved c =
    let j : ℕ = c.loop-j.j in
    let word : ℕ = c.args.word in
    let next : 8 * (j + 1) ≡ 8 * j + 8 = omega arith in
    rw next
    (placing_more _ (bytes_fronts (one_at word)) _ _ _ _ _ c.loop-j.invariant _ _ 8 _ (omega arith) (length_bytes (one_at (word / 2 ^ (8 * j) % 256)) 0 8) refl
    (octet_more word (8 * j)) c.put_eight.ensures)

pub shape_of-out : goal.shape_of-out
shape_of-out c =
    let long : length c.loop-j.out ≡ length c.args.out.now = placing_long _ (bytes_fronts _) _ _ _ _ _ c.loop-j.invariant in
    long

pub returns : goal.returns
returns c = placing_all _ (bytes_fronts (one_at c.args.word)) _ _ _ _ _ c.loop-j.invariant (omega arith)
