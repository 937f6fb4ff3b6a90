-- `packing::put_bits` meets its contract. The loop's invariant is `Placing`. Assumes nothing.
use mathlib.Core.Path.{◌≡◌, refl}
use native.Mathlib.Omega.{arith}
use lib.ListN.{length}
use Rattle.packed.specs.Words.{one_at}
use Rattle.packing.proofs.Placing.{placing_none, placing_long, placing_one, placing_all}
use Rattle.packing.proofs.Words.{bytes_fronts, bit_more}
use Rattle.packing.proofs.put_bits.Goals as goal

pub loop-j-init : goal.loop-j-init
loop-j-init c = placing_none _ (bytes_fronts (one_at c.args.word)) _ _ _ (omega arith)

pub bounds-out-at : goal.bounds-out-at
bounds-out-at c =
    let long : length c.loop-j.out ≡ length c.args.out.now = placing_long _ (bytes_fronts _) _ _ _ _ _ c.loop-j.invariant in
    omega (arith, long)

pub loop-j-preserved : goal.loop-j-preserved
loop-j-preserved c = placing_one _ (bytes_fronts _) _ _ _ _ _ c.loop-j.invariant _ _ (omega arith) refl (bit_more _ _)

pub shape_of-out : goal.shape_of-out
shape_of-out c =
    let long : length c.loop-j.out ≡ length c.args.out.now = placing_long _ (bytes_fronts _) _ _ _ _ _ c.loop-j.invariant in
    long

pub returns : goal.returns
returns c = placing_all _ (bytes_fronts (one_at c.args.word)) _ _ _ _ _ c.loop-j.invariant (omega arith)
