-- `chunk::four_at` meets its contract. Assumes nothing.
use Prim.Native.Nat.{◌+◌}
use mathlib.Core.Path.{◌≡◌}
use native.Mathlib.Omega.{arith}
use Rattle.wire.specs.BigEndian.{be16}
use Rattle.chunk.specs.Steps.{four_at}
use Rattle.chunk.proofs.four_at.Goals as goal

pub returns : goal.returns
unfolding four_at be16
returns c =
    let i = c.args.i in
    let byte = c.type_inv.s in
    let three : i + 2 + 1 ≡ i + 3 = omega arith in
    let five : i + 4 + 1 ≡ i + 5 = omega arith in
    let seven : i + 6 + 1 ≡ i + 7 = omega arith in
    rw (three, five, seven) (
      omega arith,
      record {
        first = omega (arith, byte i, byte (i + 1));
        second = omega (arith, byte (i + 2), byte (i + 2 + 1));
        third = omega (arith, byte (i + 4), byte (i + 4 + 1));
        fourth = omega (arith, byte (i + 6), byte (i + 6 + 1));
      },
    )
