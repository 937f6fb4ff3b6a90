-- `packed::ones` meets its contract. Assumes nothing.
use native.Mathlib.Omega.{arith}
use Rattle.packed.proofs.Numbers.{ones_counted}
use Rattle.packed.proofs.ones.Goals as goal

pub returns : goal.returns
returns c = ones_counted c.args.word 64 (omega (arith, c.ranges))
