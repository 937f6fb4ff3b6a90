-- `difference::add_flag` meets its contract: one place. Assumes nothing.
use mathlib.Core.Path.{refl}
use native.Mathlib.Omega.{arith}
use Rattle.difference.specs.Places.{flag}
use Rattle.difference.proofs.Comparing.{place_added}
use Rattle.difference.proofs.add_flag.Goals as goal

pub overflow_cast-x : goal.overflow_cast-x
overflow_cast-x c = omega (arith, c.type_inv.x 1)

pub overflow_cast-y : goal.overflow_cast-y
overflow_cast-y c = omega (arith, c.type_inv.y 1)

pub returns : goal.returns
returns c = place_added flag refl refl c.add_field.ensures
