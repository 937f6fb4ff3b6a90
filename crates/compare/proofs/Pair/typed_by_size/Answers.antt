-- `compare::Pair::typed_by_size` meets its contract: the arms are the cases of Both.antt. Assumes nothing.
use Prim.Native.Nat.{ℕ}
use mathlib.Core.Path.{◌≡◌}
use native.Mathlib.Omega.{arith}
use Rattle.compare.proofs.Both.{measurements, effectives, streams}
use Rattle.compare.proofs.Pair.typed_by_size.Goals as goal

pub returns-then-kind-y : goal.returns-then-kind-y
returns-then-kind-y c e = let z : ◌≡◌ {A = ℕ} 0 1 = cc in absurd (omega arith)

pub returns-then-x-y : goal.returns-then-x-y
returns-then-x-y c e = let z : ◌≡◌ {A = ℕ} 0 1 = cc in absurd (omega arith)

pub returns-in-14 : goal.returns-in-14
returns-in-14 c e = measurements _ _ c.args.self.some c.args.self.other_some c.if-kind-y.false c.if-x-y.false c.in-14.is e

pub returns-in-240 : goal.returns-in-240
returns-in-240 c e = effectives _ _ c.args.self.some c.args.self.other_some c.if-kind-y.false c.if-x-y.false c.in-240.is e

pub returns-in-241 : goal.returns-in-241
returns-in-241 c e = streams _ _ c.args.self.some c.args.self.other_some c.if-kind-y.false c.if-x-y.false c.in-241.is e

pub returns-in_default : goal.returns-in_default
returns-in_default c e = let z : ◌≡◌ {A = ℕ} 0 1 = cc in absurd (omega arith)
