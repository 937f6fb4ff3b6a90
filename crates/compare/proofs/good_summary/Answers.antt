-- `compare::good_summary` meets its contract: the size and the test are what it asks. Assumes nothing.
use Prim.Native.Nat.{ℕ}
use mathlib.Core.Path.{◌≡◌, sym, ap₂, ◌∙◌}
use native.Mathlib.Omega.{arith}
use lib.ListN.{get_or}
use Rattle.block.specs.Layouts.{flag_in}
use Rattle.block.specs.Reading.{summary_good}
use Rattle.compare.proofs.good_summary.Goals as goal

pub returns-then-z-size : goal.returns-then-z-size
returns-then-z-size c e = let z : ◌≡◌ {A = ℕ} 0 1 = cc in absurd (omega arith)

pub returns : goal.returns
returns c e =
    record {
      long = c.if-z-size.false;
      good = sym (c.summary_good.ensures ∙ ap₂ (λ (burst gap : ℕ). summary_good (flag_in (get_or c.args.z.now 1 0)) burst gap) c.u16_at.ensures c.u16_at-2.ensures) ∙ e;
    }
