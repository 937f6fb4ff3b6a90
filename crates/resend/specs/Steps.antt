-- What the private functions compute, for their contracts.
use Rattle.std.specs.Prelude.{ℕ, ◌+◌, ◌-◌, ◌≤◌, ◌≡◌, Bool, cond, List, ◌++◌, leb, length, take, drop}
use Rattle.trace.specs.Sum.{bit, count}
use Rattle.resend.specs.Plans.{marked, left}
use Rattle.resend.specs.Greedy.{plan_of}

-- `slide`: the loss without a mark, if it is one, that stands b packets before packet i
unfoldable pub leaving : (ℕ → Bool) → ℕ → List ℕ → ℕ → ℕ
leaving lost b p i = cond (leb b i) (bit (left lost p (i - b))) 0

-- `fill`, before packet i: the plan of the packets before it stands, then the buffer as it was; `running` is what is left among
-- the last b packets, `so_far` the number of marks.
pub record Filling (lost : ℕ → Bool) (b t e : ℕ) (old out : List ℕ) (running so_far i : ℕ) : Type 0 where
  pub least : 1 ≤ b
  pub within : i ≤ e
  pub room : e ≤ length old
  pub list : out ≡ take i (plan_of lost b t e) ++ drop i old
  pub window : count (left lost (plan_of lost b t e)) 0 i ≡ count (left lost (plan_of lost b t e)) 0 (i - b) + running
  pub counted : so_far ≡ count (marked (plan_of lost b t e)) 0 i
