-- What the private functions are given and answer, for their contracts.
use Rattle.std.specs.Prelude.{ℕ, zero, suc, ◌+◌, ◌-◌, Bool, ◌&&◌, List, leb, set}
use Rattle.trace.specs.Sum.{count}
use Rattle.resend.specs.Plans.{marked}
use Rattle.resend.specs.Greedy.{plan_of}
use Rattle.resend.specs.Steps.{Filling}

-- a loss stands b before packet i
unfoldable pub behind : (ℕ → Bool) → ℕ → ℕ → Bool
behind lost b i = leb b i && lost (i - b)

-- a buffer with 0 at n places from i on
unfoldable pub cleared : List ℕ → ℕ → ℕ → List ℕ
cleared out i zero = out
cleared out i (suc n) = set (cleared out i n) (i + n) 0

-- the plan of the packets before packet i stands in a buffer, and `left` is what it leaves among the last b of them
abbrev pub Standing : (ℕ → Bool) → ℕ → ℕ → ℕ → List ℕ → ℕ → ℕ → Type 0
Standing lost b t e out left i = Filling lost b t e out out left (count (marked (plan_of lost b t e)) 0 i) i
