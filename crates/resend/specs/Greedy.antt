-- The plan that is answered, packet by packet: a loss is marked exactly when t unmarked losses already
-- stand among the b - 1 packets before it. That it is demand 3's plan is the law `PlanBest`.
use Rattle.std.specs.Prelude.{ℕ, zero, suc, ◌-◌, Bool, ◌&&◌, List, [], ◌∷◌, ◌++◌, leb}
use Rattle.trace.specs.Sum.{bit, count}
use Rattle.resend.specs.Plans.{left}

-- where the b - 1 packets before packet i begin, fewer at the front of the trace
abbrev pub window_at : ℕ → ℕ → ℕ
window_at b i = suc i - b

-- the losses without a mark among the b - 1 packets before packet i
unfoldable pub recent : (ℕ → Bool) → ℕ → List ℕ → ℕ → ℕ
recent lost b p i = count (left lost p) (window_at b i) (i - window_at b i)

-- the rule for packet i, after the plan p of the packets before it
abbrev pub to_mark : (ℕ → Bool) → ℕ → ℕ → List ℕ → ℕ → Bool
to_mark lost b t p i = lost i && leb t (recent lost b p i)

-- the plan of the first n packets
unfoldable pub plan_of : (ℕ → Bool) → ℕ → ℕ → ℕ → List ℕ
plan_of lost b t zero = []
plan_of lost b t (suc i) = plan_of lost b t i ++ (bit (to_mark lost b t (plan_of lost b t i) i) ∷ [])
