-- What the variance is, as statements about the definitions that the calls promise: document 02, ticket 3. Proved in proofs/.
use Rattle.std.specs.Prelude.{ℕ, ◌+◌, ◌-◌, ◌*◌, ◌<◌, ◌≤◌, ◌≡◌, ◌↔◌, Bool, List, [], ◌∷◌, length}
use Rattle.bursts.specs.declared.Sums.{Sums}
use Rattle.bursts.specs.Groups.{events_at, Group, groups, bursts_of, lasts, square, total}
use Rattle.bursts.specs.Sums.{sums_of}
use Rattle.bursts.specs.Grouping.{group}
use Rattle.bursts.specs.Figures.{duration_variance, variance_of}

-- the difference of two numbers, whichever is the larger
abbrev pub difference : ℕ → ℕ → ℕ
difference a b = a - b + (b - a)

-- the squares of the differences of what bursts have of f, over all pairs of bursts, added
unfoldable pub squared_differences : (Group → ℕ) → List Group → ℕ
squared_differences f [] = 0
squared_differences f (b ∷ bs) = total (λ c. square (difference (f b) (f c))) bs + squared_differences f bs

-- the bursts of a trace
abbrev pub bursts_in : (ℕ → Bool) → ℕ → List ℕ → List Group
bursts_in event gmin s = bursts_of (groups gmin (events_at event s))

-- n × Q − S × S of every trace is the sum, over all pairs of its bursts, of the square of the difference of their durations.
abbrev pub SpreadPairs : Type 0
SpreadPairs =
    (event : ℕ → Bool) (gmin spacing : ℕ) (s : List ℕ) →
    (sums_of event gmin spacing s).bursts * (sums_of event gmin spacing s).squares
    ≡ square (sums_of event gmin spacing s).durations + squared_differences (lasts spacing) (bursts_in event gmin s)

-- So it is cut off at 0 nowhere.
abbrev pub SpreadUncut : Type 0
SpreadUncut =
    (event : ℕ → Bool) (gmin spacing : ℕ) (s : List ℕ) →
    square (sums_of event gmin spacing s).durations ≤ (sums_of event gmin spacing s).bursts * (sums_of event gmin spacing s).squares

-- v × n × n ≤ n × Q − S × S < (v + 1) × n × n. The difference is cut off at 0 here, but never for a trace (`SpreadUncut`) or for
-- sound sums (`SoundUncut`).
pub record IsVariance (s : Sums) (v : ℕ) : Type 0 where
  pub at_least : v * square s.bursts ≤ s.bursts * s.squares - square s.durations
  pub below : s.bursts * s.squares - square s.durations < (v + 1) * square s.bursts

-- The variance before its cap is so, and no other number is.
abbrev pub VarianceExactly : Type 0
VarianceExactly = (s : Sums) (v : ℕ) → (s.bursts ≡ 0 → ⊥) → (v ≡ duration_variance s) ↔ IsVariance s v

-- Bursts of one duration have variance 0.
abbrev pub VarianceAlike : Type 0
VarianceAlike =
    (event : ℕ → Bool) (gmin spacing d : ℕ) (s : List ℕ) → 0 < length (bursts_in event gmin s) →
    ((k : ℕ) → k < length (bursts_in event gmin s) → lasts spacing (group (bursts_in event gmin s) k) ≡ d) →
    variance_of (sums_of event gmin spacing s) ≡ 0
