-- The ranges of the settings: document 01, "The trace and its figures". "Gmin 1 to 255. Spacing 1 to
-- 40,000 microseconds. Batch B 1 to 1,024, threshold T 0 to 1,024."
use Rattle.std.specs.Prelude.{ℕ, ◌≤◌, Bool, ◌&&◌, leb}
use Rattle.settings.specs.declared.Settings.{Settings}

abbrev pub gmin_min : ℕ
gmin_min = 1

abbrev pub gmin_max : ℕ
gmin_max = 255

abbrev pub batch_min : ℕ
batch_min = 1

abbrev pub threshold_min : ℕ
threshold_min = 0

-- the highest batch and the highest threshold: a parameter of the ranges and of reading and writing a card
pub record Limits : Type 0 where
  pub batch : ℕ
  pub threshold : ℕ

-- today's, which the promises hand in; the code's constants beside them are tied to these by the proofs
abbrev pub limits : Limits
limits = record { batch = 1024; threshold = 1024 }

-- l' allows all that l allows: a later edition's limits beside an earlier one's
pub record Wider (l l' : Limits) : Type 0 where
  pub batch : l.batch ≤ l'.batch
  pub threshold : l.threshold ≤ l'.threshold

abbrev pub spacing_min : ℕ
spacing_min = 1

abbrev pub spacing_max : ℕ
spacing_max = 40_000

-- from low to high, both included
abbrev pub within : ℕ → ℕ → ℕ → Bool
within low n high = leb low n && leb n high

unfoldable pub burst_in_range : ℕ → ℕ → Bool
burst_in_range gmin spacing = within gmin_min gmin gmin_max && within spacing_min spacing spacing_max

unfoldable pub batch_in_range : Limits → ℕ → ℕ → Bool
batch_in_range l batch threshold = within batch_min batch l.batch && within threshold_min threshold l.threshold

unfoldable pub in_range : Limits → Settings → Bool
in_range l s = burst_in_range s.gmin s.spacing && batch_in_range l s.batch s.threshold
