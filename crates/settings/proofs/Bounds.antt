-- What the tests of the ranges say as bounds. Assumes nothing.
use Prim.Native.Nat.{ℕ, ◌≤◌}
use mathlib.Core.Path.{◌≡◌}
use mathlib.Core.Bool.{true, ◌&&◌}
use borrow.Author.Tests.{leb-true}
use lib.Dec.{leb}
use Rattle.refusal.proofs.Tests.{and_left, and_right}
use Rattle.settings.specs.declared.Settings.{Settings}
use Rattle.settings.specs.Ranges.{gmin_min, gmin_max, batch_min, threshold_min, Limits, spacing_min, spacing_max, within, burst_in_range, batch_in_range, in_range}

pub record Between (low n high : ℕ) : Type 0 where
  pub least : low ≤ n
  pub most : n ≤ high

pub between : (low n high : ℕ) → within low n high ≡ true → Between low n high
between low n high h =
    record { least = leb-true low n (and_left (leb low n) (leb n high) h); most = leb-true n high (and_right (leb low n) (leb n high) h) }

-- two settings, each within its range
pub record Both (low n high low' n' high' : ℕ) : Type 0 where
  pub first : Between low n high
  pub second : Between low' n' high'

both : (low n high low' n' high' : ℕ) → (within low n high && within low' n' high') ≡ true → Both low n high low' n' high'
both low n high low' n' high' h =
    record {
      first = between low n high (and_left (within low n high) (within low' n' high') h);
      second = between low' n' high' (and_right (within low n high) (within low' n' high') h);
    }

abbrev pub Burst : ℕ → ℕ → Type 0
Burst gmin spacing = Both gmin_min gmin gmin_max spacing_min spacing spacing_max

pub burst : (gmin spacing : ℕ) → burst_in_range gmin spacing ≡ true → Burst gmin spacing
unfolding burst_in_range
burst gmin spacing h = both gmin_min gmin gmin_max spacing_min spacing spacing_max h

module _ (l : Limits) where
  abbrev pub Batch : ℕ → ℕ → Type 0
  Batch size threshold = Both batch_min size l.batch threshold_min threshold l.threshold

  pub batch : (size threshold : ℕ) → batch_in_range l size threshold ≡ true → Batch size threshold
  unfolding batch_in_range
  batch size threshold h = both batch_min size l.batch threshold_min threshold l.threshold h

  pub record All (s : Settings) : Type 0 where
    pub bursts : Burst s.gmin s.spacing
    pub batches : Batch s.batch s.threshold

  pub all : (s : Settings) → in_range l s ≡ true → All s
  unfolding in_range
  all s h =
      let b = burst_in_range s.gmin s.spacing in
      let e = batch_in_range l s.batch s.threshold in
      record { bursts = burst s.gmin s.spacing (and_left b e h); batches = batch s.batch s.threshold (and_right b e h) }
