-- What the private functions are given and answer, for their contracts.
use Rattle.std.specs.Prelude.{ℕ, ◌+◌, ◌-◌, ◌<◌, ◌≤◌, ◌≡◌, Bool, true, false, List, get_or}
use Rattle.trace.specs.Sum.{count}
use Rattle.trace.specs.Trace.{trace_max}
use Rattle.batch.specs.Batches.{losses_in, is_over}
use Rattle.packed.specs.Words.{word_bits}

abbrev pub group : ℕ
group = 8

-- behind batch `from`, up to batch `to`, which holds `losses`, so many batches are over the threshold
pub record Settled (lost : ℕ → Bool) (packets b t from over to losses : ℕ) : Type 0 where
  pub onward : from < to
  pub within : to + b ≤ packets
  pub held : losses ≡ losses_in lost b to
  pub counts : over ≡ count (is_over lost b t) (from + 1) (to - from)

-- the same of strides one after the other, maybe none: to where no whole stride is left, or where told to stop over batches of which
-- none is over
pub record Walked (lost : ℕ → Bool) (packets b t from : ℕ) (stop : Bool) (over to losses : ℕ) : Type 0 where
  pub onward : from ≤ to
  pub within : to + b ≤ packets
  pub held : losses ≡ losses_in lost b to
  pub counts : over ≡ count (is_over lost b t) (from + 1) (to - from)
  pub stopped : stop ≡ true → over ≡ 0
  pub all : stop ≡ false → packets - b < to + word_bits

-- words from `from` on, up to `to`, are zero
pub record Quiet (words : List ℕ) (from to : ℕ) : Type 0 where
  pub onward : from ≤ to
  pub most : to ≤ trace_max
  pub zero : (k : ℕ) → from ≤ k → k < to → get_or words k 0 ≡ 0
