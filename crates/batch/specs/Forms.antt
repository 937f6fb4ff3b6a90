-- What the steps over a form of a trace are given and answer, for their contracts. Throughout, `lost i` says whether packet i counts as a
-- loss, e is the number of packets, b the batch and t the threshold.
use Rattle.std.specs.Prelude.{ℕ, ◌+◌, ◌≤◌, ◌≡◌, Bool, Option, Some, None}
use Rattle.trace.specs.Trace.{trace_max}
use Rattle.batch.specs.Batches.{losses_in, first_over}
use Rattle.batch.specs.declared.Running.{Running}

-- a batch within the packets, and numbers that are not large
pub record Fitting (e b t : ℕ) : Type 0 where
  pub within : b ≤ e
  pub most : e ≤ trace_max
  pub low : t ≤ trace_max

-- batch k is one of them, and holds so many losses
pub record At (lost : ℕ → Bool) (e b k losses : ℕ) : Type 0 where
  pub within : k + b ≤ e
  pub held : losses ≡ losses_in lost b k

-- from batch `from` on, up to batch k, which holds so many losses, none is over the threshold
pub record Passed (lost : ℕ → Bool) (e b t from k losses : ℕ) : Type 0 where
  pub onward : from ≤ k
  pub at : At lost e b k losses
  pub under : (j : ℕ) → from ≤ j → j ≤ k → losses_in lost b j ≤ t

abbrev pub start_of : Option Running → Option ℕ
start_of (Some at) = Some at.start
start_of None = None

-- the first batch over the threshold, with its losses
pub record Found (lost : ℕ → Bool) (e b t : ℕ) (first : Option Running) : Type 0 where
  pub first_is : start_of first ≡ first_over lost e b t
  pub held : (at : Running) → first ≡ Some at → at.losses ≡ losses_in lost b at.start
