-- Batches and runs that end at a packet say the same: no batch has more than t exactly where no run does.
-- Assumes nothing.
use Prim.Native.Nat.{ℕ, ◌+◌, ◌-◌, ◌<◌, ◌≤◌}
use mathlib.Core.Path.{◌≡◌, ap}
use mathlib.Core.Bool.{Bool}
use native.Mathlib.Omega.{arith}
use native.Mathlib.Decide.{dec_le}
use Rattle.trace.specs.Sum.{bits}
use Rattle.trace.proofs.Sums.{up_to, up_to_window, up_to_from}
use Rattle.batch.specs.Batches.{batches, losses_in}
use Rattle.resend.proofs.Ahead.{Held}

module _ (test : ℕ → Bool) (e b t : ℕ) (within : b ≤ e) where
  pub batches_held : ((n : ℕ) → n ≤ e → Held (bits test) b t n) → (k : ℕ) → k < batches e b → losses_in test b k ≤ t
  batches_held held k h =
      let start : k + b - b ≡ k = omega arith in
      omega (arith, ap (up_to (bits test)) start, held (k + b) (omega arith), up_to_window (bits test) k b)

  pub held_batches : ((k : ℕ) → k < batches e b → losses_in test b k ≤ t) → (n : ℕ) → n ≤ e → Held (bits test) b t n
  held_batches each n h = go (dec_le b n)
    where
      go : Dec (b ≤ n) → Held (bits test) b t n
      go (yes long) =
          let end : n - b + b ≡ n = omega arith in
          omega (arith, ap (up_to (bits test)) end, up_to_window (bits test) (n - b) b, each (n - b) (omega arith))
      go (no short) = omega (arith, up_to_from (bits test) n b (omega arith), each 0 (omega arith))
