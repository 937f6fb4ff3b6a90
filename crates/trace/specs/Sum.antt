-- Sums over positions, for every count and figure of a trace.
use Rattle.std.specs.Prelude.{ℕ, zero, suc, ◌+◌, Bool, true, false}

-- f at `start` and the n - 1 positions after it, added
unfoldable pub sum : (ℕ → ℕ) → ℕ → ℕ → ℕ
sum f start zero = 0
sum f start (suc n) = sum f start n + f (start + n)

unfoldable pub bit : Bool → ℕ
bit true = 1
bit false = 0

-- a test of positions as a number, 0 or 1
abbrev pub bits : (ℕ → Bool) → ℕ → ℕ
bits test i = bit (test i)

-- how many of the n positions from `start` pass the test
abbrev pub count : (ℕ → Bool) → ℕ → ℕ → ℕ
count test start n = sum (bits test) start n
