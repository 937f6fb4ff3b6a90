-- What the tests of a 17 or 18 let through. Assumes nothing.
use Rattle.std.proofs.Common.{◌≡◌, ℕ, ◌<◌, ◌≤◌, true, leb, arith, eqb-true, leb-true}
use native.Mathlib.Decide.{dec_le}
use borrow.Author.Tests.{lt-leb}
use Rattle.refusal.proofs.Tests.{and_left, and_right}
use Rattle.block.specs.Reading.{rate_max, unavailable, rate_good, rates_good, flag_good, summary_good}

-- above the highest rate unavailable alone
pub no_rate : (n : ℕ) → rate_good n ≡ true → rate_max < n → n ≡ unavailable
unfolding rate_good
no_rate n good h = eqb-true n unavailable (rw (lt-leb n rate_max h) at good)

rate_fits : (n : ℕ) → rate_good n ≡ true → n ≤ unavailable
rate_fits n good = go (dec_le n rate_max)
  where
    go : Dec (n ≤ rate_max) → n ≤ unavailable
    go (yes low) = omega arith
    go (no high) = let e = no_rate n good (omega arith) in omega arith

-- a flag of two bits, and rates of sixteen
pub good_fits : (flag burst gap : ℕ) → summary_good flag burst gap ≡ true → (flag ≤ 3) × (burst ≤ unavailable) × (gap ≤ unavailable)
unfolding summary_good flag_good
good_fits flag burst gap good =
    let rated = and_right (flag_good flag) (rates_good burst gap) good in (
      leb-true flag 3 (and_right (leb 1 flag) (leb flag 3) (and_left (flag_good flag) (rates_good burst gap) good)),
      rate_fits burst (and_left (rate_good burst) (rate_good gap) rated),
      rate_fits gap (and_right (rate_good burst) (rate_good gap) rated),
    )
