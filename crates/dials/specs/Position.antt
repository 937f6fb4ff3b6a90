-- Where a needle stands: document 02, ticket 4, "a fraction from 0 to 1 as an f32: a rate divided by 32,768, which is exact,
-- so its bits follow from the rate". An f32 is IEEE 754's binary32: 1 bit of sign, 8 of exponent, 23 of fraction.
--
--   0                   1                   2                   3
--   0 1 2 3 4 5 6 7 8 9 0 1 2 3 4 5 6 7 8 9 0 1 2 3 4 5 6 7 8 9 0 1
--  +-+-+-+-+-+-+-+-+-+-+-+-+-+-+-+-+-+-+-+-+-+-+-+-+-+-+-+-+-+-+-+-+
--  |S|    Exponent   |                  Fraction                   |
--  +-+-+-+-+-+-+-+-+-+-+-+-+-+-+-+-+-+-+-+-+-+-+-+-+-+-+-+-+-+-+-+-+
--
-- It stands for 1.Fraction × 2 ^ (Exponent - 127), and for 0 where all bits are 0.
use Rattle.std.specs.Prelude.{ℕ, zero, suc, ◌+◌, ◌-◌, ◌*◌, ◌^◌, Float}
use Rattle.std.specs.Float.{binary32}
use Rattle.std.specs.Float.Ieee.{size, of_bits}

-- A rate of d binary digits is 1.Fraction × 2 ^ (d - 1), and divided by 2 ^ 15 it has the power d - 16: with 127 added, d + 111.
abbrev pub exponent_of : ℕ → ℕ
exponent_of rate = size rate + 111

-- its d - 1 digits below the first, at the top of 23
abbrev pub fraction_of : ℕ → ℕ
fraction_of rate = (rate - 2 ^ (size rate - 1)) * 2 ^ (24 - size rate)

unfoldable pub rate_bits : ℕ → ℕ
rate_bits zero = 0
rate_bits (suc n) = exponent_of (suc n) * 2 ^ 23 + fraction_of (suc n)

unfoldable pub position : ℕ → Float
position rate = of_bits binary32 (rate_bits rate)
