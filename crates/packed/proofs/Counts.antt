-- The lost packets of a window, by the ones of its number and of the front of it. Assumes nothing.
use Prim.Native.Nat.{ℕ, ◌+◌, ◌-◌, ◌*◌, ◌%◌, ◌^◌, ◌<◌, ◌≤◌}
use mathlib.Core.Path.{◌≡◌, sym, ap, ◌∙◌}
use mathlib.Core.Bool.{Bool}
use native.Mathlib.Omega.{arith}
use native.Mathlib.Nat.{zero-add, one-mul, mod-eq_of_lt, lt_trans}
use lib.Bits.{bit_and, and_mask}
use lib.Pow.{pow-lt, pow_pos}
use Rattle.trace.specs.Sum.{bits, count}
use Rattle.trace.proofs.Sums.{sum_moved}
use Rattle.packed.specs.Words.{word_bits, one_at, number_of}
use Rattle.packed.proofs.Numbers.{number_at, number_lt, number_low, number_ones, ones_counted, bit_of}

-- the lost among the first n packets of a window
pub window_count : (lost : ℕ → Bool) (i n : ℕ) → n ≤ word_bits → count (one_at (number_of lost i word_bits)) 0 n ≡ count lost i n
window_count lost i n h =
    sum_moved (bits (one_at (number_of lost i word_bits))) (bits lost) 0 i n
    (λ j l. rw (zero-add j) (bit_of (number_of lost i word_bits) j ∙ number_at lost i word_bits j (omega arith)))

-- the lost among the first n packets of a window, by a mask
mask_is : (n : ℕ) → n < word_bits → 1 * 2 ^ n % 2 ^ 64 ≡ 2 ^ n
mask_is n h = rw (one-mul (2 ^ n)) (mod-eq_of_lt (pow-lt h))

pub mask_some : (n : ℕ) → n < word_bits → 1 ≤ 1 * 2 ^ n % 2 ^ 64
mask_some n h = rw (mask_is n h) (pow_pos n)

pub front_count : (lost : ℕ → Bool) (i n : ℕ) → n < word_bits → count (one_at (bit_and (number_of lost i word_bits) (1 * 2 ^ n % 2 ^ 64 - 1))) 0 word_bits ≡ count lost i n
front_count lost i n h =
    let size : word_bits ≡ n + (word_bits - n) = omega arith in
    let masked : bit_and (number_of lost i word_bits) (1 * 2 ^ n % 2 ^ 64 - 1) ≡ number_of lost i n =
    ap (λ (m : ℕ). bit_and (number_of lost i word_bits) (m - 1)) (mask_is n h) ∙ and_mask (number_of lost i word_bits) n
    ∙ ap (λ (m : ℕ). number_of lost i m % 2 ^ n) size ∙ number_low lost i n (word_bits - n)
    in
    let small : number_of lost i n < 2 ^ word_bits = lt_trans (number_lt lost i n) (pow-lt h) in
    ap (λ (x : ℕ). count (one_at x) 0 word_bits) masked ∙ sym (ones_counted (number_of lost i n) word_bits small) ∙ number_ones lost i n
