-- A rate divided by 32,768 as the machine divides is the value that the definition's bits stand for: the quotient is exact, so
-- its bits follow from the rate. Assumes nothing.
use mathlib.Core.Path.{◌≡◌, refl, sym, ap, ◌∙◌, subst}
use Prim.Native.Nat.{ℕ, zero, suc, ◌+◌, ◌-◌, ◌*◌, ◌/◌, ◌^◌, ◌≤◌, ◌<◌}
use native.Mathlib.Nat.{le_trans, le_of_eq, lt_of_lt_of_le, lt_of_not-le, not-le_of_lt, zero-lt-suc, mul_assoc, mul_right_comm, zero-add, mul-div_cancel, mul-le-mul_right, mul-pos, add-mul}
use native.Mathlib.Omega.{arith}
use mathlib.Core.Bool.{true, false, true≢false}
use lib.Dec.{lit<, lit≤}
use lib.IntN.{ℤ, pos}
use lib.Pow.{pow-add, pow_pos, pow_mono, shl_lt}
use lib.Ieee.{Float, nan, inf, fin, binary32, up, down, size, of_bits, of_int, to_bits, round, div}
use lib.Ieee.Digits.{size-lt, size-le, size_reaches}
use lib.Ieee.Fits.{down_pos, round-fits}
use lib.Ieee.Bits.{of_bits-to_bits}
use lib.Ieee.Exact.{HasValue, round_exact}
use lib.Ieee.Back.{round_whole}
use lib.Ieee.Scale.{round_same}
use Rattle.dials.specs.Position.{fraction_of, rate_bits, position}
use Rattle.dials.specs.Laws.{PositionValue, PositionBits}

-- 32,768 as an f32
abbrev full : Float
full = fin false 1 (pos 15)

full_is : of_bits binary32 1191182336 ≡ full
unfolding of_bits
full_is = refl

quotient : (x : Float) (n : ℕ) → HasValue x false n 1 → div binary32 x full ≡ round binary32 false n 32768
unfolding div
quotient nan n v = absurd v
quotient (inf s) n v = absurd v
quotient (fin true m e) n v = absurd (true≢false v.0)
quotient (fin false m e) n v =
    round_same binary32 false (m * up e * 1) (1 * 2 ^ 15 * down e) n 32768 (mul-pos (lit< tt) (down_pos e)) (lit< tt)
    (rw (v.1, mul_right_comm n (down e) 32768, mul_assoc n 32768 (down e)))

-- ---- the quotient has its value

scaled : (n : ℕ) → n * 2 ^ 149 ≡ n * 2 ^ 134 * 32768
scaled n = ap (λ (x : ℕ). n * x) (pow-add 2 134 15) ∙ sym (mul_assoc n (2 ^ 134) (2 ^ 15))

exact : (n : ℕ) → n < 2 ^ 24 → HasValue (round binary32 false n 32768) false n 32768
exact n h = round_exact binary32 false n 32768 n 134 (lit< tt) h (lt_of_lt_of_le (shl_lt 24 134 h) (pow_mono {i = 158} {j = 277} (lit≤ tt))) (scaled n)

-- ---- its bits

size_gt : (n j : ℕ) → 2 ^ j ≤ n → j < size n
size_gt n j h = lt_of_not-le (λ (g : size n ≤ j). not-le_of_lt (lt_of_lt_of_le (size-lt n) (pow_mono g)) h)

some_digits : (n : ℕ) → 0 < size (suc n)
some_digits n = size_gt (suc n) 0 (zero-lt-suc n)

top_digit : (n : ℕ) → 2 ^ (size (suc n) - 1) ≤ suc n
top_digit n = size_reaches (suc n) (size (suc n) - 1) (let h = some_digits n in omega arith)

-- k zeros more
size_shl : (n k : ℕ) → size (suc n * 2 ^ k) ≡ size (suc n) + k
size_shl n k =
    let d = size (suc n) in
    let high : size (suc n * 2 ^ k) ≤ d + k = size-le (suc n * 2 ^ k) (d + k) (shl_lt d k (size-lt (suc n))) in
    let low : d - 1 + k < size (suc n * 2 ^ k) =
    size_gt (suc n * 2 ^ k) (d - 1 + k) (le_trans (le_of_eq (pow-add 2 (d - 1) k)) (mul-le-mul_right (2 ^ k) (top_digit n))) in
    let some = some_digits n in
    omega arith

-- a magnitude of N of the smallest values, 2 ^ -149, as bits
abbrev bits_of : ℕ → ℕ
bits_of N = (size N - 24) * 2 ^ 23 + N / 2 ^ (size N - 24)

magnitude : (m n : ℕ) (e : ℤ) → m * up e * 32768 ≡ n * down e → m * up e * 2 ^ 149 / down e ≡ n * 2 ^ 134
magnitude m n e v =
    ap (λ (x : ℕ). x / down e) (scaled (m * up e) ∙ mul_right_comm (m * up e) (2 ^ 134) 32768 ∙ ap (λ (x : ℕ). x * 2 ^ 134) v ∙ mul_right_comm n (down e) (2 ^ 134))
    ∙ mul-div_cancel (n * 2 ^ 134) (down_pos e)

units : (x : Float) (n : ℕ) → HasValue x false n 32768 → to_bits binary32 x ≡ bits_of (n * 2 ^ 134)
unfolding to_bits
units nan n v = absurd v
units (inf s) n v = absurd v
units (fin true m e) n v = absurd (true≢false v.0)
units (fin false m e) n v = let N = m * up e * 2 ^ 149 / down e in ap (λ (x : ℕ). x + N / 2 ^ (size N - 24)) (zero-add ((size N - 24) * 2 ^ 23)) ∙ ap bits_of (magnitude m n e v.1)

-- the digits below the first, at the top of 23, and the first before them
digits : (n d : ℕ) → 0 < d → d ≤ 24 → 2 ^ (d - 1) ≤ n → n * 2 ^ (24 - d) ≡ 2 ^ 23 + (n - 2 ^ (d - 1)) * 2 ^ (24 - d)
digits n d some few top =
    let all : d - 1 + (24 - d) ≡ 23 = omega arith in
    let first : 2 ^ (d - 1) * 2 ^ (24 - d) ≡ 2 ^ 23 = sym (pow-add 2 (d - 1) (24 - d)) ∙ ap (λ (x : ℕ). 2 ^ x) all in
    let parts : n ≡ 2 ^ (d - 1) + (n - 2 ^ (d - 1)) = omega arith in
    ap (λ (x : ℕ). x * 2 ^ (24 - d)) parts ∙ add-mul (2 ^ (d - 1)) (n - 2 ^ (d - 1)) (2 ^ (24 - d)) ∙ ap (λ (x : ℕ). x + (n - 2 ^ (d - 1)) * 2 ^ (24 - d)) first

field : (d t : ℕ) → (d + 110) * 2 ^ 23 + (2 ^ 23 + t) ≡ (d + 111) * 2 ^ 23 + t
field d t = omega arith

kept : (n d : ℕ) → d ≤ 24 → n * 2 ^ 134 / 2 ^ (d + 110) ≡ n * 2 ^ (24 - d)
kept n d few =
    let cut : 24 - d + (d + 110) ≡ 134 = omega arith in
    ap (λ (x : ℕ). n * x / 2 ^ (d + 110)) (ap (λ (x : ℕ). 2 ^ x) (sym cut) ∙ pow-add 2 (24 - d) (d + 110))
    ∙ ap (λ (x : ℕ). x / 2 ^ (d + 110)) (sym (mul_assoc n (2 ^ (24 - d)) (2 ^ (d + 110))))
    ∙ mul-div_cancel (n * 2 ^ (24 - d)) (pow_pos (d + 110))

bits : (n : ℕ) → n < 2 ^ 24 → bits_of (n * 2 ^ 134) ≡ rate_bits n
unfolding rate_bits size
bits zero h = refl
bits (suc n) h =
    let d = size (suc n) in
    let some = some_digits n in
    let few : d ≤ 24 = size-le (suc n) 24 h in
    let dropped : size (suc n * 2 ^ 134) - 24 ≡ d + 110 = ap (λ (x : ℕ). x - 24) (size_shl n 134) ∙ omega arith in
    ap (λ (k : ℕ). k * 2 ^ 23 + suc n * 2 ^ 134 / 2 ^ k) dropped
    ∙ ap (λ (x : ℕ). (d + 110) * 2 ^ 23 + x) (kept (suc n) d few ∙ digits (suc n) d some few (top_digit n))
    ∙ field d (fraction_of (suc n))

-- ---- the laws

-- a rate has no more than the 24 binary digits that an f32 keeps
few_digits : (n : ℕ) → n ≤ 32768 → n < 2 ^ 24
few_digits n h = omega arith

round_is : (n : ℕ) → n ≤ 32768 → round binary32 false n 32768 ≡ position n
unfolding position
round_is n h =
    let v = exact n (few_digits n h) in
    sym (of_bits-to_bits binary32 (round binary32 false n 32768) (round-fits binary32 false n 32768))
    ∙ ap (of_bits binary32) (units (round binary32 false n 32768) n v ∙ bits n (few_digits n h))

pub divided : (n : ℕ) → n ≤ 32768 → div binary32 (of_int binary32 (pos n)) (of_bits binary32 1191182336) ≡ position n
unfolding of_int
divided n h =
    ap (div binary32 (round binary32 false n 1)) full_is
    ∙ quotient (round binary32 false n 1) n (round_whole binary32 false n (omega (arith, few_digits n h)))
    ∙ round_is n h

pub position_value : PositionValue
position_value n h = subst (λ (x : Float). HasValue x false n 32768) (round_is n h) (exact n (few_digits n h))

pub position_bits : PositionBits
position_bits n h = units (position n) n (position_value n h) ∙ bits n (few_digits n h)
