-- What `io` says of a number's digits comes to the definitions of specs/Text.antt, with their lengths.
-- Assumes nothing.
use Prim.Native.Nat.{ℕ, zero, suc, ◌-◌, ◌/◌, ◌%◌, ◌^◌, ◌<◌, ◌≤◌}
use mathlib.Core.Path.{◌≡◌, refl, ap, subst}
use mathlib.Core.List.{[], ◌∷◌}
use native.Mathlib.Omega.{arith}
use native.Mathlib.Decide.{dec_lt, dec_le}
use native.Mathlib.Nat.{pow-suc, one-le-pow, pow-le-pow_right}
use borrow.Author.Tests.{lt-ltb, le-ltb}
use lib.ListN.{length, length-append}
use Rattle.io.specs.Digits.{hex_digit_ascii, last_digits, IsDigitCount}
use Rattle.text.specs.Text.{decimal_from, decimal_most, decimal_of, hex_width, hex_of}

pub length_digits : (b k n : ℕ) → length (last_digits b k n) ≡ k
length_digits b zero n = refl
length_digits b (suc k) n = rw (length-append (last_digits b k (n / b)) (hex_digit_ascii (n % b) ∷ []), length_digits b k (n / b)) (omega arith)

-- the fewest decimal digits that hold n are those of the definition
one_digit : (most n : ℕ) → n < 10 → last_digits 10 1 n ≡ decimal_from (suc most) n
unfolding decimal_from
one_digit most n h =
    let e : n % 10 ≡ n = omega arith in
    rw (e, lt-ltb n 10 h)

more_digits : (most k n : ℕ) → 10 ≤ n → last_digits 10 k (n / 10) ≡ decimal_from most (n / 10) → last_digits 10 (suc k) n ≡ decimal_from (suc most) n
unfolding decimal_from
more_digits most k n h rest = rw (le-ltb n 10 h, rest)

pub fewest_decimal : (k most n : ℕ) → k ≤ most → IsDigitCount 10 1 n k → last_digits 10 k n ≡ decimal_from most n
fewest_decimal zero most n h f = absurd (omega (arith, f.0))
fewest_decimal (suc k) zero n h f = absurd (omega arith)
fewest_decimal (suc zero) (suc most) n h f = one_digit most n (omega (arith, f.1))
fewest_decimal (suc (suc k)) (suc most) n h f =
    let e : suc (suc k) - 1 ≡ suc k = omega arith in
    let d : suc k - 1 ≡ k = omega arith in
    let low : 10 ^ suc k ≤ n = subst (λ (x : ℕ). 10 ^ x ≤ n) e (f.2 (omega arith)) in
    let high : n < 10 ^ suc (suc k) = f.1 in
    let one = pow-suc 10 k in
    let two = pow-suc 10 (suc k) in
    let some = one-le-pow k 10 (omega arith) in
    let big : 10 ≤ n = omega arith in
    let last : 10 ^ (suc k - 1) ≤ n / 10 = rw d (omega arith) in
    more_digits most (suc k) n big (fewest_decimal (suc k) most (n / 10) (omega arith) (omega arith, omega arith, λ x. last))

-- a number below b to the power w has at most w digits, where no more are asked for
pub fewest_most : (b least n k w : ℕ) → 0 < b → IsDigitCount b least n k → least ≤ w → n < b ^ w → k ≤ w
fewest_most b least n k w pos f l h = go (dec_le k w)
  where
    go : Dec (k ≤ w) → k ≤ w
    go (yes few) = few
    go (no many) =
        let low : b ^ (k - 1) ≤ n = f.2 (omega arith) in
        let more = pow-le-pow_right pos {i = w} {j = k - 1} (omega arith) in
        absurd (omega arith)

-- the two texts of a number, from what `io` says of its digits
pub decimal_is : (n k : ℕ) → n < 2 ^ 64 → IsDigitCount 10 1 n k → last_digits 10 k n ≡ decimal_of n
decimal_is n k h f = fewest_decimal k decimal_most n (fewest_most 10 1 n k decimal_most (omega arith) f (omega arith) (omega arith)) f

pub hex_is : (n k : ℕ) → n < 2 ^ 32 → IsDigitCount 16 hex_width n k → last_digits 16 k n ≡ hex_of n
unfolding hex_of
hex_is n k h f =
    let most = fewest_most 16 hex_width n k hex_width (omega arith) f (omega arith) (omega arith) in
    let same : k ≡ hex_width = omega (arith, f.0) in
    ap (λ (x : ℕ). last_digits 16 x n) same

pub length_hex : (n : ℕ) → length (hex_of n) ≡ hex_width
unfolding hex_of
length_hex n = length_digits 16 hex_width n

pub length_decimal : (most n : ℕ) → length (decimal_from most n) ≤ most
unfolding decimal_from
length_decimal zero n = omega arith
length_decimal (suc most) n = go (dec_lt n 10) (length_decimal most (n / 10))
  where
    go : Dec (n < 10) → length (decimal_from most (n / 10)) ≤ most → length (decimal_from (suc most) n) ≤ suc most
    go (yes small) rest = rw (lt-ltb n 10 small) (omega arith)
    go (no large) rest = rw (le-ltb n 10 (omega arith), length-append (decimal_from most (n / 10)) (hex_digit_ascii (n % 10) ∷ [])) (omega arith)
