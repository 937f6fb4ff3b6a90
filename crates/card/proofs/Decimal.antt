-- Laws of decimal digits: what a number's digits write, and what digits their number has, are inverse to
-- each other; appending, one more digit, and one digit changed. Assumes nothing.
use Prim.Native.Nat.{ℕ, zero, suc, ◌+◌, ◌-◌, ◌*◌, ◌/◌, ◌%◌, ◌^◌, ◌<◌, ◌≤◌}
use mathlib.Core.Path.{◌≡◌, refl, sym, ap, ◌∙◌}
use mathlib.Core.Bool.{true, ◌&&◌, and_assoc}
use mathlib.Core.List.{List, [], ◌∷◌, ◌++◌}
use native.Mathlib.Omega.{arith}
use native.Mathlib.Nat.{zero-add, suc-add, add-mul, mul_assoc, mul_comm, pow-zero, pow-suc, pow-succ', div-div-eq-div-mul, mul-add-div_right, mul-pos}
use borrow.Author.Tests.{leb-true, le-leb}
use lib.Arith.{digits_lt, digits_div, mod-mul}
use lib.Pow.{pow-add}
use lib.Dec.{leb}
use lib.ListN.{length, take, drop, get_or, set, length-append, length-set, take-append-drop}
use Rattle.refusal.proofs.Tests.{and_left, and_right, both}
use Rattle.card.specs.Decimal.{is_digit, all_digits, decimal, digits}

pub pow10_pos : (k : ℕ) → 0 < 10 ^ k
pow10_pos zero = rw pow-zero (omega arith)
pow10_pos (suc k) = rw pow-suc (mul-pos (pow10_pos k) (omega arith))

-- a digit is 48 and a number below 10
pub record Digit (b : ℕ) : Type 0 where
  pub low : 48 ≤ b
  pub high : b ≤ 57

pub digit_range : (b : ℕ) → is_digit b ≡ true → Digit b
digit_range b h = record { low = leb-true 48 b (and_left (leb 48 b) (leb b 57) h); high = leb-true b 57 (and_right (leb 48 b) (leb b 57) h) }

pub digit_of : (b : ℕ) → 48 ≤ b → b ≤ 57 → is_digit b ≡ true
digit_of b low high = both (leb 48 b) (leb b 57) (le-leb _ _ low) (le-leb _ _ high)

-- `all_digits` of two parts, and at a position
pub all_append : (s t : List ℕ) → all_digits (s ++ t) ≡ (all_digits s && all_digits t)
unfolding all_digits
all_append [] t = refl
all_append (b ∷ s) t = rw (all_append s t) (sym (and_assoc (is_digit b) (all_digits s) (all_digits t)))

pub all_at : (s : List ℕ) (i : ℕ) → all_digits s ≡ true → i < length s → is_digit (get_or s i 0) ≡ true
unfolding all_digits
all_at [] i h l = absurd (omega arith)
all_at (b ∷ s) zero h l = and_left (is_digit b) (all_digits s) h
all_at (b ∷ s) (suc i) h l = all_at s i (and_right (is_digit b) (all_digits s) h) (omega arith)

pub all_set : (s : List ℕ) (i d : ℕ) → all_digits s ≡ true → is_digit d ≡ true → all_digits (set s i d) ≡ true
unfolding all_digits
all_set [] i d h e = refl
all_set (b ∷ s) zero d h e = both (is_digit d) (all_digits s) e (and_right (is_digit b) (all_digits s) h)
all_set (b ∷ s) (suc i) d h e = both (is_digit b) (all_digits (set s i d)) (and_left (is_digit b) (all_digits s) h) (all_set s i d (and_right (is_digit b) (all_digits s) h) e)

pub all_take : (n : ℕ) (s : List ℕ) → all_digits s ≡ true → all_digits (take n s) ≡ true
all_take n s h =
    and_left (all_digits (take n s)) (all_digits (drop n s)) (sym (all_append (take n s) (drop n s)) ∙ ap all_digits (take-append-drop n s) ∙ h)

pub all_drop : (n : ℕ) (s : List ℕ) → all_digits s ≡ true → all_digits (drop n s) ≡ true
all_drop n s h =
    and_right (all_digits (take n s)) (all_digits (drop n s)) (sym (all_append (take n s) (drop n s)) ∙ ap all_digits (take-append-drop n s) ∙ h)

pub decimal_append : (s t : List ℕ) → decimal (s ++ t) ≡ decimal s * 10 ^ length t + decimal t
unfolding decimal
decimal_append [] t = omega arith
decimal_append (b ∷ s) t = rw (length-append s t, pow-add, decimal_append s t, add-mul, mul_assoc) (omega arith)

pub decimal_lt : (s : List ℕ) → all_digits s ≡ true → decimal s < 10 ^ length s
unfolding decimal all_digits
decimal_lt [] h = omega arith
decimal_lt (b ∷ s) h =
    let r = digit_range b (and_left (is_digit b) (all_digits s) h) in
    rw pow-succ' (digits_lt (omega arith) (decimal_lt s (and_right (is_digit b) (all_digits s) h)))

-- changing one digit moves the number by the change at that digit's weight
pub decimal_set : (s : List ℕ) (i d : ℕ) → i < length s →
    decimal (set s i d) + (get_or s i 0 - 48) * 10 ^ (length s - suc i) ≡ decimal s + (d - 48) * 10 ^ (length s - suc i)
unfolding decimal
decimal_set [] i d l = omega arith
decimal_set (b ∷ s) zero d l =
    let e : suc (length s) - suc zero ≡ length s = omega arith in
    rw e (omega arith)
decimal_set (b ∷ s) (suc i) d l =
    let e : suc (length s) - suc (suc i) ≡ length s - suc i = omega arith in
    let rest = decimal_set s i d (omega arith) in
    rw (e, length-set s i d) (omega arith)

pub length_digits : (w n : ℕ) → length (digits w n) ≡ w
unfolding digits
length_digits zero n = refl
length_digits (suc w) n = ap suc (length_digits w n)

pub all_digits_lem : (w n : ℕ) → all_digits (digits w n) ≡ true
unfolding digits all_digits
all_digits_lem zero n = refl
all_digits_lem (suc w) n = both (is_digit (48 + n / 10 ^ w % 10)) (all_digits (digits w n)) (digit_of (48 + n / 10 ^ w % 10) (omega arith) (omega arith)) (all_digits_lem w n)

pub decimal_digits : (w n : ℕ) → decimal (digits w n) ≡ n % 10 ^ w
unfolding digits decimal
decimal_digits zero n = omega arith
decimal_digits (suc w) n =
    let e : 48 + n / 10 ^ w % 10 - 48 ≡ n / 10 ^ w % 10 = omega arith in
    rw (e, length_digits w n, decimal_digits w n, pow-succ', mod-mul n {m = 10} {c = 10 ^ w} (omega arith) (pow10_pos w))

-- higher digits do not show
pub digits_low : (w x n : ℕ) → digits w (x * 10 ^ w + n) ≡ digits w n
unfolding digits
digits_low zero x n = refl
digits_low (suc w) x n =
    let e : x * 10 ^ suc w ≡ x * 10 * 10 ^ w = rw (pow-succ', mul_assoc) in
    let q : (x * 10 + n / 10 ^ w) % 10 ≡ n / 10 ^ w % 10 = omega arith in
    rw (e, mul-add-div_right (pow10_pos w) (x * 10) n, q, digits_low w (x * 10) n)

pub digits_append : (v w x n : ℕ) → n < 10 ^ w → digits (v + w) (x * 10 ^ w + n) ≡ digits v x ++ digits w n
unfolding digits
digits_append zero w x n h = rw zero-add (digits_low w x n)
digits_append (suc v) w x n h =
    let e : 10 ^ (v + w) ≡ 10 ^ w * 10 ^ v = rw (pow-add, mul_comm (10 ^ v)) in
    rw (suc-add, e, ← div-div-eq-div-mul, digits_div x h, digits_append v w x n h)

pub digits_decimal : (s : List ℕ) → all_digits s ≡ true → digits (length s) (decimal s) ≡ s
unfolding digits decimal all_digits
digits_decimal [] h = refl
digits_decimal (b ∷ s) h =
    let r = digit_range b (and_left (is_digit b) (all_digits s) h) in
    let hs = and_right (is_digit b) (all_digits s) h in
    let e : 48 + (b - 48) % 10 ≡ b = omega arith in
    rw (digits_div (b - 48) (decimal_lt s hs), e, digits_low (length s) (b - 48) (decimal s), digits_decimal s hs)
