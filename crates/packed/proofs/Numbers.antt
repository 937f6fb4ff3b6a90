-- Packets as the bits of a number: one more, a cut, low and high parts, single bits, the count of ones; and the bits of a number
-- as packets. Assumes nothing.
use Prim.Native.Nat.{ℕ, zero, suc, ◌+◌, ◌-◌, ◌*◌, ◌/◌, ◌%◌, ◌^◌, ◌<◌, ◌≤◌}
use mathlib.Core.Path.{◌≡◌, refl, sym, ap, ◌∙◌}
use mathlib.Core.Bool.{Bool, true, false}
use native.Mathlib.Omega.{arith}
use native.Mathlib.Nat.{add-zero, zero-add, add-suc, add_assoc, add-mul, mul_assoc, mul_comm, zero-mul, one-mul, pow-suc, mod-one, div-one, mod-eq_of_lt}
use lib.Dec.{eqb}
use lib.Count.{ones, ones_cat}
use lib.Pow.{pow-add, high, low, mod-pow-add, shr-shr}
use Rattle.trace.specs.Sum.{sum, bit, count}
use Rattle.trace.proofs.Sums.{sum_same}
use Rattle.packed.specs.Words.{one_at, number_of}

module _ (lost : ℕ → Bool) (i : ℕ) where
  pub number_none : number_of lost i 0 ≡ 0
  unfolding number_of sum
  number_none = refl

  pub number_next : (n : ℕ) → number_of lost i (suc n) ≡ number_of lost i n + bit (lost (i + n)) * 2 ^ n
  unfolding number_of sum
  number_next n = rw (zero-add n)

  top_le : (x : Bool) (m : ℕ) → bit x * m ≤ m
  unfolding bit
  top_le true m = rw (one-mul m) (omega arith)
  top_le false m = rw (zero-mul m) (omega arith)

  pub number_lt : (n : ℕ) → number_of lost i n < 2 ^ n
  number_lt zero = rw number_none (omega arith)
  number_lt (suc n) =
      let more = number_next n in
      let most = top_le (lost (i + n)) (2 ^ n) in
      let fewer = number_lt n in
      rw (pow-suc 2 n) (omega arith)

module _ (lost : ℕ → Bool) (i m : ℕ) where
  pub number_cut : (n : ℕ) → number_of lost i (m + n) ≡ number_of lost (i + m) n * 2 ^ m + number_of lost i m
  number_cut zero = rw (add-zero m, number_none lost (i + m), zero-mul (2 ^ m), zero-add (number_of lost i m))
  number_cut (suc n) =
      let b : ℕ = bit (lost (i + (m + n))) in
      let same : b ≡ bit (lost (i + m + n)) = ap (λ (k : ℕ). bit (lost k)) (sym (add_assoc i m n)) in
      let power : b * 2 ^ (m + n) ≡ b * 2 ^ n * 2 ^ m =
      ap (λ (k : ℕ). b * k) (pow-add 2 m n ∙ mul_comm (2 ^ m) (2 ^ n)) ∙ sym (mul_assoc b (2 ^ n) (2 ^ m))
      in
      let whole : number_of lost i (m + suc n) ≡ number_of lost i (m + n) + b * 2 ^ (m + n) = ap (number_of lost i) (add-suc m n) ∙ number_next lost i (m + n) in
      let part : number_of lost (i + m) (suc n) * 2 ^ m ≡ number_of lost (i + m) n * 2 ^ m + b * 2 ^ n * 2 ^ m =
      ap (λ (k : ℕ). k * 2 ^ m) (number_next lost (i + m) n ∙ ap (λ (k : ℕ). number_of lost (i + m) n + k * 2 ^ n) (sym same))
      ∙ add-mul (number_of lost (i + m) n) (b * 2 ^ n) (2 ^ m)
      in
      omega (arith, number_cut n)

  -- the low m of m + n packets, and the others
  pub number_low : (n : ℕ) → number_of lost i (m + n) % 2 ^ m ≡ number_of lost i m
  number_low n = ap (λ (k : ℕ). k % 2 ^ m) (number_cut n) ∙ low (number_of lost (i + m) n) m (number_lt lost i m)

  pub number_high : (n : ℕ) → number_of lost i (m + n) / 2 ^ m ≡ number_of lost (i + m) n
  number_high n = ap (λ (k : ℕ). k / 2 ^ m) (number_cut n) ∙ high (number_of lost (i + m) n) m (number_lt lost i m)

module _ (lost : ℕ → Bool) where
  pub number_one : (i : ℕ) → number_of lost i 1 ≡ bit (lost i)
  number_one i =
      let next = number_next lost i 0 in
      let none = number_none lost i in
      let here : bit (lost (i + 0)) ≡ bit (lost i) = ap (λ (k : ℕ). bit (lost k)) (add-zero i) in
      omega arith

  -- one of the packets
  pub number_at : (i n j : ℕ) → j < n → number_of lost i n / 2 ^ j % 2 ≡ bit (lost (i + j))
  number_at i n j h =
      let rest : n ≡ j + (1 + (n - (j + 1))) = omega arith in
      ap (λ (k : ℕ). number_of lost i k / 2 ^ j % 2) rest ∙ ap (λ (k : ℕ). k % 2) (number_high lost i j (1 + (n - (j + 1))))
      ∙ number_low lost (i + j) 1 (n - (j + 1)) ∙ number_one (i + j)

  -- the first packet, and those behind it
  pub number_first : (i n : ℕ) → (number_of lost i (suc n) % 2 ≡ bit (lost i)) × (number_of lost i (suc n) / 2 ≡ number_of lost (suc i) n)
  number_first i n =
      let size : suc n ≡ 1 + n = omega arith in
      let next : i + 1 ≡ suc i = omega arith in
      (ap (λ (k : ℕ). number_of lost i k % 2) size ∙ number_low lost i 1 n ∙ number_one i, ap (λ (k : ℕ). number_of lost i k / 2) size ∙ number_high lost i 1 n ∙ ap (λ (k : ℕ). number_of lost k n) next)

  bit_ones : (x : Bool) → ones (bit x) ≡ bit x
  unfolding bit ones
  bit_ones true = refl
  bit_ones false = refl

  -- the ones of the number are the lost packets
  pub number_ones : (i n : ℕ) → ones (number_of lost i n) ≡ count lost i n
  unfolding sum ones
  number_ones i zero = ap ones (number_none lost i)
  number_ones i (suc n) =
      let split : number_of lost i (suc n) ≡ bit (lost (i + n)) * 2 ^ n + number_of lost i n = omega (arith, number_next lost i n) in
      ap ones split ∙ ones_cat n (bit (lost (i + n))) (number_of lost i n) (number_lt lost i n)
      ∙ omega (arith, bit_ones (lost (i + n)), number_ones i n)

-- packets that are the same have the same number
pub number_same : (lost lost' : ℕ → Bool) (i i' n : ℕ) → ((j : ℕ) → j < n → lost (i + j) ≡ lost' (i' + j)) → number_of lost i n ≡ number_of lost' i' n
unfolding number_of
number_same lost lost' i i' n same =
    sum_same (λ j. bit (lost (i + j)) * 2 ^ j) (λ j. bit (lost' (i' + j)) * 2 ^ j) 0 n
    (λ j h. ap (λ (x : Bool). bit x * 2 ^ (0 + j)) (rw (zero-add j) (same j h)))

-- none lost, and the number is 0
pub number_zero : (lost : ℕ → Bool) (i n : ℕ) → ((j : ℕ) → j < n → lost (i + j) ≡ false) → number_of lost i n ≡ 0
unfolding bit
number_zero lost i zero none = number_none lost i
number_zero lost i (suc n) none =
    let here : bit (lost (i + n)) ≡ 0 = rw (none n (omega arith)) in
    number_next lost i n ∙ rw (number_zero lost i n (λ j h. none j (omega arith)), here, zero-mul (2 ^ n))

-- the bits of a number, as packets
pub digit_bit : (d : ℕ) → d < 2 → bit (eqb d 1) ≡ d
unfolding bit
digit_bit zero h = refl
digit_bit (suc zero) h = refl
digit_bit (suc (suc d)) h = absurd (omega arith)

pub bit_of : (x j : ℕ) → bit (one_at x j) ≡ x / 2 ^ j % 2
unfolding one_at
bit_of x j = digit_bit (x / 2 ^ j % 2) (omega arith)

pub number_of_lem : (x r n : ℕ) → number_of (one_at x) r n ≡ x / 2 ^ r % 2 ^ n
number_of_lem x r zero = number_none (one_at x) r ∙ sym (mod-one (x / 2 ^ r))
number_of_lem x r (suc n) =
    let more : suc n ≡ 1 + n = omega arith in
    let digit : bit (one_at x (r + n)) ≡ x / 2 ^ r / 2 ^ n % 2 = bit_of x (r + n) ∙ ap (λ (k : ℕ). k % 2) (sym (shr-shr x r n)) in
    number_next (one_at x) r n ∙ rw (number_of_lem x r n, digit, more, mod-pow-add (x / 2 ^ r) 1 n) (omega arith)

-- the ones of a number by its bits
pub ones_counted : (x n : ℕ) → x < 2 ^ n → ones x ≡ count (one_at x) 0 n
ones_counted x n h =
    let whole : number_of (one_at x) 0 n ≡ x = number_of_lem x 0 n ∙ ap (λ (k : ℕ). k % 2 ^ n) (div-one x) ∙ mod-eq_of_lt h in
    ap ones (sym whole) ∙ number_ones (one_at x) 0 n
