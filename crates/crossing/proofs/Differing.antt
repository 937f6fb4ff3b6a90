-- Where two numbers first differ: below the lowest one of their `xor` they are the same. Assumes nothing.
use Prim.Native.Nat.{ℕ, zero, suc, ◌+◌, ◌*◌, ◌/◌, ◌%◌, ◌^◌, ◌<◌, ◌≤◌}
use mathlib.Core.Path.{◌≡◌, refl, sym, ap, ap₂, ◌∙◌}
use native.Mathlib.Omega.{arith}
use native.Mathlib.Decide.{ℕ_discrete}
use native.Mathlib.Nat.{pow-suc, mod-one}
use lib.Bits.{bit_xor, xor_step, differ}
use lib.Count.{count_trailing_zeros}
use lib.Pow.{mod-pow-add}

-- a and b, of at most k bits, agree below bit z, which is one of the k
pub record DifferAt (k a b z : ℕ) : Type 0 where
  pub within : z < k
  pub below : a % 2 ^ z ≡ b % 2 ^ z

-- the lowest digits of a number
half_mod : (x z : ℕ) → x % 2 ^ suc z ≡ x / 2 % 2 ^ z * 2 + x % 2
half_mod x z = let more : suc z ≡ z + 1 = omega arith in ap (λ (k : ℕ). x % 2 ^ k) more ∙ mod-pow-add x z 1

-- the two lowest digits and what the code's word has of them
digit : (x y : ℕ) → x < 2 → y < 2 → (x ≡ y → differ x y ≡ 0) × ((x ≡ y → ⊥) → differ x y ≡ 1) × (differ x y < 2)
digit zero zero h l = (λ e. refl, λ n. absurd (n refl), omega arith)
digit zero (suc zero) h l = (λ e. absurd (omega arith), λ n. refl, omega arith)
digit (suc zero) zero h l = (λ e. absurd (omega arith), λ n. refl, omega arith)
digit (suc zero) (suc zero) h l = (λ e. refl, λ n. absurd (n refl), omega arith)
digit (suc (suc x)) y h l = absurd (omega arith)
digit zero (suc (suc y)) h l = absurd (omega arith)
digit (suc zero) (suc (suc y)) h l = absurd (omega arith)

xor_digits : (a b : ℕ) → (bit_xor a b % 2 ≡ differ (a % 2) (b % 2)) × (bit_xor a b / 2 ≡ bit_xor (a / 2) (b / 2))
xor_digits a b =
    let step = xor_step a b in
    let small = (digit (a % 2) (b % 2) (omega arith) (omega arith)).2 in
    (omega arith, omega arith)

-- one digit more: where the lowest digits differ, and where they do not
first_step : (k w a b : ℕ) → (a ≡ b → ⊥) → Dec (a % 2 ≡ b % 2) →
    ((a / 2 ≡ b / 2 → ⊥) → DifferAt k (a / 2) (b / 2) (count_trailing_zeros w (bit_xor (a / 2) (b / 2)))) →
    DifferAt (suc k) a b (count_trailing_zeros (suc w) (bit_xor a b))
unfolding count_trailing_zeros
first_step k w a b other (yes same) later =
    let digits = xor_digits a b in
    let none : bit_xor a b % 2 ≡ 0 = digits.0 ∙ (digit (a % 2) (b % 2) (omega arith) (omega arith)).0 same in
    let rest = later (λ e. other (omega arith)) in
    let z : ℕ = count_trailing_zeros w (bit_xor (a / 2) (b / 2)) in
    rw (none, digits.1)
    record {
      within = omega (arith, rest.within);
      below = half_mod a z ∙ ap₂ (λ (x y : ℕ). x * 2 + y) rest.below same ∙ sym (half_mod b z);
    }
first_step k w a b other (no apart) later =
    let digits = xor_digits a b in
    let one : bit_xor a b % 2 ≡ 1 = digits.0 ∙ (digit (a % 2) (b % 2) (omega arith) (omega arith)).1 apart in
    rw one record { within = omega arith; below = mod-one a ∙ sym (mod-one b) }

pub first_differ : (k w a b : ℕ) → k ≤ w → a < 2 ^ k → b < 2 ^ k → (a ≡ b → ⊥) → DifferAt k a b (count_trailing_zeros w (bit_xor a b))
first_differ zero w a b h ha hb other = absurd (other (omega arith))
first_differ (suc k) zero a b h ha hb other = absurd (omega arith)
first_differ (suc k) (suc w) a b h ha hb other =
    first_step k w a b other (ℕ_discrete (a % 2) (b % 2)) (first_differ k w (a / 2) (b / 2) (omega arith) (half a ha) (half b hb))
  where
    half : (x : ℕ) → x < 2 ^ suc k → x / 2 < 2 ^ k
    half x l = let twice = pow-suc 2 k in omega arith
