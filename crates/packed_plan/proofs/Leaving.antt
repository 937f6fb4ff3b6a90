-- What leaves the running count: a lost packet a batch before, in one step and as the bits of a window. Assumes nothing.
use Prim.Native.Nat.{ℕ, ◌+◌, ◌-◌, ◌*◌, ◌/◌, ◌%◌, ◌^◌, ◌<◌, ◌≤◌}
use mathlib.Core.Path.{◌≡◌, refl, sym, ap, ap₂, ◌∙◌}
use mathlib.Core.Bool.{Bool, false}
use mathlib.Core.List.{List}
use native.Mathlib.Omega.{arith}
use native.Mathlib.Decide.{dec_le}
use native.Mathlib.Nat.{add-zero, mul-mod_left}
use borrow.Author.Tests.{le-leb, lt-leb}
use lib.ListN.{get_or}
use lib.Pow.{mod-pow-add, shl-shr, shr-shr}
use Rattle.trace.specs.Sum.{bit}
use Rattle.trace.proofs.Sums.{bool_bit}
use Rattle.resend.specs.Steps.{leaving}
use Rattle.resend.proofs.Filling.{leaves_less, slides_none}
use Rattle.packed.specs.Words.{word_bits, number_of}
use Rattle.packed.proofs.Numbers.{number_low, number_cut, number_same, number_zero, number_at}
use Rattle.packed_plan.specs.Steps.{behind}

none_one : bit false ≡ 1 → ⊥
unfolding bit
none_one e = omega arith

module _ (lost : ℕ → Bool) (b : ℕ) where
  behind_at : (i : ℕ) → b ≤ i → behind lost b i ≡ lost (i - b)
  unfolding behind
  behind_at i h = rw (le-leb b i h)

  behind_none : (i : ℕ) → i < b → behind lost b i ≡ false
  unfolding behind
  behind_none i h = rw (lt-leb b i h)

  -- the bits of 64 steps: behind the first batch, before it, and where it ends among them
  pub gone_all : (i : ℕ) → b ≤ i → number_of lost (i - b) word_bits ≡ number_of (behind lost b) i word_bits
  gone_all i h =
      number_same lost (behind lost b) (i - b) i word_bits
      (λ j l. let place : i - b + j ≡ i + j - b = omega arith in ap lost place ∙ sym (behind_at (i + j) (omega arith)))

  pub gone_none : (i : ℕ) → word_bits ≤ b - i → 0 ≡ number_of (behind lost b) i word_bits
  gone_none i h = sym (number_zero (behind lost b) i word_bits (λ j l. behind_none (i + j) (omega arith)))

  pub gone_some : (i : ℕ) → i < b → b - i < word_bits → number_of lost 0 word_bits * 2 ^ (b - i) % 2 ^ 64 ≡ number_of (behind lost b) i word_bits
  gone_some i h l =
      let d : ℕ = b - i in
      let r : ℕ = word_bits - d in
      let size : word_bits ≡ d + r = omega arith in
      let again : word_bits ≡ r + d = omega arith in
      let x : ℕ = number_of lost 0 word_bits in
      let shifted : x * 2 ^ d % 2 ^ 64 ≡ number_of lost 0 r * 2 ^ d =
      ap (λ (k : ℕ). x * 2 ^ d % 2 ^ k) again ∙ mod-pow-add (x * 2 ^ d) r d
      ∙ ap₂ (λ (p q : ℕ). p % 2 ^ r * 2 ^ d + q) (shl-shr x d) (mul-mod_left x (2 ^ d)) ∙ add-zero (x % 2 ^ r * 2 ^ d)
      ∙ ap (λ (k : ℕ). k * 2 ^ d) (ap (λ (k : ℕ). number_of lost 0 k % 2 ^ r) again ∙ number_low lost 0 r d)
      in
      let none : number_of (behind lost b) i d ≡ 0 = number_zero (behind lost b) i d (λ j m. behind_none (i + j) (omega arith)) in
      let front : number_of (behind lost b) (i + d) r ≡ number_of lost 0 r =
      number_same (behind lost b) lost (i + d) 0 r
      (λ j m. let place : i + d + j - b ≡ 0 + j = omega arith in behind_at (i + d + j) (omega arith) ∙ ap lost place)
      in
      shifted ∙ sym (ap (number_of (behind lost b) i) size ∙ number_cut (behind lost b) i d r ∙ ap₂ (λ (p q : ℕ). p * 2 ^ d + q) front none ∙ add-zero (number_of lost 0 r * 2 ^ d))

  module _ (p : List ℕ) (i : ℕ) (mark : b ≤ i → get_or p (i - b) 0 ≤ bit (lost (i - b))) where
    -- nothing lost leaves
    pub slides_by : (n : ℕ) → 0 ≡ bit (behind lost b i) → n ≡ n - leaving lost b p i
    slides_by n none = go (dec_le b i)
      where
        go : Dec (b ≤ i) → n ≡ n - leaving lost b p i
        go (yes h) =
            let less = leaves_less lost b p i h (mark h) (lost (i - b)) refl in
            let gone : bit (lost (i - b)) ≡ 0 = ap bit (sym (behind_at i h)) ∙ sym none in
            let byte = mark h in
            let same = bool_bit (lost (i - b)) in
            omega (arith, less)
        go (no h) = slides_none lost b p i n (omega arith)

    -- a lost packet leaves, unless it is marked
    pub slides_lost : 1 ≡ bit (behind lost b i) → (b ≤ i) × (get_or p (i - b) 0 ≤ 1) × (leaving lost b p i ≡ 1 - get_or p (i - b) 0)
    slides_lost one = go (dec_le b i)
      where
        go : Dec (b ≤ i) → (b ≤ i) × (get_or p (i - b) 0 ≤ 1) × (leaving lost b p i ≡ 1 - get_or p (i - b) 0)
        go (yes h) =
            let less = leaves_less lost b p i h (mark h) (lost (i - b)) refl in
            let here : bit (lost (i - b)) ≡ 1 = ap bit (sym (behind_at i h)) ∙ sym one in
            let same = bool_bit (lost (i - b)) in
            let byte = mark h in
            (h, omega arith, omega (arith, less))
        go (no h) = absurd (none_one (sym (ap bit (behind_none i (omega arith))) ∙ sym one))

-- behind j steps of 64: the bits of the next
module _ (test : ℕ → Bool) (i j : ℕ) where
  pub bit_here : (x : ℕ) → j < word_bits → x ≡ number_of test i word_bits / 2 ^ j → x % 2 ≡ bit (test (i + j))
  bit_here x h is = ap (λ (k : ℕ). k % 2) is ∙ number_at test i word_bits j h

  bits_on : (x : ℕ) → x ≡ number_of test i word_bits / 2 ^ j → x / 2 ≡ number_of test i word_bits / 2 ^ (j + 1)
  bits_on x is = ap (λ (k : ℕ). k / 2) is ∙ shr-shr (number_of test i word_bits) j 1

-- and the words a step further
pub later : (test : ℕ → Bool) (i next x : ℕ) → i ≤ next → x ≡ number_of test i word_bits / 2 ^ (next - i) → x / 2 ≡ number_of test i word_bits / 2 ^ (next + 1 - i)
later test i next x l is = let on : next - i + 1 ≡ next + 1 - i = omega arith in rw (← on) (bits_on test i (next - i) x is)
