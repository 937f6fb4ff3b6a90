-- Windows of packed words: a packet in its word, the 64 packets from any on out of two words, and the words that are needed.
-- Assumes nothing.
use Prim.Native.Nat.{ℕ, ◌+◌, ◌-◌, ◌*◌, ◌/◌, ◌%◌, ◌^◌, ◌<◌, ◌≤◌}
use mathlib.Core.Path.{◌≡◌, sym, ap, ap₂, ◌∙◌}
use mathlib.Core.Bool.{false}
use mathlib.Core.List.{List}
use native.Mathlib.Omega.{arith}
use native.Mathlib.Nat.{add-zero, zero-add, zero-mul, zero-div, zero-mod, mod-one, div-one, mod-eq_of_lt, mul-mod_left}
use lib.Bits.{bit_or, or_shifted_r}
use lib.ListN.{length, get_or, take, get_or-eq_default}
use lib.Seq.{get_or-take}
use lib.Pow.{mod-pow-add, shl-shr, shr_lt}
use Rattle.packed.specs.Words.{word_bits, one_at, one_in, words_for, number_of}
use Rattle.packed.proofs.Numbers.{number_cut, number_same, number_zero, number_of_lem}

-- packet 64 q + j is bit j of word q
pub one_word : (words : List ℕ) (q j : ℕ) → j < word_bits → one_in words (word_bits * q + j) ≡ one_at (get_or words q 0) j
unfolding one_in
one_word words q j h =
    let word : (word_bits * q + j) / word_bits ≡ q = omega arith in
    let place : (word_bits * q + j) % word_bits ≡ j = omega arith in
    rw (word, place)

-- n packets of a word, from bit r on
pub part_word : (words : List ℕ) (q r n : ℕ) → r + n ≤ word_bits → number_of (one_in words) (word_bits * q + r) n ≡ get_or words q 0 / 2 ^ r % 2 ^ n
part_word words q r n h =
    number_same (one_in words) (one_at (get_or words q 0)) (word_bits * q + r) r n
    (λ j l. let at : word_bits * q + r + j ≡ word_bits * q + (r + j) = omega arith in rw at (one_word words q (r + j) (omega arith)))
    ∙ number_of_lem (get_or words q 0) r n

-- past the words nothing is lost
pub zero_past : (words : List ℕ) (i : ℕ) → length words ≤ i / word_bits → one_in words i ≡ false
unfolding one_in one_at
zero_past words i h = rw (get_or-eq_default words 0 h, zero-div (2 ^ (i % word_bits)))

pub window_past : (words : List ℕ) (i : ℕ) → length words ≤ i / word_bits → 0 ≡ number_of (one_in words) i word_bits
window_past words i h = sym (number_zero (one_in words) i word_bits (λ j l. zero_past words (i + j) (omega arith)))

-- 64 packets out of two words
module _ (words : List ℕ) (i : ℕ) (fits : get_or words (i / word_bits) 0 < 2 ^ 64) where
  abbrev q : ℕ
  q = i / word_bits

  abbrev r : ℕ
  r = i % word_bits

  window_at_lem : number_of (one_in words) i word_bits ≡ get_or words (q + 1) 0 % 2 ^ r * 2 ^ (word_bits - r) + get_or words q 0 / 2 ^ r
  window_at_lem =
      let size : word_bits ≡ (word_bits - r) + r = omega arith in
      let here : i ≡ word_bits * q + r = omega arith in
      let next : i + (word_bits - r) ≡ word_bits * (q + 1) + 0 = omega arith in
      let high = ap (λ (k : ℕ). number_of (one_in words) k r) next ∙ part_word words (q + 1) 0 r (omega arith) ∙ ap (λ (k : ℕ). k % 2 ^ r) (div-one (get_or words (q + 1) 0)) in
      let small : get_or words q 0 / 2 ^ r < 2 ^ (word_bits - r) = shr_lt (word_bits - r) r (rw (← size) fits) in
      let low = ap (λ (k : ℕ). number_of (one_in words) k (word_bits - r)) here ∙ part_word words q r (word_bits - r) (omega arith) ∙ mod-eq_of_lt small in
      ap (number_of (one_in words) i) size ∙ number_cut (one_in words) i (word_bits - r) r ∙ ap₂ (λ (x y : ℕ). x * 2 ^ (word_bits - r) + y) high low

  pub window_aligned : r ≡ 0 → get_or words q 0 / 2 ^ r ≡ number_of (one_in words) i word_bits
  window_aligned e = sym (window_at_lem ∙ rw (e, mod-one (get_or words (q + 1) 0), zero-mul (2 ^ 64), zero-add (get_or words q 0 / 1)))

  pub window_last : length words ≤ q + 1 → get_or words q 0 / 2 ^ r ≡ number_of (one_in words) i word_bits
  window_last h =
      let none : get_or words (q + 1) 0 % 2 ^ r ≡ 0 = rw (get_or-eq_default words 0 h) (zero-mod (2 ^ r)) in
      sym (window_at_lem ∙ rw (none, zero-mul (2 ^ (word_bits - r)), zero-add (get_or words q 0 / 2 ^ r)))

  pub window_both : bit_or (get_or words q 0 / 2 ^ r) (get_or words (q + 1) 0 * 2 ^ (word_bits - r) % 2 ^ 64) ≡ number_of (one_in words) i word_bits
  window_both =
      let w : ℕ = get_or words (q + 1) 0 in
      let d : ℕ = word_bits - r in
      let size : word_bits ≡ r + d = omega arith in
      let again : word_bits ≡ d + r = omega arith in
      let small : get_or words q 0 / 2 ^ r < 2 ^ d = shr_lt d r (rw (← again) fits) in
      let shifted : w * 2 ^ d % 2 ^ 64 ≡ w % 2 ^ r * 2 ^ d =
      ap (λ (k : ℕ). w * 2 ^ d % 2 ^ k) size ∙ mod-pow-add (w * 2 ^ d) r d
      ∙ ap₂ (λ (x y : ℕ). x % 2 ^ r * 2 ^ d + y) (shl-shr w d) (mul-mod_left w (2 ^ d)) ∙ add-zero (w % 2 ^ r * 2 ^ d)
      in
      ap (bit_or (get_or words q 0 / 2 ^ r)) shifted ∙ or_shifted_r (w % 2 ^ r) d (get_or words q 0 / 2 ^ r) small ∙ sym window_at_lem

-- the packets of the words that are needed are those of all the words
pub one_needed : (words : List ℕ) (packets i : ℕ) → i < packets → one_in (take (words_for packets) words) i ≡ one_in words i
unfolding one_in
one_needed words packets i h = ap (λ (w : ℕ). one_at w (i % word_bits)) (get_or-take (words_for packets) words (i / word_bits) 0 (omega arith))
