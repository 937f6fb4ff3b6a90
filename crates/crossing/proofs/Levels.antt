-- What has entered and left until a step, beside what the code keeps of both: the difference alone counts. Assumes nothing.
use Prim.Native.Nat.{ℕ, suc, ◌+◌, ◌-◌, ◌/◌, ◌%◌, ◌^◌, ◌<◌, ◌≤◌}
use mathlib.Core.Path.{◌≡◌, refl, sym, ap, ◌∙◌}
use mathlib.Core.Bool.{Bool, true, false, cond}
use native.Mathlib.Omega.{arith}
use native.Mathlib.Decide.{dec_lt}
use native.Mathlib.Nat.{div-one}
use native.Mathlib.Numerals.{add-one}
use borrow.Author.Tests.{lt-ltb, le-ltb}
use lib.Dec.{ltb}
use lib.Bits.{bit_xor}
use lib.Count.{ones, count_trailing_zeros}
use lib.Pow.{mod-mod-pow, shr-shr, shr_lt}
use mir.Val.{bool_byte}
use Rattle.trace.specs.Sum.{bit, bits, count}
use Rattle.trace.proofs.Sums.{bool_bit, sum_none, sum_part, count_most, count_none, count_all, up_to_next, up_to_window}
use Rattle.packed.specs.Words.{word_bits, one_at}
use Rattle.packed.proofs.Numbers.{number_of_lem, number_ones, bit_of}
use Rattle.crossing.specs.Crossing.{over_after, over_among}
use Rattle.crossing.proofs.Differing.{first_differ}

-- two comparisons at the same distance come out the same
same_test : (low high x y : ℕ) → low + y ≡ high + x → ltb low high ≡ ltb x y
same_test low high x y e = go (dec_lt low high)
  where
    go : Dec (low < high) → ltb low high ≡ ltb x y
    go (yes l) = lt-ltb low high l ∙ sym (lt-ltb x y (omega arith))
    go (no l) = le-ltb low high (omega arith) ∙ sym (le-ltb x y (omega arith))

-- numbers that agree in the n bits from d on have as many ones there
pub same_count : (x y d n : ℕ) → x / 2 ^ d % 2 ^ n ≡ y / 2 ^ d % 2 ^ n → count (one_at x) d n ≡ count (one_at y) d n
same_count x y d n e =
    sym (number_ones (one_at x) d n) ∙ ap ones (number_of_lem x d n ∙ e ∙ sym (number_of_lem y d n)) ∙ number_ones (one_at y) d n

-- what is left of two numbers of 64 bits behind j steps, where it differs
pub record Change (entering leaving j m : ℕ) : Type 0 where
  pub within : j + m < word_bits
  pub same : leaving / 2 ^ j % 2 ^ m ≡ entering / 2 ^ j % 2 ^ m

pub change_at : (entering leaving j a b : ℕ) → entering < 2 ^ 64 → leaving < 2 ^ 64 → j ≤ word_bits → a ≡ entering / 2 ^ j → b ≡ leaving / 2 ^ j →
    (a ≡ b → ⊥) → Change entering leaving j (count_trailing_zeros 64 (bit_xor a b))
change_at entering leaving j a b few few' l enters leaves other =
    let size : word_bits ≡ (word_bits - j) + j = omega arith in
    let small : a < 2 ^ (word_bits - j) = rw enters (shr_lt (word_bits - j) j (rw (← size) few)) in
    let small' : b < 2 ^ (word_bits - j) = rw leaves (shr_lt (word_bits - j) j (rw (← size) few')) in
    let first = first_differ (word_bits - j) 64 a b (omega arith) small small' other in
    let m : ℕ = count_trailing_zeros 64 (bit_xor a b) in
    record {
      within = omega (arith, first.within);
      same = ap (λ (k : ℕ). k % 2 ^ m) (sym leaves) ∙ sym first.below ∙ ap (λ (k : ℕ). k % 2 ^ m) enters;
    }

module _ (t h entering leaving : ℕ) where
  -- what has entered, and left, in the first j steps
  abbrev gained : ℕ → ℕ
  gained j = h + count (one_at entering) 0 j

  abbrev dropped : ℕ → ℕ
  dropped j = t + count (one_at leaving) 0 j

  -- Behind j of n steps `over` batches were over; low and high are as far apart as the threshold with what left and the count with
  -- what entered.
  pub record Crossed (n low high over j : ℕ) : Type 0 where
    pub within : j ≤ n
    pub level : low + gained j ≡ high + dropped j
    pub few : (low ≤ t + j) × (high ≤ h + j)
    pub part : over ≡ over_among t h entering leaving j

  pub crossed_none : (n : ℕ) → Crossed n t h 0 0
  crossed_none n =
      let none = sum_none (bits (one_at entering)) 0 in
      let none' = sum_none (bits (one_at leaving)) 0 in
      record { within = omega arith; level = omega arith; few = (omega arith, omega arith); part = sym (sum_none (bits (over_after t h entering leaving)) 0) }

  module _ (n low high over j : ℕ) (c : Crossed n low high over j) where
    pub crossed_small : over ≤ j
    crossed_small = omega (arith, c.part, count_most (over_after t h entering leaving) 0 j)

    -- what has entered and left n steps further on
    later : (x n : ℕ) → count (one_at x) 0 (j + n) ≡ count (one_at x) 0 j + count (one_at x) j n
    later x n = up_to_window (bits (one_at x)) j n

    -- one step further
    pub crossed_next : (left came : ℕ) → left ≡ leaving / 2 ^ j % 2 → came ≡ entering / 2 ^ j % 2 → j < n →
        Crossed n (low + left) (high + came) (over + bool_byte (ltb (low + left) (high + came))) (j + 1)
    unfolding over_after
    crossed_next left came leaves enters l =
        let out = up_to_next (bits (one_at leaving)) j in
        let in' = up_to_next (bits (one_at entering)) j in
        let out-bit = bit_of leaving j in
        let in-bit = bit_of entering j in
        let level = c.level in
        let few = c.few in
        let there : low + left + gained (suc j) ≡ high + came + dropped (suc j) = omega arith in
        let test = bool_bit (ltb (low + left) (high + came)) ∙ ap bit (same_test (low + left) (high + came) (dropped (suc j)) (gained (suc j)) there) in
        rw (add-one j)
        record {
          within = l;
          level = there;
          few = (omega arith, omega arith);
          part = omega (arith, c.part, up_to_next (bits (over_after t h entering leaving)) j, test);
        }

    -- m steps further, at each of which as many enter as leave
    module _ (m : ℕ) (same : leaving / 2 ^ j % 2 ^ m ≡ entering / 2 ^ j % 2 ^ m) where
      as_many : (i : ℕ) → i ≤ m → count (one_at leaving) j i ≡ count (one_at entering) j i
      as_many i l =
          let size : m ≡ (m - i) + i = omega arith in
          let low_part : (x : ℕ) → x / 2 ^ j % 2 ^ m % 2 ^ i ≡ x / 2 ^ j % 2 ^ i = λ x. ap (λ (k : ℕ). x / 2 ^ j % 2 ^ k % 2 ^ i) size ∙ mod-mod-pow (x / 2 ^ j) (m - i) i in
          same_count leaving entering j i (sym (low_part leaving) ∙ ap (λ (k : ℕ). k % 2 ^ i) same ∙ low_part entering)

      level_on : (i : ℕ) → i ≤ m → low + gained (j + i) ≡ high + dropped (j + i)
      level_on i l = omega (arith, c.level, as_many i l, later leaving i, later entering i)

      test_on : (i : ℕ) → j ≤ i → i < j + m → over_after t h entering leaving i ≡ ltb low high
      unfolding over_after
      test_on i at l =
          let step : suc i ≡ j + (suc i - j) = omega arith in
          sym (same_test low high (dropped (suc i)) (gained (suc i)) (rw step (level_on (suc i - j) (omega arith))))

      all_same : (x : Bool) → ltb low high ≡ x → count (over_after t h entering leaving) j m ≡ cond x m 0
      all_same true e = count_all (over_after t h entering leaving) j m (λ i at l. test_on i at l ∙ e)
      all_same false e = count_none (over_after t h entering leaving) j m (λ i at l. test_on i at l ∙ e)

      pub crossed_same : j + m ≤ n → Crossed n low high (over + cond (ltb low high) m 0) (j + m)
      crossed_same l =
          let few = c.few in
          record {
            within = l;
            level = level_on m (omega arith);
            few = (omega arith, omega arith);
            part = omega (arith, c.part, all_same (ltb low high) refl, up_to_window (bits (over_after t h entering leaving)) j m);
          }

  -- to the next change, behind m steps without one
  pub crossed_change : (n low high over j : ℕ) → Crossed n low high over j → (m more left came : ℕ) →
      leaving / 2 ^ j % 2 ^ m ≡ entering / 2 ^ j % 2 ^ m → j + m < n → more ≡ cond (ltb low high) m 0 →
      left ≡ leaving / 2 ^ j / 2 ^ m % 2 → came ≡ entering / 2 ^ j / 2 ^ m % 2 →
      Crossed n (low + left) (high + came) (over + more + bool_byte (ltb (low + left) (high + came))) (j + (m + 1))
  crossed_change n low high over j c m more left came same l counts leaves enters =
      let place : j + (m + 1) ≡ j + m + 1 = omega arith in
      rw (place, counts)
      (crossed_next n low high (over + cond (ltb low high) m 0) (j + m) (crossed_same n low high over j c m same (omega arith)) left came
      (leaves ∙ ap (λ (k : ℕ). k % 2) (shr-shr leaving j m)) (enters ∙ ap (λ (k : ℕ). k % 2) (shr-shr entering j m)) l)

  pub crossed_all : (n low high over j : ℕ) → Crossed n low high over j → n ≤ j → over ≡ over_among t h entering leaving n
  crossed_all n low high over j c l = let end : j ≡ n = omega (arith, c.within) in c.part ∙ rw end

  -- the rest, where no change is left
  pub crossed_rest : (n low high over j more : ℕ) → Crossed n low high over j → leaving / 2 ^ j ≡ entering / 2 ^ j → more ≡ cond (ltb low high) (n - j) 0 →
      over + more ≡ over_among t h entering leaving n
  crossed_rest n low high over j more c same counts =
      let within = c.within in
      rw counts
      (crossed_all n low high (over + cond (ltb low high) (n - j) 0) (j + (n - j))
      (crossed_same n low high over j c (n - j) (ap (λ (k : ℕ). k % 2 ^ (n - j)) same) (omega arith)) (omega arith))

  -- and where the count cannot cross the threshold: none of 64 is over, or all are
  module _ (n : ℕ) where
    pub none_crosses : gained n ≤ t → over_among t h entering leaving n ≡ 0
    unfolding over_after
    none_crosses l =
        count_none (over_after t h entering leaving) 0 n
        (λ j at m. le-ltb (dropped (suc j)) (gained (suc j)) (omega (arith, sum_part (bits (one_at entering)) 0 (suc j) n (omega arith))))

    pub all_cross : dropped n < h → over_among t h entering leaving n ≡ n
    unfolding over_after
    all_cross l =
        count_all (over_after t h entering leaving) 0 n
        (λ j at m. lt-ltb (dropped (suc j)) (gained (suc j)) (omega (arith, sum_part (bits (one_at leaving)) 0 (suc j) n (omega arith))))

  -- Where a loop over the steps stands: what is counted, and the words without the j packets that have been gone by.
  pub record Behind (n low high over j enters leaves : ℕ) : Type 0 where
    pub crossed : Crossed n low high over j
    pub few : (j ≤ n) × (low ≤ t + j) × (high ≤ h + j) × (over ≤ j)
    pub came : enters ≡ entering / 2 ^ j
    pub left : leaves ≡ leaving / 2 ^ j

  behind_crossed : (n low high over j enters leaves : ℕ) → Crossed n low high over j → enters ≡ entering / 2 ^ j → leaves ≡ leaving / 2 ^ j →
      Behind n low high over j enters leaves
  behind_crossed n low high over j enters leaves c came left =
      record { crossed = c; few = (c.within, c.few.0, c.few.1, crossed_small n low high over j c); came = came; left = left }

  pub behind_none : (n : ℕ) → Behind n t h 0 0 entering leaving
  behind_none n = behind_crossed n t h 0 0 entering leaving (crossed_none n) (sym (div-one entering)) (sym (div-one leaving))

  module _ (n low high over j enters leaves : ℕ) (b : Behind n low high over j enters leaves) where
    -- one step further
    pub behind_next : j < n →
        Behind n (low + leaves % 2) (high + enters % 2) (over + bool_byte (ltb (low + leaves % 2) (high + enters % 2))) (j + 1) (enters / 2) (leaves / 2)
    behind_next l =
        behind_crossed n _ _ _ _ _ _
        (crossed_next n low high over j b.crossed _ _ (ap (λ (k : ℕ). k % 2) b.left) (ap (λ (k : ℕ). k % 2) b.came) l)
        (ap (λ (k : ℕ). k / 2) b.came ∙ shr-shr entering j 1) (ap (λ (k : ℕ). k / 2) b.left ∙ shr-shr leaving j 1)

    -- where the words of 64 steps still differ, the next change
    pub behind_change : n ≡ word_bits → entering < 2 ^ 64 → leaving < 2 ^ 64 → (enters ≡ leaves → ⊥) → Change entering leaving j (count_trailing_zeros 64 (bit_xor enters leaves))
    behind_change whole few few' other = change_at entering leaving j enters leaves few few' (omega (arith, b.few, whole)) b.came b.left other

    -- and behind it
    pub behind_changed : (m more : ℕ) → Change entering leaving j m → n ≡ word_bits → more ≡ cond (ltb low high) m 0 →
        Behind n (low + leaves / 2 ^ m % 2) (high + enters / 2 ^ m % 2) (over + more + bool_byte (ltb (low + leaves / 2 ^ m % 2) (high + enters / 2 ^ m % 2))) (j + (m + 1)) (enters / 2 ^ m / 2) (leaves / 2 ^ m / 2)
    behind_changed m more next whole counts =
        behind_crossed n _ _ _ _ _ _
        (crossed_change n low high over j b.crossed m more _ _ next.same (omega (arith, next.within, whole)) counts
        (ap (λ (k : ℕ). k / 2 ^ m % 2) b.left) (ap (λ (k : ℕ). k / 2 ^ m % 2) b.came))
        (ap (λ (k : ℕ). k / 2 ^ m / 2) b.came ∙ gone entering m) (ap (λ (k : ℕ). k / 2 ^ m / 2) b.left ∙ gone leaving m)
      where
        gone : (x m : ℕ) → x / 2 ^ j / 2 ^ m / 2 ≡ x / 2 ^ (j + (m + 1))
        gone x m = shr-shr (x / 2 ^ j) m 1 ∙ shr-shr x j (m + 1)

    -- all steps, and those that are left where no change is
    pub behind_all : n ≤ j → over ≡ over_among t h entering leaving n
    behind_all l = crossed_all n low high over j b.crossed l

    pub behind_rest : (more : ℕ) → leaves ≡ enters → more ≡ cond (ltb low high) (n - j) 0 → over + more ≡ over_among t h entering leaving n
    behind_rest more same counts = crossed_rest n low high over j more b.crossed (sym b.left ∙ same ∙ b.came) counts
