-- The running count: from a batch to a later one it gains what entered since and drops what left, and this bounds the
-- losses of every batch between them. Assumes nothing.
use Prim.Native.Nat.{ℕ, ◌+◌, ◌-◌, ◌<◌, ◌≤◌}
use mathlib.Core.Path.{◌≡◌, sym, ap, ◌∙◌}
use mathlib.Core.Bool.{Bool}
use native.Mathlib.Omega.{arith}
use borrow.Author.Tests.{lt-ltb, le-ltb}
use Rattle.trace.specs.Sum.{bit, bits, count}
use Rattle.trace.proofs.Sums.{sum_one, sum_part, count_none, count_all, up_to, up_to_window}
use Rattle.batch.specs.Batches.{losses_in, is_over}

module _ (lost : ℕ → Bool) (b k : ℕ) where
  -- what the batch n further on holds
  slide : (n : ℕ) → losses_in lost b (k + n) + count lost k n ≡ losses_in lost b k + count lost (k + b) n
  slide n =
      let f = bits lost in
      let same : k + n + b ≡ k + b + n = omega arith in
      omega (arith, up_to_window f (k + n) b, up_to_window f k n, up_to_window f k b, up_to_window f (k + b) n, ap (up_to f) same)

  -- `losses` of batch k, with what enters and without what leaves until batch k + n
  pub record Slid (n losses entering leaving : ℕ) : Type 0 where
    pub enough : leaving ≤ losses + entering
    pub value : losses + entering - leaving ≡ losses_in lost b (k + n)

  module _ (losses : ℕ) (is : losses ≡ losses_in lost b k) (entering leaving : ℕ) where
    pub slid : (n : ℕ) → entering ≡ count lost (k + b) n → leaving ≡ count lost k n → Slid n losses entering leaving
    slid n in_is out-is = let s = slide n in record { enough = omega arith; value = omega arith }

    pub slid_one : entering ≡ bit (lost (k + b)) → leaving ≡ bit (lost k) → Slid 1 losses entering leaving
    slid_one in_is out-is = slid 1 (in_is ∙ sym (sum_one (bits lost) (k + b))) (out-is ∙ sym (sum_one (bits lost) k))

  -- the batches after k, up to k + n
  module _ (n j : ℕ) (after : k < j) (within : j ≤ k + n) where
    along : losses_in lost b j + count lost k (j - k) ≡ losses_in lost b k + count lost (k + b) (j - k)
    along = let e : k + (j - k) ≡ j = omega arith in rw (← ap (losses_in lost b) e) (slide (j - k))

    most : losses_in lost b j ≤ losses_in lost b k + count lost (k + b) n
    most = omega (arith, along, sum_part (bits lost) (k + b) (j - k) n (omega arith))

    least : losses_in lost b k ≤ losses_in lost b j + count lost k n
    least = omega (arith, along, sum_part (bits lost) k (j - k) n (omega arith))

  module _ (t n : ℕ) where
    -- what enters cannot take a batch over the threshold
    pub all_under : losses_in lost b k + count lost (k + b) n ≤ t → (j : ℕ) → k < j → j ≤ k + n → losses_in lost b j ≤ t
    all_under h j after within = omega (arith, most n j after within)

    pub under_counted : losses_in lost b k + count lost (k + b) n ≤ t → count (is_over lost b t) (k + 1) n ≡ 0
    under_counted h = count_none (is_over lost b t) (k + 1) n (λ j l m. le-ltb t (losses_in lost b j) (all_under h j (omega arith) (omega arith)))

    -- what leaves cannot take one back
    pub over_counted : t + count lost k n < losses_in lost b k → count (is_over lost b t) (k + 1) n ≡ n
    over_counted h =
        count_all (is_over lost b t) (k + 1) n (λ j l m. lt-ltb t (losses_in lost b j) (omega (arith, least n j (omega arith) (omega arith))))
