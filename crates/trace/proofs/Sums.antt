-- Laws of sums over positions: none and one, the cut, a part, two sums compared position by position, and the sum of
-- tests, where none passes and where all do. Every window of a trace is a difference of two sums from 0, so that what is
-- said of windows is plain arithmetic. Assumes nothing.
use Prim.Native.Nat.{ℕ, zero, suc, ◌+◌, ◌-◌, ◌<◌, ◌≤◌}
use mathlib.Core.Path.{◌≡◌, refl, ap, ◌∙◌}
use mathlib.Core.Bool.{Bool, true, false}
use native.Mathlib.Omega.{arith}
use mir.Val.{bool_byte}
use native.Mathlib.Nat.{add-suc, add-zero, zero-add, add_assoc}
use Rattle.trace.specs.Sum.{sum, bit, bits, count}

pub bit_le : (b : Bool) → bit b ≤ 1
unfolding bit
bit_le true = omega arith
bit_le false = omega arith

-- a test as the code adds it
pub bool_bit : (x : Bool) → bool_byte x ≡ bit x
unfolding bit
bool_bit true = refl
bool_bit false = refl

module _ (f : ℕ → ℕ) (start : ℕ) where
  pub sum_none : sum f start 0 ≡ 0
  unfolding sum
  sum_none = refl

  pub sum_one : sum f start 1 ≡ f start
  unfolding sum
  sum_one = rw add-zero (omega arith)

  pub sum_cut : (m n : ℕ) → sum f start (m + n) ≡ sum f start m + sum f (start + m) n
  unfolding sum
  sum_cut m zero = rw add-zero (omega arith)
  sum_cut m (suc n) = rw (add-suc, sum_cut m n, add_assoc start m n) (omega arith)

  pub sum_part : (m n : ℕ) → m ≤ n → sum f start m ≤ sum f start n
  sum_part m n h = let e : n ≡ m + (n - m) = omega arith in omega (arith, ap (sum f start) e, sum_cut m (n - m))

-- two sums that are the same position by position, from different positions on and from the same
module _ (f g : ℕ → ℕ) (start other : ℕ) where
  pub sum_moved : (n : ℕ) → ((i : ℕ) → i < n → f (start + i) ≡ g (other + i)) → sum f start n ≡ sum g other n
  unfolding sum
  sum_moved zero same = refl
  sum_moved (suc n) same = rw (sum_moved n (λ i h. same i (omega arith)), same n (omega arith))

pub sum_same : (f g : ℕ → ℕ) (start n : ℕ) → ((i : ℕ) → i < n → f (start + i) ≡ g (start + i)) → sum f start n ≡ sum g start n
sum_same f g start n same = sum_moved f g start start n same

module _ (f g h : ℕ → ℕ) (start : ℕ) where
  pub sum_both : (n : ℕ) → ((i : ℕ) → i < n → f (start + i) ≡ g (start + i) + h (start + i)) → sum f start n ≡ sum g start n + sum h start n
  unfolding sum
  sum_both zero each = omega arith
  sum_both (suc n) each = omega (arith, sum_both n (λ i l. each i (omega arith)), each n (omega arith))

pub sum_most : (f : ℕ → ℕ) (start n : ℕ) → ((i : ℕ) → f i ≤ 1) → sum f start n ≤ n
unfolding sum
sum_most f start zero small = omega arith
sum_most f start (suc n) small = omega (arith, sum_most f start n small, small (start + n))

pub count_most : (test : ℕ → Bool) (start n : ℕ) → count test start n ≤ n
count_most test start n = sum_most (bits test) start n (λ i. bit_le (test i))

pub count_none : (test : ℕ → Bool) (start n : ℕ) → ((i : ℕ) → start ≤ i → i < start + n → test i ≡ false) → count test start n ≡ 0
unfolding sum bit
count_none test start zero none = refl
count_none test start (suc n) none =
    rw (none (start + n) (omega arith) (omega arith), count_none test start n (λ i l h. none i l (omega arith)))

pub count_all : (test : ℕ → Bool) (start n : ℕ) → ((i : ℕ) → start ≤ i → i < start + n → test i ≡ true) → count test start n ≡ n
unfolding sum bit
count_all test start zero all = refl
count_all test start (suc n) all =
    rw (all (start + n) (omega arith) (omega arith), count_all test start n (λ i l h. all i l (omega arith))) (omega arith)

bit_false : (x : Bool) → bit x ≡ 0 → x ≡ false
unfolding bit
bit_false true e = absurd (omega arith)
bit_false false e = refl

-- where none is counted, none passes
pub count_zero : (test : ℕ → Bool) (start n : ℕ) → count test start n ≡ 0 → (i : ℕ) → start ≤ i → i < start + n → test i ≡ false
count_zero test start n none i l h =
    let before : n ≡ (i - start) + (1 + (n - (i - start + 1))) = omega arith in
    let place : start + (i - start) ≡ i = omega arith in
    let rest = sum_cut (bits test) i 1 (n - (i - start + 1)) in
    bit_false (test i)
    (omega (arith, ap (count test start) before, sum_cut (bits test) start (i - start) (1 + (n - (i - start + 1))), ap (λ (k : ℕ). count test k (1 + (n - (i - start + 1)))) place, sum_one (bits test) i))

-- f over the first n positions
abbrev pub up_to : (ℕ → ℕ) → ℕ → ℕ
up_to f n = sum f 0 n

module _ (f : ℕ → ℕ) where
  pub up_to_next : (i : ℕ) → up_to f (suc i) ≡ up_to f i + f i
  unfolding sum
  up_to_next i = rw (zero-add i)

  -- the window of n positions from k on, and the one from k to n, as what the sum from 0 gains
  pub up_to_window : (k n : ℕ) → up_to f (k + n) ≡ up_to f k + sum f k n
  up_to_window k n = sum_cut f 0 k n ∙ ap (λ (m : ℕ). up_to f k + sum f m n) (zero-add k)

  pub up_to_from : (k n : ℕ) → k ≤ n → up_to f n ≡ up_to f k + sum f k (n - k)
  up_to_from k n h = let e : n ≡ k + (n - k) = omega arith in ap (up_to f) e ∙ up_to_window k (n - k)
