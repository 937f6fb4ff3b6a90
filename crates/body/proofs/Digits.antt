-- A text read digit by digit: what the number is at each turn, and how large it can be. Assumes nothing.
use Prim.Native.Nat.{ℕ, ◌+◌, ◌-◌, ◌*◌, ◌^◌, ◌≤◌, ◌<◌}
use mathlib.Core.Path.{◌≡◌}
use mathlib.Core.List.{List}
use native.Mathlib.Nat.{pow-suc, pow-le-pow_right}
use native.Mathlib.Numerals.{add-one}
use native.Mathlib.Omega.{arith}
use borrow.Author.Tests.{le-leb, lt-leb}
use lib.ListN.{length, drop, get_or, drop_of_length-le}
use lib.Seq.{drop-cons}
use Rattle.body.specs.Number.{number_from}
use Rattle.std.specs.Prelude.{Some, None}

module _ (text : List ℕ) (n i : ℕ) where
  pub goes_on : i < length text → 48 ≤ get_or text i 0 → get_or text i 0 ≤ 57 →
      number_from n (drop i text) ≡ number_from (10 * n + (get_or text i 0 - 48)) (drop (i + 1) text)
  unfolding number_from
  goes_on h low high = rw (drop-cons text i 0 h, add-one, le-leb _ _ low, le-leb _ _ high)

  pub too_low : i < length text → get_or text i 0 < 48 → number_from n (drop i text) ≡ None
  unfolding number_from
  too_low h low = rw (drop-cons text i 0 h, lt-leb _ _ low)

  pub too_high : i < length text → 57 < get_or text i 0 → number_from n (drop i text) ≡ None
  unfolding number_from
  too_high h high = rw (drop-cons text i 0 h, lt-leb _ _ high, le-leb 48 (get_or text i 0) (omega arith))

  pub ends : length text ≤ i → number_from n (drop i text) ≡ Some n
  unfolding number_from
  ends h = rw (drop_of_length-le text h)

-- i digits make a number below 10 to the i, and six digits a small one
pub grows : (n d i : ℕ) → n < 10 ^ i → d < 10 → 10 * n + d < 10 ^ (i + 1)
grows n d i h small = rw (add-one i) (omega (arith, pow-suc 10 i))

pub bounded : (n i : ℕ) → n < 10 ^ i → i ≤ 6 → n < 1000000
bounded n i h few = omega (arith, pow-le-pow_right {n = 10} (omega arith) {i = i} {j = 6} few)

-- what is tried at the goals of `body::number_in` that have no answer
pub ruleset by_digits = (too_low, too_high, ends, bounded)
