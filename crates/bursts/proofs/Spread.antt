-- What the variance is: the laws of specs/Spread.antt. Assumes nothing.
use Prim.Native.Nat.{ℕ, suc, ◌+◌, ◌-◌, ◌*◌, ◌/◌, ◌<◌, ◌≤◌}
use mathlib.Core.Path.{◌≡◌, refl, sym, ◌∙◌}
use mathlib.Core.List.{List, [], ◌∷◌}
use native.Mathlib.Omega.{arith}
use native.Mathlib.Decide.{dec_le}
use native.Mathlib.Nat.{mul_comm, mul-add, add-mul, mul-zero, zero-mul, suc-mul, mul-pos, div-mul-le_self, lt-div-mul-add, div-eq_of_lt-le, zero-div}
use borrow.Author.Tests.{ne_eqb}
use lib.ListN.{length}
use Rattle.bursts.specs.Groups.{events_at, Group, groups, bursts_of, lasts, square, total}
use Rattle.bursts.specs.Sums.{sums_over}
use Rattle.bursts.specs.Grouping.{group}
use Rattle.bursts.specs.Figures.{ranged, duration_variance, variance_of}
use Rattle.bursts.specs.Spread.{difference, squared_differences, bursts_in, SpreadPairs, SpreadUncut, IsVariance, VarianceExactly, VarianceAlike}

-- squares of sums and of differences
pub square_add : (a b : ℕ) → square (a + b) ≡ square a + 2 * (a * b) + square b
square_add a b =
    let e : (a + b) * (a + b) ≡ a * a + b * a + (a * b + b * b) = mul-add (a + b) a b ∙ rw (add-mul a b a, add-mul a b b) in
    let c = mul_comm a b in
    omega arith

square_difference : (a b : ℕ) → square (difference a b) + 2 * (a * b) ≡ square a + square b
square_difference a b = go (dec_le a b)
  where
    up : (a k : ℕ) → square k + 2 * (a * (a + k)) ≡ square a + square (a + k)
    up a k = let e = square_add a k in let f = mul-add a a k in omega arith

    go : Dec (a ≤ b) → square (difference a b) + 2 * (a * b) ≡ square a + square b
    go (yes l) =
        let k : difference a b ≡ b - a = omega arith in
        let e : b ≡ a + (b - a) = omega arith in
        let u = up a (b - a) in
        rw k (rw (← e) at u)
    go (no g) =
        let k : difference a b ≡ a - b = omega arith in
        let e : a ≡ b + (a - b) = omega arith in
        let u = up b (a - b) in
        let c = mul_comm a b in
        let v = rw (← e) at u in
        rw k (omega arith)

-- one burst beside others, and all of them
module _ (f : Group → ℕ) where
  beside : (d : ℕ) (bs : List Group) →
      total (λ c. square (difference d (f c))) bs + 2 * (d * total f bs) ≡ length bs * square d + total (λ c. square (f c)) bs
  unfolding total
  beside d [] = let z = zero-mul (square d) in let y = mul-zero d in omega arith
  beside d (b ∷ bs) =
      let later = beside d bs in
      let here = square_difference d (f b) in
      let apart = mul-add d (f b) (total f bs) in
      let more = suc-mul (length bs) (square d) in
      omega arith

  all_pairs : (bs : List Group) → length bs * total (λ c. square (f c)) bs ≡ square (total f bs) + squared_differences f bs
  unfolding total squared_differences
  all_pairs [] = omega arith
  all_pairs (b ∷ bs) =
      let later = all_pairs bs in
      let here = beside (f b) bs in
      let sum = square_add (f b) (total f bs) in
      let more = suc-mul (length bs) (square (f b) + total (λ c. square (f c)) bs) in
      let each = mul-add (length bs) (square (f b)) (total (λ c. square (f c)) bs) in
      omega arith

pub spread_pairs : SpreadPairs
unfolding sums_over
spread_pairs event gmin spacing s = all_pairs (lasts spacing) (bursts_of (groups gmin (events_at event s)))

pub spread_uncut : SpreadUncut
spread_uncut event gmin spacing s = omega (arith, spread_pairs event gmin spacing s)

-- the integer part of a quotient
pub variance_exactly : VarianceExactly
variance_exactly s v some = (there, back)
  where
    n×n : 0 < square s.bursts
    n×n = let positive : 0 < s.bursts = omega arith in mul-pos positive positive

    spread : ℕ
    spread = s.bursts * s.squares - square s.durations

    there : v ≡ duration_variance s → IsVariance s v
    there e = rw e (record { at_least = div-mul-le_self spread (square s.bursts); below = omega (arith, add-mul (spread / square s.bursts) 1 (square s.bursts), lt-div-mul-add {a = spread} n×n) })

    back : IsVariance s v → v ≡ duration_variance s
    back i = sym (div-eq_of_lt-le (square s.bursts) i.at_least i.below)

-- bursts that have one number of f
module _ (f : Group → ℕ) (d : ℕ) where
  abbrev Alike : List Group → Type 0
  Alike bs = (k : ℕ) → k < length bs → f (group bs k) ≡ d

  none_beside : (bs : List Group) → Alike bs → total (λ c. square (difference d (f c))) bs ≡ 0
  unfolding total
  none_beside [] alike = refl
  none_beside (b ∷ bs) alike =
      let here = alike 0 (omega arith) in
      let none : difference d (f b) ≡ 0 = omega arith in
      let later = none_beside bs (λ k l. alike (suc k) (omega arith)) in
      rw none (omega arith)

  alike_pairs : (bs : List Group) → Alike bs → squared_differences f bs ≡ 0
  unfolding squared_differences
  alike_pairs [] alike = refl
  alike_pairs (b ∷ bs) alike =
      let later : Alike bs = λ k l. alike (suc k) (omega arith) in
      rw (alike 0 (omega arith), none_beside bs later, alike_pairs bs later)

pub variance_alike : VarianceAlike
unfolding variance_of ranged sums_over
variance_alike event gmin spacing d s some alike =
    let bs = bursts_in event gmin s in
    let n = length bs in
    let p = all_pairs (lasts spacing) bs in
    let none = alike_pairs (lasts spacing) d bs alike in
    let cut : n * total (λ c. square (lasts spacing c)) bs - square (total (lasts spacing) bs) ≡ 0 = omega arith in
    rw (ne_eqb n 0 (λ e. omega arith), cut, zero-div (square n))
