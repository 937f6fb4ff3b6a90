-- Positions lie from 0 to 1, in the order of their rates. Assumes nothing.
use mathlib.Core.Path.{◌≡◌, refl, sym, ap, ◌∙◌}
use Prim.Native.Nat.{ℕ, ◌*◌, ◌≤◌, ◌<◌}
use native.Mathlib.Nat.{lt_of_mul-lt-mul_right, mul-lt-mul_of_pos_right, eq_of_mul-eq-mul_right, mul_right_comm, mul_assoc, mul_comm, mul-pos, mul-le-mul_right}
use native.Mathlib.Omega.{arith}
use mathlib.Core.Bool.{Bool, true, false, ◌&&◌, true≢false}
use lib.Dec.{T, ltb, eqb, lit<}
use lib.Ieee.{Float, nan, inf, fin, up, down, lt, eq, le, of_int, of_bits, round}
use lib.Ieee.Fits.{down_pos}
use lib.Ieee.Exact.{HasValue}
use lib.Ieee.Order.{le_of_values}
use borrow.Author.Tests.{ltb-true, lt-ltb, eqb-true, eq-eqb}
use Rattle.refusal.proofs.Tests.{same_test}
use Rattle.dials.specs.Position.{rate_bits, position}
use Rattle.dials.specs.Laws.{PositionEnds, PositionRange, PositionOrder}
use Rattle.dials.proofs.Value.{position_value}

-- Two numbers that c times over are k times two others compare as those do.
ltb_scaled : (x y a b c k : ℕ) → 0 < c → 0 < k → x * c ≡ a * k → y * c ≡ b * k → ltb x y ≡ ltb a b
ltb_scaled x y a b c k C K p q =
    same_test (ltb x y) (ltb a b)
    (λ h. lt-ltb a b (lt_of_mul-lt-mul_right k (subst2 p q (mul-lt-mul_of_pos_right (ltb-true x y h) C))))
    (λ h. lt-ltb x y (lt_of_mul-lt-mul_right c (subst2 (sym p) (sym q) (mul-lt-mul_of_pos_right (ltb-true a b h) K))))
  where
    subst2 : {m n i j : ℕ} → m ≡ i → n ≡ j → m < n → i < j
    subst2 e f h = rw (← e, ← f) h

eqb_scaled : (x y a b c k : ℕ) → 0 < c → 0 < k → x * c ≡ a * k → y * c ≡ b * k → eqb x y ≡ eqb a b
eqb_scaled x y a b c k C K p q =
    same_test (eqb x y) (eqb a b)
    (λ h. eq-eqb a b (eq_of_mul-eq-mul_right k K a b (sym p ∙ ap (λ (z : ℕ). z * c) (eqb-true x y h) ∙ q)))
    (λ h. eq-eqb x y (eq_of_mul-eq-mul_right c C x y (p ∙ ap (λ (z : ℕ). z * k) (eqb-true a b h) ∙ sym q)))

-- a value a / c with the other's denominator multiplied out
crossed : (x a c k l : ℕ) → x * c ≡ a * k → x * l * c ≡ a * (k * l)
crossed x a c k l p = mul_right_comm x l c ∙ ap (λ (z : ℕ). z * l) p ∙ mul_assoc a k l

-- Two values that are a / c and b / c compare as a and b do.
compared : (x y : Float) (a b c : ℕ) → 0 < c → HasValue x false a c → HasValue y false b c → (lt x y ≡ ltb a b) × (eq x y ≡ eqb a b)
unfolding lt eq
compared nan y a b c C v w = absurd v
compared (inf s) y a b c C v w = absurd v
compared (fin true m e) y a b c C v w = absurd (true≢false v.0)
compared (fin false m e) nan a b c C v w = absurd w
compared (fin false m e) (inf t) a b c C v w = absurd w
compared (fin false m e) (fin true n d) a b c C v w = absurd (true≢false w.0)
compared (fin false m e) (fin false n d) a b c C v w =
    let x = m * up e * down d in
    let y = n * up d * down e in
    let k = down e * down d in
    let K = mul-pos (down_pos e) (down_pos d) in
    let p : x * c ≡ a * k = crossed (m * up e) a c (down e) (down d) v.1 in
    let q : y * c ≡ b * k = crossed (n * up d) b c (down d) (down e) w.1 ∙ ap (λ (z : ℕ). b * z) (mul_comm (down d) (down e)) in
    (ltb_scaled x y a b c k C K p q, and-true (eqb x y) ∙ eqb_scaled x y a b c k C K p q)
  where
    and-true : (t : Bool) → (t && true) ≡ t
    and-true true = refl
    and-true false = refl

pub position_order : PositionOrder
position_order m n low high = compared (position m) (position n) m n 32768 (lit< tt) (position_value m low) (position_value n high)

pub position_ends : PositionEnds
unfolding position rate_bits of_bits of_int round
position_ends = (refl, refl)

pub position_range : PositionRange
unfolding position rate_bits of_bits of_int round
position_range n h = (between 0 n (omega arith) h, between n 32768 h (omega arith))
  where
    between : (m n : ℕ) → m ≤ n → n ≤ 32768 → T (le (position m) (position n))
    between m n low high =
        le_of_values (position m) (position n) m 32768 n 32768 (lit< tt) (lit< tt) (position_value m (omega arith)) (position_value n high) (mul-le-mul_right 32768 low)
