-- MOD 97-10 as arithmetic: 10 can be cancelled modulo 97, a digit from 1 to 9 has a different remainder at
-- each of twenty weights (10 has order 96 modulo 97), and the check that makes a number leave 1 is
-- unique from 2 to 98. Assumes nothing.
use Prim.Native.Nat.{ℕ, zero, suc, ◌+◌, ◌-◌, ◌*◌, ◌/◌, ◌%◌, ◌^◌, ◌<◌, ◌≤◌}
use mathlib.Core.Path.{◌≡◌, refl, sym, ap, ◌∙◌}
use mathlib.Core.Bool.{Bool, true, not}
use native.Mathlib.Omega.{arith}
use native.Mathlib.Nat.{pow-suc, mul_assoc, add-mul-mod_self_right}
use native.Mathlib.Decide.{dec_le, ℕ_discrete}
use borrow.Author.Tests.{not-true, eqb-false}
use lib.Dec.{eqb}
use lib.Pow.{pow-add}
use Rattle.refusal.proofs.Tests.{below, below_at}
use Rattle.card.specs.Card.{check_min, check_max, check_of}

-- 10 × 68 is 7 × 97 + 1
tenth : (x : ℕ) → x % 97 ≡ x * 10 % 97 * 68 % 97
tenth x =
    let e : x + x * 7 * 97 ≡ x * 10 % 97 * 68 + x * 10 / 97 * 68 * 97 = omega arith in
    sym (add-mul-mod_self_right x (x * 7) 97) ∙ ap (λ (n : ℕ). n % 97) e ∙ add-mul-mod_self_right (x * 10 % 97 * 68) (x * 10 / 97 * 68) 97

pub cancel : (k a b : ℕ) → a * 10 ^ k % 97 ≡ b * 10 ^ k % 97 → a % 97 ≡ b % 97
cancel zero a b h = omega arith
cancel (suc k) a b h =
    let x : a * 10 ^ suc k ≡ a * 10 ^ k * 10 = rw (pow-suc, mul_assoc) in
    let y : b * 10 ^ suc k ≡ b * 10 ^ k * 10 = rw (pow-suc, mul_assoc) in
    cancel k a b (tenth (a * 10 ^ k) ∙ ap (λ (r : ℕ). r * 68 % 97) (rw (← x, ← y) h) ∙ sym (tenth (b * 10 ^ k)))

-- e × 10 ^ k leaves another remainder than e, for e from 1 to 9 and k from 1 to 19
moves : ℕ → ℕ → Bool
moves k e = not (eqb (suc e * 10 ^ suc k % 97) (suc e))

all_move : below 19 (λ k. below 9 (moves k)) ≡ true
unfolding below moves
all_move = refl

pub moved : (k e : ℕ) → k < 19 → 0 < e → e ≤ 9 → e * 10 ^ suc k % 97 ≡ e % 97 → ⊥
unfolding moves
moved k zero lk low high same = omega arith
moved k (suc e) lk low high same =
    let t = below_at 9 (moves k) (below_at 19 (λ j. below 9 (moves j)) all_move k lk) e (omega arith) in
    eqb-false (suc e * 10 ^ suc k % 97) (suc e) (not-true (eqb (suc e * 10 ^ suc k % 97) (suc e)) t) (omega arith)

apart : (e m n : ℕ) → 0 < e → e ≤ 9 → m < n → n < 20 → e * 10 ^ m % 97 ≡ e * 10 ^ n % 97 → ⊥
apart e m n low high lt hn same =
    let k : n ≡ suc (n - suc m) + m = omega arith in
    let shift : e * 10 ^ n ≡ e * 10 ^ suc (n - suc m) * 10 ^ m = ap (λ (j : ℕ). e * 10 ^ j) k ∙ rw (pow-add, mul_assoc) in
    moved (n - suc m) e (omega arith) low high (cancel m (e * 10 ^ suc (n - suc m)) e (rw (← shift) (sym same)))

-- so two weights of a card that give e the same remainder are the same weight
pub same_weight : (e m n : ℕ) → 0 < e → e ≤ 9 → m < 20 → n < 20 → e * 10 ^ m % 97 ≡ e * 10 ^ n % 97 → m ≡ n
same_weight e m n low high hm hn same = go (ℕ_discrete m n)
  where
    go : Dec (m ≡ n) → m ≡ n
    go (yes equal) = equal
    go (no other) = absurd (split (dec_le m n))
      where
        split : Dec (m ≤ n) → ⊥
        split (yes le) = apart e m n low high (omega arith) hn same
        split (no gt) = apart e n m low high (omega arith) hm (sym same)

-- the check may be computed from the remainder
pub check_of_mod : (p : ℕ) → 98 - p % 97 * 100 % 97 ≡ check_of p
unfolding check_of
check_of_mod p =
    let e : p * 100 ≡ p % 97 * 100 + p / 97 * 100 * 97 = omega arith in
    rw (e, add-mul-mod_self_right (p % 97 * 100) (p / 97 * 100) 97)

pub check_range : (p : ℕ) → (check_min ≤ check_of p) × (check_of p ≤ check_max)
unfolding check_of
check_range p = omega arith

pub check_right_lem : (p : ℕ) → (p * 100 + check_of p) % 97 ≡ 1
unfolding check_of
check_right_lem p = omega arith

pub check_only : (p c : ℕ) → check_min ≤ c → c ≤ check_max → (p * 100 + c) % 97 ≡ 1 → c ≡ check_of p
unfolding check_of
check_only p c low high h = omega arith
