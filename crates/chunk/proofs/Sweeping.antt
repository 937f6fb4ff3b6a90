-- Chunks counted by fours: their types, their ones, and the part that they are. Assumes nothing.
use Prim.Native.Nat.{ℕ, zero, suc, ◌+◌, ◌-◌, ◌*◌, ◌/◌, ◌%◌, ◌^◌, ◌<◌, ◌≤◌}
use mathlib.Core.Path.{◌≡◌, refl, sym, ap, ap₂, ◌∙◌, subst}
use mathlib.Core.Bool.{true}
use mathlib.Core.List.{List}
use native.Mathlib.Omega.{arith}
use native.Mathlib.Decide.{ℕ_discrete}
use native.Mathlib.Nat.{div-one}
use native.Mathlib.Numerals.{add-one}
use borrow.Author.Tests.{ne_eqb, lt-ltb}
use lib.Bits.{bit_and, and_le_l, and_le_r, and_shr, and_mod}
use lib.Count.{ones, ones_cat, ones-le}
use lib.ListN.{length, take}
use Rattle.wire.specs.BigEndian.{be16}
use Rattle.trace.specs.Sum.{sum}
use Rattle.chunk.specs.Chunks.{vector_bits, packets_of, stands_at, lost_in}
use Rattle.chunk.specs.Steps.{Taken, four_at, Halves, Types, Sweeping}
use Rattle.chunk.proofs.Counting.{taken_none, taken_more, taken_one}
use Rattle.chunk.proofs.Vectors.{vector, span_vector, lost_vector}

-- one of the numbers side by side in two that have a bit each
part_and : (a b k : ℕ) → bit_and a b / 2 ^ k % 2 ^ 16 ≡ bit_and (a / 2 ^ k % 2 ^ 16) (b / 2 ^ k % 2 ^ 16)
part_and a b k = ap (λ (x : ℕ). x % 2 ^ 16) (and_shr a b k) ∙ and_mod (a / 2 ^ k) (b / 2 ^ k) 16

part_left : (a b k : ℕ) → 32768 ≤ bit_and a b / 2 ^ k % 2 ^ 16 → 32768 ≤ a / 2 ^ k % 2 ^ 16
part_left a b k h = omega (arith, part_and a b k, and_le_l (a / 2 ^ k % 2 ^ 16) (b / 2 ^ k % 2 ^ 16))

part_right : (a b k : ℕ) → 32768 ≤ bit_and a b / 2 ^ k % 2 ^ 16 → 32768 ≤ b / 2 ^ k % 2 ^ 16
part_right a b k h = omega (arith, part_and a b k, and_le_r (a / 2 ^ k % 2 ^ 16) (b / 2 ^ k % 2 ^ 16))

types_left : (a b : ℕ) → Types (bit_and a b) → Types a
types_left a b t =
    record { first = part_left a b 48 t.first; second = part_left a b 32 t.second; third = part_left a b 16 t.third; fourth = part_left a b 0 t.fourth }

types_right : (a b : ℕ) → Types (bit_and a b) → Types b
types_right a b t =
    record { first = part_right a b 48 t.first; second = part_right a b 32 t.second; third = part_right a b 16 t.third; fourth = part_right a b 0 t.fourth }

-- the test of all types at once
pub types_tested : (all : ℕ) → bit_and all 9223512776490647552 ≡ 9223512776490647552 → Types all
types_tested all e = types_left all 9223512776490647552 (rw e masks)
  where
    masks : Types 9223512776490647552
    masks = record { first = omega arith; second = omega arith; third = omega arith; fourth = omega arith }

-- Sweeping: one four more
pub sweeping_none : (s : List ℕ) (i all : ℕ) → Sweeping s i 0 all 0
unfolding sum
sweeping_none s i all = record { halves = λ k h. absurd (omega arith); vectors = λ t k h. absurd (omega arith); ones_are = refl }

module _ (s : List ℕ) (i k all total : ℕ) (g : Sweeping s i k all total) where
  pub sweeping_more : (four : ℕ) → four ≡ four_at s (i + 8 * k) → Halves s (i + 8 * k) → Sweeping s i (k + 1) (bit_and all four) (total + ones four)
  unfolding sum
  sweeping_more four is halves =
      record {
        halves = λ j h. by_half j h (ℕ_discrete j k);
        vectors = λ t j h. by_type t j h (ℕ_discrete j k);
        ones_are = rw (add-one, g.ones_are, is) (let e : 0 + k ≡ k = omega arith in ap (λ (j : ℕ). sum (λ m. ones (four_at s (i + 8 * m))) 0 k + ones (four_at s (i + 8 * j))) (sym e));
      }
    where
      by_half : (j : ℕ) → j < k + 1 → Dec (j ≡ k) → Halves s (i + 8 * j)
      by_half j h (yes e) = rw e halves
      by_half j h (no o) = g.halves j (omega arith)

      by_type : Types (bit_and all four) → (j : ℕ) → j < k + 1 → Dec (j ≡ k) → Types (four_at s (i + 8 * j))
      by_type t j h (yes e) = rw (e, ← is) (types_right all four t)
      by_type t j h (no o) = g.vectors (types_left all four t) j (omega arith)

-- the ones of a vector and of four
one_one : ones 1 ≡ 1
unfolding ones
one_one = refl

vector_ones : (c : ℕ) → 32768 ≤ c → c < 65536 → (lost_in (take vector_bits (packets_of c)) + ones c ≡ 16) × (1 ≤ ones c)
vector_ones c l h =
    let low : ℕ = c % 2 ^ 15 in
    let high : c ≡ 1 * 2 ^ 15 + low = omega arith in
    let cut : ones c ≡ ones 1 + ones low = ap ones high ∙ ones_cat 15 1 low (omega arith) in
    let lost = ap (λ (x : List ℕ). lost_in (take vector_bits x)) (vector c l) in
    let whole : ones (c % 2 ^ vector_bits / 2 ^ (vector_bits - vector_bits)) ≡ ones low = ap ones (div-one low) in
    (omega (arith, cut, one_one, lost, whole, lost_vector vector_bits c vector_bits (omega arith)), omega (arith, cut, one_one))

module _ (s : List ℕ) (i : ℕ) (h : Halves s i) where
  four_ones : ones (four_at s i) ≡ ones (be16 s i) + ones (be16 s (i + 2)) + (ones (be16 s (i + 4)) + ones (be16 s (i + 6)))
  unfolding four_at
  four_ones =
      let a : ℕ = be16 s i in
      let b : ℕ = be16 s (i + 2) in
      let c : ℕ = be16 s (i + 4) in
      let d : ℕ = be16 s (i + 6) in
      let b-fits = h.second in
      let c-fits = h.third in
      let d-fits = h.fourth in
      ones_cat 32 (a * 65536 + b) (c * 65536 + d) (omega arith)
      ∙ ap₂ ◌+◌ (ones_cat 16 a b (omega arith)) (ones_cat 16 c d (omega arith))

  four_types : Types (four_at s i) → (32768 ≤ be16 s i) × (32768 ≤ be16 s (i + 2)) × (32768 ≤ be16 s (i + 4)) × (32768 ≤ be16 s (i + 6))
  unfolding four_at
  four_types t =
      let a-fits = h.first in
      let b-fits = h.second in
      let c-fits = h.third in
      let d-fits = h.fourth in
      let first = t.first in
      let second = t.second in
      let third = t.third in
      let fourth = t.fourth in
      (omega arith, omega arith, omega arith, omega arith)

-- a whole vector, as a part
vector_taken : (s : List ℕ) (i left c : ℕ) → i + 2 ≤ length s → c ≡ be16 s i → 32768 ≤ c → c < 65536 → vector_bits ≤ left → Taken s i left 2 15 (16 - ones c)
vector_taken s i left c room is l h most =
    let bits = span_vector c l in
    let lost = (vector_ones c l h).0 in
    let some = (vector_ones c l h).1 in
    let small = ones-le 16 c (omega arith) in
    let stands : stands_at c left ≡ true = rw (ne_eqb c 0 (λ e. omega arith), lt-ltb 0 left (omega arith)) in
    taken_one s i left c room is stands 15 (16 - ones c) (omega arith) (omega arith) (omega arith)

same_taken : (s : List ℕ) (i left b p l b' p' l' : ℕ) → b ≡ b' → p ≡ p' → l ≡ l' → Taken s i left b p l → Taken s i left b' p' l'
same_taken s i left b p l b' p' l' e f g t = subst (λ (x : ℕ). Taken s i left x p' l') e (subst (λ (x : ℕ). Taken s i left b x l') f (subst (λ (x : ℕ). Taken s i left b p x) g t))

pub four_taken : (s : List ℕ) (i left : ℕ) → Halves s i → Types (four_at s i) → 60 ≤ left → i + 8 ≤ length s → Taken s i left 8 60 (64 - ones (four_at s i))
four_taken s i left h t most room =
    let is = four_types s i h t in
    let a = vector_taken s i left (be16 s i) (omega arith) refl is.0 h.first (omega arith) in
    let b = vector_taken s (i + 2) (left - 15) (be16 s (i + 2)) (omega arith) refl is.1 h.second (omega arith) in
    let c = vector_taken s (i + 4) (left - 30) (be16 s (i + 4)) (omega arith) refl is.2 h.third (omega arith) in
    let d = vector_taken s (i + 6) (left - 45) (be16 s (i + 6)) (omega arith) refl is.3 h.fourth (omega arith) in
    let few = ones-le 16 (be16 s i) h.first in
    let few_2 = ones-le 16 (be16 s (i + 2)) h.second in
    let few_3 = ones-le 16 (be16 s (i + 4)) h.third in
    let few_4 = ones-le 16 (be16 s (i + 6)) h.fourth in
    let all = four_ones s i h in
    same_taken s i left _ _ _ _ _ _ refl refl (omega arith) (taken_more s i left 6 45 _ 2 15 _ (taken_more s i left 4 30 _ 2 15 _ (taken_more s i left 2 15 _ 2 15 _ a b) c) d)

-- as many fours as were swept
pub four_fits : (s : List ℕ) (i : ℕ) → Halves s i → ones (four_at s i) ≤ 64
unfolding four_at
four_fits s i h =
    let a = h.first in
    let b = h.second in
    let c = h.third in
    let d = h.fourth in
    ones-le 64 (four_at s i) (omega arith)

few_ones : (s : List ℕ) (i m : ℕ) → ((k : ℕ) → k < m → Halves s (i + 8 * k)) → sum (λ k. ones (four_at s (i + 8 * k))) 0 m ≤ 64 * m
unfolding sum
few_ones s i zero h = omega arith
few_ones s i (suc m) h =
    let here : 0 + m ≡ m = omega arith in
    let one : ones (four_at s (i + 8 * (0 + m))) ≤ 64 = rw here (four_fits s (i + 8 * m) (h m (omega arith))) in
    omega (arith, few_ones s i m (λ k l. h k (omega arith)))

pub sweeping_all : (s : List ℕ) (i k m all total : ℕ) → Sweeping s i k all total → k ≡ m → Sweeping s i m all total
sweeping_all s i k m all total g e = subst (λ (n : ℕ). Sweeping s i n all total) e g

pub sweeping_few : (s : List ℕ) (i m all total : ℕ) → Sweeping s i m all total → total ≤ 64 * m
sweeping_few s i m all total g = omega (arith, g.ones_are, few_ones s i m g.halves)

pub fours_taken : (s : List ℕ) (i left m : ℕ) → ((k : ℕ) → k < m → Halves s (i + 8 * k)) → ((k : ℕ) → k < m → Types (four_at s (i + 8 * k))) →
    60 * m ≤ left → i + 8 * m ≤ length s → Taken s i left (8 * m) (60 * m) (64 * m - sum (λ k. ones (four_at s (i + 8 * k))) 0 m)
unfolding sum
fours_taken s i left zero h t most room = taken_none s i left (omega arith)
fours_taken s i left (suc m) h t most room =
    let f : ℕ → ℕ = λ k. ones (four_at s (i + 8 * k)) in
    let last : f (0 + m) ≡ f m = ap f (let e : 0 + m ≡ m = omega arith in e) in
    let before = fours_taken s i left m (λ k l. h k (omega arith)) (λ k l. t k (omega arith)) (omega arith) (omega arith) in
    let next = four_taken s (i + 8 * m) (left - 60 * m) (h m (omega arith)) (t m (omega arith)) (omega arith) (omega arith) in
    let few = few_ones s i m (λ k l. h k (omega arith)) in
    let most-here = four_fits s (i + 8 * m) (h m (omega arith)) in
    same_taken s i left _ _ _ _ _ _ (omega arith) (omega arith) (omega arith) (taken_more s i left (8 * m) (60 * m) _ 8 60 _ before next)
