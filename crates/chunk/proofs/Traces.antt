-- The lost packets of a trace, taken apart: one packet, two stretches, packets alike; and the front of two stretches.
-- Assumes nothing.
use Prim.Native.Nat.{ℕ, zero, suc, ◌+◌, ◌-◌, ◌≤◌, min}
use mathlib.Core.Path.{◌≡◌, refl, sym, ap, ap₂, ◌∙◌}
use mathlib.Core.List.{List, [], ◌∷◌, ◌++◌}
use native.Mathlib.Omega.{arith}
use native.Mathlib.Decide.{dec_le}
use native.Mathlib.Nat.{zero-add, zero-sub, sub-zero, suc-sub-suc, zero-min, min-zero, suc-min-suc}
use lib.ListN.{length, take, replicate, length-replicate, get_or-replicate}
use lib.Seq.{take_all, take-length}
use Rattle.trace.specs.Sum.{sum, bit, bits}
use Rattle.trace.specs.Trace.{counts_as, counted_at}
use Rattle.trace.specs.declared.Event.TheVariants.{Lost}
use Rattle.trace.proofs.Sums.{sum_cut, sum_one, count_all, count_none}
use Rattle.chunk.specs.Chunks.{lost_in}

-- a sum from one position further on
later : (f g : ℕ → ℕ) → ((i : ℕ) → f (suc i) ≡ g i) → (n : ℕ) → sum f 1 n ≡ sum g 0 n
unfolding sum
later f g next zero = refl
later f g next (suc n) =
    let one : 1 + n ≡ suc n = omega arith in
    let none : 0 + n ≡ n = omega arith in
    rw (one, none, later f g next n, next n)

-- 1 for a lost packet, 0 for another
abbrev pub lost_bit : ℕ → ℕ
lost_bit packet = bit (counts_as Lost packet)

pub lost_cons : (packet : ℕ) (s : List ℕ) → lost_in (packet ∷ s) ≡ lost_bit packet + lost_in s
lost_cons packet s =
    let f : ℕ → ℕ = bits (counted_at Lost (packet ∷ s)) in
    let one : suc (length s) ≡ 1 + length s = omega arith in
    ap (sum f 0) one ∙ sum_cut f 0 1 (length s) ∙ ap₂ ◌+◌ (sum_one f 0) (later f (bits (counted_at Lost s)) (λ i. refl) (length s))

pub lost_append : (s t : List ℕ) → lost_in (s ++ t) ≡ lost_in s + lost_in t
unfolding sum
lost_append [] t = sym (zero-add (lost_in t))
lost_append (packet ∷ s) t = rw (lost_cons packet (s ++ t), lost_append s t, lost_cons packet s) (omega arith)

pub lost_all : (n : ℕ) → lost_in (replicate n 1) ≡ n
unfolding counts_as
lost_all n =
    rw (length-replicate {A = ℕ} n 1)
    (count_all (counted_at Lost (replicate n 1)) 0 n (λ i l h. rw (get_or-replicate {A = ℕ} n i 1 0 (omega arith))))

pub lost_none : (n : ℕ) → lost_in (replicate n 0) ≡ 0
unfolding counts_as
lost_none n =
    rw (length-replicate {A = ℕ} n 0)
    (count_none (counted_at Lost (replicate n 0)) 0 n (λ i l h. rw (get_or-replicate {A = ℕ} n i 0 0 (omega arith))))

-- the front of two stretches, and of packets alike
pub take_both : (n : ℕ) (s t : List ℕ) → take n (s ++ t) ≡ take n s ++ take (n - length s) t
take_both zero s t = rw (zero-sub (length s))
take_both (suc n) [] t = rw (sub-zero (suc n))
take_both (suc n) (packet ∷ s) t = rw (take_both n s t, suc-sub-suc n (length s))

pub take_alike : (k n packet : ℕ) → take k (replicate n packet) ≡ replicate (min k n) packet
take_alike zero n packet = rw (zero-min n)
take_alike (suc k) zero packet = rw (min-zero (suc k))
take_alike (suc k) (suc n) packet = rw (suc-min-suc k n, take_alike k n packet)

-- no more can be taken than there are
pub take_most : (n : ℕ) (s : List ℕ) → take n s ≡ take (min (length s) n) s
take_most n s = go (dec_le (length s) n)
  where
    go : Dec (length s ≤ n) → take n s ≡ take (min (length s) n) s
    go (yes h) = let all : min (length s) n ≡ length s = omega arith in rw (all, take_all n s h, take-length s)
    go (no h) = let few : min (length s) n ≡ n = omega arith in rw few
