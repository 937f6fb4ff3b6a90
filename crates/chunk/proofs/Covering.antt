-- What it is to cover packets: `CoversExactly`, `UncoveredExactly`, `TraceLong`, `TraceBits` and the packets of each kind of chunk, of specs/Laws.antt. Assumes nothing.
use Prim.Native.Nat.{ℕ, zero, suc, ◌+◌, ◌-◌, ◌/◌, ◌%◌, ◌^◌, ◌<◌, ◌≤◌}
use mathlib.Core.Path.{◌≡◌, refl, sym, ap, ◌∙◌}
use mathlib.Core.Bool.{Bool, true, false, ◌&&◌}
use mathlib.Core.List.{List, [], ◌∷◌, ◌++◌}
use native.Mathlib.Omega.{arith}
use native.Mathlib.Nat.{div-one}
use native.Mathlib.Decide.{dec_lt, ℕ_discrete}
use borrow.Author.Tests.{eqb-true, eqb-false, ltb-true, ltb-false, eq-eqb, ne_eqb}
use lib.Count.{ones}
use lib.ListN.{length, get_or, take, replicate, length-append, length-take, length-replicate, get_or-replicate, get_or-append, get_or-eq_default}
use lib.Seq.{take_all, take-length, get_or-take, get_or-append-add}
use Rattle.refusal.proofs.Tests.{and_left, and_right}
use Rattle.trace.specs.Trace.{lost}
use Rattle.chunk.specs.Chunks.{vector_bits, vector_of, packets_of, packets_in, stands_at, covers, trace_in, lost_in}
use Rattle.chunk.specs.Laws.{reach, Covers, CoversExactly, Cause, null_before, too_little, other_behind, UncoveredExactly, TraceLong, TraceBits, VectorBit, VectorLost, RunPackets}
use Rattle.chunk.proofs.Vectors.{run, lost_run, received_run, vector, length_vector, get_or_vector, lost_vector}

-- one chunk more in front
reach_cons : (c : ℕ) (cs : List ℕ) (i : ℕ) → reach (c ∷ cs) (suc i) ≡ length (packets_of c) + reach cs i
unfolding packets_in
reach_cons c cs i = length-append (packets_of c) (packets_in (take i cs))

reach_none : (cs : List ℕ) → reach cs 0 ≡ 0
unfolding packets_in
reach_none cs = refl

-- where a chunk stands
stands_null : (c n : ℕ) → stands_at c n ≡ true → c ≡ 0 → n ≡ 0
stands_null c n h e = eqb-true n 0 (rw (eq-eqb c 0 e) at h)

stands_other : (c n : ℕ) → stands_at c n ≡ true → (c ≡ 0 → ⊥) → 0 < n
stands_other c n h o = ltb-true 0 n (rw (ne_eqb c 0 o) at h)

-- chunks that cover
covering : (n : ℕ) (cs : List ℕ) → covers n cs ≡ true → Covers n cs
unfolding covers
covering n [] h =
    let none = eqb-true n 0 h in
    record { reached = omega arith; null = λ i l e. absurd (omega arith); other = λ i l o. absurd (omega arith) }
covering n (c ∷ cs) h =
    let stands = and_left (stands_at c n) (covers (n - length (packets_of c)) cs) h in
    let rest = covering (n - length (packets_of c)) cs (and_right (stands_at c n) (covers (n - length (packets_of c)) cs) h) in
    record {
      reached = omega (arith, rest.reached, reach_cons c cs (length cs));
      null = null rest stands;
      other = other rest stands;
    }
  where
    null : Covers (n - length (packets_of c)) cs → stands_at c n ≡ true → (i : ℕ) → i < length (c ∷ cs) → get_or (c ∷ cs) i 0 ≡ 0 → n ≤ reach (c ∷ cs) i
    null rest stands zero l e = omega (arith, stands_null c n stands e)
    null rest stands (suc i) l e = omega (arith, rest.null i (omega arith) e, reach_cons c cs i)

    other : Covers (n - length (packets_of c)) cs → stands_at c n ≡ true → (i : ℕ) → i < length (c ∷ cs) → (get_or (c ∷ cs) i 0 ≡ 0 → ⊥) → reach (c ∷ cs) i < n
    other rest stands zero l o = omega (arith, stands_other c n stands o, reach_none (c ∷ cs))
    other rest stands (suc i) l o = omega (arith, rest.other i (omega arith) o, reach_cons c cs i)

-- chunks that do not
misplaced : (c n : ℕ) (cs : List ℕ) → stands_at c n ≡ false → Cause n (c ∷ cs)
misplaced c n cs h = go (ℕ_discrete c 0)
  where
    go : Dec (c ≡ 0) → Cause n (c ∷ cs)
    go (yes e) = null_before 0 (omega arith) e (omega (arith, eqb-false n 0 (rw (eq-eqb c 0 e) at h), reach_none (c ∷ cs)))
    go (no o) = other_behind 0 (omega arith) o (omega (arith, ltb-false 0 n (rw (ne_eqb c 0 o) at h)))

behind : (c n : ℕ) (cs : List ℕ) → Cause (n - length (packets_of c)) cs → Cause n (c ∷ cs)
behind c n cs (null_before i l e b) = null_before (suc i) (omega arith) e (omega (arith, reach_cons c cs i))
behind c n cs (too_little b) = too_little (omega (arith, reach_cons c cs (length cs)))
behind c n cs (other_behind i l o b) = other_behind (suc i) (omega arith) o (omega (arith, reach_cons c cs i))

uncovering : (n : ℕ) (cs : List ℕ) → covers n cs ≡ false → Cause n cs
unfolding covers
uncovering n [] h = too_little (omega (arith, eqb-false n 0 h, reach_none []))
uncovering n (c ∷ cs) h = go (stands_at c n) refl h (uncovering (n - length (packets_of c)) cs)
  where
    go : (t : Bool) → stands_at c n ≡ t → (t && covers (n - length (packets_of c)) cs) ≡ false → (covers (n - length (packets_of c)) cs ≡ false → Cause (n - length (packets_of c)) cs) → Cause n (c ∷ cs)
    go false s e later = misplaced c n cs s
    go true s e later = behind c n cs (later e)

apart : (n : ℕ) (cs : List ℕ) → Covers n cs → Cause n cs → ⊥
apart n cs g (null_before i l e b) = omega (arith, g.null i l e)
apart n cs g (too_little b) = omega (arith, g.reached)
apart n cs g (other_behind i l o b) = omega (arith, g.other i l o)

pub covers_exactly : CoversExactly
covers_exactly n cs = (covering n cs, λ g. go (covers n cs) refl g)
  where
    go : (t : Bool) → covers n cs ≡ t → Covers n cs → covers n cs ≡ true
    go true e g = e
    go false e g = absurd (apart n cs g (uncovering n cs e))

pub uncovered_exactly : UncoveredExactly
uncovered_exactly n cs = (uncovering n cs, λ g. go (covers n cs) refl g)
  where
    go : (t : Bool) → covers n cs ≡ t → Cause n cs → covers n cs ≡ false
    go true e g = absurd (apart n cs (covering n cs e) g)
    go false e g = e

pub trace_long : TraceLong
trace_long n cs h =
    let all : reach cs (length cs) ≡ length (packets_in cs) = ap (λ (l : List ℕ). length (packets_in l)) (take-length cs) in
    omega (arith, (covering n cs h).reached, length-take n (packets_in cs))

-- each packet is received or lost
in_vector : (bits c i : ℕ) → get_or (vector_of bits c) i 0 ≤ lost
in_vector bits c i = go (dec_lt i bits)
  where
    go : Dec (i < bits) → get_or (vector_of bits c) i 0 ≤ lost
    go (yes h) = rw (get_or_vector bits c i h) (omega arith)
    go (no h) = rw (get_or-eq_default (vector_of bits c) 0 {n = i} (omega (arith, length_vector bits c))) (omega arith)

in_run : (n packet i : ℕ) → packet ≤ lost → get_or (replicate n packet) i 0 ≤ lost
in_run n packet i small = go (dec_lt i n)
  where
    go : Dec (i < n) → get_or (replicate n packet) i 0 ≤ lost
    go (yes h) = rw (get_or-replicate n i packet 0 h) small
    go (no h) = rw (get_or-eq_default (replicate n packet) 0 {n = i} (omega (arith, length-replicate n packet))) (omega arith)

in_chunk : (c i : ℕ) → get_or (packets_of c) i 0 ≤ lost
in_chunk c i = go (dec_lt c 32768)
  where
    go : Dec (c < 32768) → get_or (packets_of c) i 0 ≤ lost
    go (yes h) = rw (run c h) (in_run (c % 16384) (1 - c / 16384) i (omega arith))
    go (no h) = rw (vector c (omega arith)) (in_vector vector_bits c i)

in_chunks : (cs : List ℕ) (i : ℕ) → get_or (packets_in cs) i 0 ≤ lost
unfolding packets_in
in_chunks [] i = omega arith
in_chunks (c ∷ cs) i = go (dec_lt i (length (packets_of c))) (in_chunks cs)
  where
    go : Dec (i < length (packets_of c)) → ((j : ℕ) → get_or (packets_in cs) j 0 ≤ lost) → get_or (packets_of c ++ packets_in cs) i 0 ≤ lost
    go (yes h) rest = rw (get_or-append (packets_of c) (packets_in cs) 0 i h) (in_chunk c i)
    go (no h) rest =
        let j : ℕ = i - length (packets_of c) in
        let split : i ≡ length (packets_of c) + j = omega arith in
        rw (split, get_or-append-add (packets_of c) (packets_in cs) j 0) (rest j)

pub trace_bits : TraceBits
trace_bits n cs i = go (dec_lt i n)
  where
    go : Dec (i < n) → get_or (trace_in n cs) i 0 ≤ lost
    go (yes h) = rw (get_or-take n (packets_in cs) i 0 h) (in_chunks cs i)
    go (no h) = rw (get_or-eq_default (trace_in n cs) 0 {n = i} (omega (arith, length-take n (packets_in cs)))) (omega arith)

-- what the kinds of chunk are
pub vector_bit : VectorBit
vector_bit c j l h = rw (vector c l) (get_or_vector vector_bits c j h)

pub vector_lost : VectorLost
vector_lost c l =
    let all : take vector_bits (vector_of vector_bits c) ≡ vector_of vector_bits c = take_all vector_bits (vector_of vector_bits c) (omega (arith, length_vector vector_bits c)) in
    let whole : ones (c % 2 ^ vector_bits / 2 ^ (vector_bits - vector_bits)) ≡ ones (c % 32768) = ap ones (div-one (c % 32768)) in
    let lost_is : lost_in (packets_of c) ≡ lost_in (take vector_bits (vector_of vector_bits c)) = ap lost_in (vector c l ∙ sym all) in
    omega (arith, whole, lost_is, lost_vector vector_bits c vector_bits (omega arith))

pub run_packets : RunPackets
run_packets c = (lost_run c, λ l h. let few : c % 16384 ≡ c - 16384 = omega arith in received_run c l h ∙ ap (λ (n : ℕ). replicate n 0) few)
