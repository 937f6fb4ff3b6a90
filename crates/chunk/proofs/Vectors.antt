-- The packets of one chunk: of a run, and of a vector by its bits and by the count of its ones. Assumes nothing.
use Prim.Native.Nat.{ℕ, zero, suc, ◌+◌, ◌-◌, ◌*◌, ◌/◌, ◌%◌, ◌^◌, ◌<◌, ◌≤◌, min}
use mathlib.Core.Path.{◌≡◌, refl, sym, ap, ap₂, ◌∙◌}
use mathlib.Core.List.{List}
use native.Mathlib.Omega.{arith}
use native.Mathlib.Nat.{mul_assoc, mod-lt, div-eq_of_lt, mul-add-div_right}
use borrow.Author.Tests.{lt-ltb, le-ltb}
use lib.Bits.{bit_and, and_mask}
use lib.Count.{ones, ones_cat}
use lib.ListN.{length, get_or, take, replicate, length-replicate}
use lib.Seq.{length-take-le}
use lib.Pow.{pow_pos, pow-add, shr_lt, mod-pow-add}
use Rattle.trace.specs.Sum.{sum, bit}
use Rattle.trace.specs.Trace.{counts_as}
use Rattle.chunk.specs.Chunks.{vector_bits, vector_of, run_of, packets_of, lost_in}
use Rattle.chunk.proofs.Traces.{lost_bit, lost_cons, lost_all, lost_none, take_alike, take_most}

-- the kinds of chunk, a null chunk as a run of none
pub run : (c : ℕ) → c < 32768 → packets_of c ≡ run_of c
unfolding packets_of
run c h = rw (lt-ltb c 32768 h)

pub lost_run : (c : ℕ) → c < 16384 → packets_of c ≡ replicate c 1
lost_run c h =
    let long : c % 16384 ≡ c = omega arith in
    let kind : c / 16384 ≡ 0 = omega arith in
    run c (omega arith) ∙ rw (long, kind)

pub received_run : (c : ℕ) → 16384 ≤ c → c < 32768 → packets_of c ≡ replicate (c % 16384) 0
received_run c l h = let kind : c / 16384 ≡ 1 = omega arith in run c h ∙ rw kind

pub vector : (c : ℕ) → 32768 ≤ c → packets_of c ≡ vector_of vector_bits c
unfolding packets_of
vector c h = rw (le-ltb c 32768 h)

-- a vector's packets, and one of them
pub length_vector : (bits c : ℕ) → length (vector_of bits c) ≡ bits
unfolding vector_of
length_vector zero c = refl
length_vector (suc bits) c = ap suc (length_vector bits c)

pub get_or_vector : (bits c j : ℕ) → j < bits → get_or (vector_of bits c) j 0 ≡ 1 - c / 2 ^ (bits - 1 - j) % 2
unfolding vector_of
get_or_vector zero c j h = absurd (omega arith)
get_or_vector (suc bits) c zero h = let top : suc bits - 1 - 0 ≡ bits = omega arith in rw top
get_or_vector (suc bits) c (suc j) h = let same : suc bits - 1 - suc j ≡ bits - 1 - j = omega arith in rw same (get_or_vector bits c j (omega arith))

-- one bit: its ones, and whether its packet is lost
bit_ones : (b : ℕ) → b < 2 → ones b ≡ b
unfolding ones
bit_ones zero h = refl
bit_ones (suc zero) h = refl
bit_ones (suc (suc b)) h = absurd (omega arith)

bit_lost : (b : ℕ) → b < 2 → lost_bit (1 - b) + b ≡ 1
unfolding bit counts_as
bit_lost zero h = refl
bit_lost (suc zero) h = refl
bit_lost (suc (suc b)) h = absurd (omega arith)

-- the top bit of the first n + 1 of bits + 1 bits
top : (bits c n : ℕ) → n ≤ bits → ones (c % 2 ^ suc bits / 2 ^ (suc bits - suc n)) ≡ c / 2 ^ bits % 2 + ones (c % 2 ^ bits / 2 ^ (bits - n))
top bits c n h =
    let b : ℕ = c / 2 ^ bits % 2 in
    let r : ℕ = c % 2 ^ bits in
    let d : ℕ = bits - n in
    let more : suc bits ≡ 1 + bits = omega arith in
    let same : suc bits - suc n ≡ d = omega arith in
    let parts : bits ≡ n + d = omega arith in
    let high : b * 2 ^ bits ≡ b * 2 ^ n * 2 ^ d = ap (λ (k : ℕ). b * 2 ^ k) parts ∙ ap (λ (k : ℕ). b * k) (pow-add 2 n d) ∙ sym (mul_assoc b (2 ^ n) (2 ^ d)) in
    let split : c % 2 ^ suc bits ≡ b * 2 ^ n * 2 ^ d + r = ap (λ (k : ℕ). c % 2 ^ k) more ∙ mod-pow-add c 1 bits ∙ ap (λ (k : ℕ). k + r) high in
    let low : r / 2 ^ d < 2 ^ n = shr_lt n d (rw (← parts) (mod-lt c (pow_pos bits))) in
    ap₂ (λ (x k : ℕ). ones (x / 2 ^ k)) split same
    ∙ ap ones (mul-add-div_right (pow_pos d) (b * 2 ^ n) r)
    ∙ ones_cat n b (r / 2 ^ d) low
    ∙ ap (λ (k : ℕ). k + ones (r / 2 ^ d)) (bit_ones b (omega arith))

-- "losses are its fifteen bits less its ones", of the first n bits
pub lost_vector : (bits c n : ℕ) → n ≤ bits → lost_in (take n (vector_of bits c)) + ones (c % 2 ^ bits / 2 ^ (bits - n)) ≡ n
unfolding vector_of sum ones
lost_vector bits c zero h =
    let same : bits - 0 ≡ bits = omega arith in
    rw (same, div-eq_of_lt (mod-lt c (pow_pos bits)))
lost_vector zero c (suc n) h = absurd (omega arith)
lost_vector (suc bits) c (suc n) h =
    let b : ℕ = c / 2 ^ bits % 2 in
    omega (arith, lost_cons (1 - b) (take n (vector_of bits c)), top bits c n (omega arith), bit_lost b (omega arith), lost_vector bits c n (omega arith))

-- the same as the code has them: how many packets, one packet of a vector, and the lost among the first n
pub span_run : (c : ℕ) → c < 32768 → bit_and c 16383 ≡ length (packets_of c)
span_run c h = and_mask c 14 ∙ sym (ap length (run c h) ∙ length-replicate (c % 16384) (1 - c / 16384))

pub span_vector : (c : ℕ) → 32768 ≤ c → vector_bits ≡ length (packets_of c)
span_vector c h = sym (ap length (vector c h) ∙ length_vector vector_bits c)

pub packet_at : (c j : ℕ) → j < vector_bits → 1 - bit_and (c / 2 ^ (14 - j)) 1 ≡ get_or (vector_of vector_bits c) j 0
packet_at c j h = ap (λ (b : ℕ). 1 - b) (and_mask (c / 2 ^ (14 - j)) 1) ∙ sym (get_or_vector vector_bits c j h)

module _ (c n : ℕ) where
  pub among_lost : c < 16384 → n ≤ length (packets_of c) → n ≡ lost_in (take n (packets_of c))
  among_lost h most =
      let run = lost_run c h in
      let few : min n c ≡ n = let long = ap length run ∙ length-replicate {A = ℕ} c 1 in omega arith in
      sym (ap (λ (s : List ℕ). lost_in (take n s)) run ∙ ap lost_in (take_alike n c 1) ∙ lost_all (min n c) ∙ few)

  pub among_received : 16384 ≤ c → c < 32768 → 0 ≡ lost_in (take n (packets_of c))
  among_received l h =
      sym (ap (λ (s : List ℕ). lost_in (take n s)) (received_run c l h) ∙ ap lost_in (take_alike n (c % 16384) 0) ∙ lost_none (min n (c % 16384)))

  pub among_vector : 32768 ≤ c → n ≤ length (packets_of c) → lost_in (take n (packets_of c)) + ones (bit_and c 32767 / 2 ^ (15 - n)) ≡ n
  among_vector h most =
      let few : n ≤ vector_bits = let long = span_vector c h in omega arith in
      ap₂ (λ (s : List ℕ) (x : ℕ). lost_in (take n s) + ones (x / 2 ^ (15 - n))) (vector c h) (and_mask c 15) ∙ lost_vector vector_bits c n few

-- a chunk's packets as far as there is room, of which `part` are there
module _ (c room part : ℕ) (is : part ≡ min (length (packets_of c)) room) where
  taken : take room (packets_of c) ≡ take part (packets_of c)
  taken = take_most room (packets_of c) ∙ ap (λ (n : ℕ). take n (packets_of c)) (sym is)

  pub length_taken : length (take room (packets_of c)) ≡ part
  length_taken = ap length taken ∙ length-take-le part (packets_of c) (omega arith)

  pub run_taken : c < 32768 → take room (packets_of c) ≡ replicate part (1 - c / 16384)
  run_taken h =
      let packet : ℕ = 1 - c / 16384 in
      let all = length-replicate (c % 16384) packet in
      let long = ap length (run c h) in
      let few : min part (c % 16384) ≡ part = omega arith in
      taken ∙ ap (take part) (run c h) ∙ take_alike part (c % 16384) packet ∙ ap (λ (n : ℕ). replicate n packet) few

  pub vector_taken : 32768 ≤ c → take room (packets_of c) ≡ take part (vector_of vector_bits c)
  vector_taken h = taken ∙ ap (take part) (vector c h)
