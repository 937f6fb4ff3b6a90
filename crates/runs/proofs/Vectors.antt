-- A written chunk, read: its packets, and behind the last of them lost ones; and its loop, `Packing`. Assumes nothing.
use Rattle.std.proofs.Common.{◌≡◌, ℕ, zero, suc, ◌+◌, ◌-◌, ◌*◌, ◌/◌, ◌%◌, ◌^◌, ◌<◌, ◌≤◌, List, [], ◌∷◌, ◌++◌, length, take, replicate, sym, refl, ap, ◌∙◌, ap₂, mul_assoc, add-mul, pow-suc, mul_right_comm, arith, pow_pos}
use lib.Pow.{high}
use Rattle.chunk.specs.Chunks.{vector_bits, vector_of, packets_of}
use Rattle.chunk.proofs.Vectors.{vector}
use Rattle.runs.specs.Writing.{bits_from, chunk_from}
use Rattle.runs.specs.Packets.{Bits}

-- one more bit behind a number
pub join : (above bit bits rest : ℕ) → above * 2 ^ suc bits + (bit * 2 ^ bits + rest) ≡ (above * 2 + bit) * 2 ^ bits + rest
join above bit bits rest =
    let twice : above * 2 ^ suc bits ≡ above * 2 * 2 ^ bits =
    ap (λ (x : ℕ). above * x) (pow-suc 2 bits) ∙ sym (mul_assoc above (2 ^ bits) 2) ∙ mul_right_comm above (2 ^ bits) 2
    in
    omega (arith, twice, add-mul (above * 2) bit (2 ^ bits))

-- the bits of packets fit as many bits
pub bits_fit : (bits : ℕ) (s : List ℕ) → bits_from bits s < 2 ^ bits
unfolding bits_from
bits_fit zero s = omega arith
bits_fit (suc bits) [] = pow_pos (suc bits)
bits_fit (suc bits) (packet ∷ s) = go packet (bits_fit bits s)
  where
    go : (p : ℕ) → bits_from bits s < 2 ^ bits → (1 - p) * 2 ^ bits + bits_from bits s < 2 ^ suc bits
    go zero few = omega (arith, pow-suc 2 bits)
    go (suc p) few = let none : 1 - suc p ≡ 0 = omega arith in rw none (omega (arith, pow-suc 2 bits))

empty_vector : (c : ℕ) → vector_of 0 c ≡ []
unfolding vector_of
empty_vector c = refl

first : (packet : ℕ) (s : List ℕ) (bits above : ℕ) →
    vector_of (suc bits) (above * 2 ^ suc bits + bits_from (suc bits) (packet ∷ s)) ≡ vector_of (suc bits) (above * 2 ^ suc bits + ((1 - packet) * 2 ^ bits + bits_from bits s))
unfolding bits_from
first packet s bits above = refl

tail_bits : (packet : ℕ) (s : List ℕ) → Bits (packet ∷ s) → Bits s
tail_bits packet s b i = b (suc i)

pub no_bits : (bits : ℕ) → bits_from bits [] ≡ 0
unfolding bits_from
no_bits zero = refl
no_bits (suc bits) = refl

pub no_room : (s : List ℕ) → bits_from 0 s ≡ 0
unfolding bits_from
no_room s = refl

-- the top bit of a number and what is behind it, as a vector
top : (above bit bits rest : ℕ) → bit ≤ 1 → rest < 2 ^ bits →
    vector_of (suc bits) (above * 2 ^ suc bits + (bit * 2 ^ bits + rest)) ≡ (1 - bit) ∷ vector_of bits ((above * 2 + bit) * 2 ^ bits + rest)
unfolding vector_of
top above bit bits rest small fits =
    let shifted : ((above * 2 + bit) * 2 ^ bits + rest) / 2 ^ bits ≡ above * 2 + bit = high (above * 2 + bit) bits fits in
    let odd : (above * 2 + bit) % 2 ≡ bit = omega arith in
    rw (join above bit bits rest, shifted, odd)

-- behind any bits, the packets again, and lost ones behind the last
pub bits_read : (bits above more : ℕ) (s : List ℕ) → Bits s → bits ≤ more → vector_of bits (above * 2 ^ bits + bits_from bits s) ≡ take bits (s ++ replicate more 1)
bits_read zero above more s b h = none
  where
    none : vector_of 0 (above * 2 ^ 0 + bits_from 0 s) ≡ []
    none = empty_vector _
bits_read (suc bits) above zero s b h = absurd (omega arith)
bits_read (suc bits) above (suc more) [] b h =
    let nothing : bits_from (suc bits) [] ≡ 0 * 2 ^ bits + bits_from bits [] = rw (no_bits (suc bits), no_bits bits) (omega arith) in
    ap (λ (n : ℕ). vector_of (suc bits) (above * 2 ^ suc bits + n)) nothing
    ∙ top above 0 bits (bits_from bits []) (omega arith) (bits_fit bits [])
    ∙ ap (λ (l : List ℕ). 1 ∷ l) (bits_read bits (above * 2 + 0) more [] b (omega arith))
bits_read (suc bits) above (suc more) (packet ∷ s) b h =
    let small = b 0 in
    let again : 1 - (1 - packet) ≡ packet = omega arith in
    first packet s bits above
    ∙ top above (1 - packet) bits (bits_from bits s) (omega arith) (bits_fit bits s)
    ∙ ap₂ ◌∷◌ again (bits_read bits (above * 2 + (1 - packet)) (suc more) s (tail_bits packet s b) (omega arith))

-- the chunk of packets
pub chunk_is : (s : List ℕ) → 0 < length s → chunk_from s ≡ 1 * 2 ^ vector_bits + bits_from vector_bits s
unfolding chunk_from
chunk_is [] h = absurd (omega arith)
chunk_is (packet ∷ s) h = refl

pub chunk_vector : (s : List ℕ) → 0 < length s → (32768 ≤ chunk_from s) × (chunk_from s < 65536)
chunk_vector s h = let few = bits_fit vector_bits s in let is = chunk_is s h in (omega arith, omega arith)

pub chunk_read : (s : List ℕ) → 0 < length s → Bits s → packets_of (chunk_from s) ≡ take vector_bits (s ++ replicate vector_bits 1)
chunk_read s h b =
    vector (chunk_from s) (chunk_vector s h).0 ∙ ap (vector_of vector_bits) (chunk_is s h) ∙ bits_read vector_bits 1 vector_bits s b (omega arith)
