-- A whole vector made by fours. Assumes nothing.
use Rattle.std.proofs.Common.{◌≡◌, ℕ, zero, suc, ◌+◌, ◌-◌, ◌*◌, ◌/◌, ◌^◌, ◌<◌, ◌≤◌, List, length, get_or, drop, arith, length-drop, drop-cons}
use Rattle.trace.specs.Trace.{lost}
use Rattle.runs.specs.Writing.{bits_from, chunk_from}
use Rattle.runs.specs.Packets.{Bits, four_from}
use Rattle.runs.proofs.Vectors.{chunk_is, no_room}

-- the bits of packets, the first apart: a one, less one where it is lost
one_bit : (packet bits rest : ℕ) → packet ≤ lost → (1 - packet) * 2 ^ bits + rest + packet * 2 ^ bits ≡ 2 ^ bits + rest
one_bit zero bits rest h = omega arith
one_bit (suc zero) bits rest h = omega arith
one_bit (suc (suc packet)) bits rest h = absurd (omega arith)

next_bit : (s : List ℕ) (bits i j : ℕ) → Bits s → j ≡ suc i → i < length s → bits_from (suc bits) (drop i s) + get_or s i 0 * 2 ^ bits ≡ 2 ^ bits + bits_from bits (drop j s)
unfolding bits_from
next_bit s bits i j b e h = rw (drop-cons s i 0 h, e) (one_bit (get_or s i 0) bits (bits_from bits (drop (suc i) s)) (b i))

-- the parts of a whole vector: sixteen ones, less those of the lost
abbrev pub lost_bits : List ℕ → ℕ → ℕ
lost_bits s i = four_from s i * 2048 + four_from s (i + 4) / 2 * 256 + four_from s (i + 7) * 16 + four_from s (i + 11)

pub whole_is : (s : List ℕ) (i : ℕ) → Bits s → i + 15 ≤ length s → chunk_from (drop i s) + lost_bits s i ≡ 65535
unfolding four_from
whole_is s i b room =
    let e0 = next_bit s 14 i (i + 1) b (omega arith) (omega arith) in
    let e1 = next_bit s 13 (i + 1) (i + 2) b (omega arith) (omega arith) in
    let e2 = next_bit s 12 (i + 2) (i + 3) b (omega arith) (omega arith) in
    let e3 = next_bit s 11 (i + 3) (i + 4) b (omega arith) (omega arith) in
    let e4 = next_bit s 10 (i + 4) (i + 4 + 1) b (omega arith) (omega arith) in
    let e5 = next_bit s 9 (i + 4 + 1) (i + 4 + 2) b (omega arith) (omega arith) in
    let e6 = next_bit s 8 (i + 4 + 2) (i + 7) b (omega arith) (omega arith) in
    let e7 = next_bit s 7 (i + 7) (i + 7 + 1) b (omega arith) (omega arith) in
    let e8 = next_bit s 6 (i + 7 + 1) (i + 7 + 2) b (omega arith) (omega arith) in
    let e9 = next_bit s 5 (i + 7 + 2) (i + 7 + 3) b (omega arith) (omega arith) in
    let e10 = next_bit s 4 (i + 7 + 3) (i + 11) b (omega arith) (omega arith) in
    let e11 = next_bit s 3 (i + 11) (i + 11 + 1) b (omega arith) (omega arith) in
    let e12 = next_bit s 2 (i + 11 + 1) (i + 11 + 2) b (omega arith) (omega arith) in
    let e13 = next_bit s 1 (i + 11 + 2) (i + 11 + 3) b (omega arith) (omega arith) in
    let e14 = next_bit s 0 (i + 11 + 3) (i + 15) b (omega arith) (omega arith) in
    let g0 = b i in
    let g1 = b (i + 1) in
    let g2 = b (i + 2) in
    let g3 = b (i + 3) in
    let g4 = b (i + 4) in
    let g5 = b (i + 4 + 1) in
    let g6 = b (i + 4 + 2) in
    let g7 = b (i + 7) in
    let g8 = b (i + 7 + 1) in
    let g9 = b (i + 7 + 2) in
    let g10 = b (i + 7 + 3) in
    let g11 = b (i + 11) in
    let g12 = b (i + 11 + 1) in
    let g13 = b (i + 11 + 2) in
    let g14 = b (i + 11 + 3) in
    let middle = b (i + 4 + 3) in
    let none = no_room (drop (i + 15) s) in
    let is = chunk_is (drop i s) (omega (arith, length-drop i s)) in
    omega arith

pub whole_fours : (s : List ℕ) (i a b c d : ℕ) → Bits s → i + 15 ≤ length s → a ≡ four_from s i → b ≡ four_from s (i + 4) → c ≡ four_from s (i + 7) → d ≡ four_from s (i + 11) →
    chunk_from (drop i s) + (a * 2048 + b / 2 * 256 + c * 16 + d) ≡ 65535
whole_fours s i a b c d bits room p q r t = rw (p, q, r, t) (whole_is s i bits room)
