-- A vector made packet by packet: `Packing`, the loop of `vector`. Assumes nothing.
use Rattle.std.proofs.Common.{◌≡◌, ℕ, suc, ◌+◌, ◌-◌, ◌*◌, ◌%◌, ◌^◌, ◌<◌, ◌≤◌, List, [], ◌∷◌, length, get_or, drop, sym, refl, ap, ◌∙◌, ap₂, pow-suc, add-one, arith, length-drop, drop_of_length-le, get_or-drop, drop-cons, pow_mono}
use native.Mathlib.Decide.{dec_le}
use Rattle.chunk.specs.Chunks.{vector_bits}
use Rattle.runs.specs.Writing.{bits_from, chunk_from}
use Rattle.runs.specs.Packets.{Few}
use Rattle.runs.proofs.Vectors.{join, no_bits, no_room, chunk_is}
use Rattle.runs.proofs.ReadBack.{chunk_fits}

-- the first j of n packets are in the chunk, and the bits of the others are to come
pub record Packing (s : List ℕ) (first n chunk j : ℕ) : Type 0 where
  pub few : Few s first n
  pub within : j ≤ n
  pub small : chunk < 2 ^ suc j
  pub is : chunk * 2 ^ (vector_bits - j) + bits_from (vector_bits - j) (drop j (drop first s)) ≡ 1 * 2 ^ vector_bits + bits_from vector_bits (drop first s)

pub packing_none : (s : List ℕ) (first n : ℕ) → Few s first n → Packing s first n 1 0
packing_none s first n few = record { few = few; within = omega arith; small = omega arith; is = refl }

module _ (s : List ℕ) (first n chunk j : ℕ) (g : Packing s first n chunk j) where
  -- a packet is there, and there is room for its bit
  pub packing_here : j < n → first + j < length s
  packing_here h = let few = g.few in omega (arith, few.some, few.is)

  pub packing_room : j < n → chunk < 32768
  packing_room h = let few = g.few in let most = pow_mono {i = suc j} {j = 15} (omega (arith, few.is)) in omega (arith, g.small)

  pub packing_more : j < n → Packing s first n (2 * chunk + (1 - get_or s (first + j) 0)) (j + 1)
  unfolding bits_from
  packing_more h =
      let few = g.few in
      let from : List ℕ = drop first s in
      let packet : ℕ = get_or s (first + j) 0 in
      let bits : ℕ = vector_bits - suc j in
      let here = packing_here h in
      let down : vector_bits - j ≡ suc bits = omega (arith, few.is) in
      let at_j : get_or from j 0 ≡ packet = get_or-drop first s j 0 in
      let next : drop j from ≡ packet ∷ drop (suc j) from = drop-cons from j 0 (omega (arith, length-drop first s)) ∙ ap (λ (p : ℕ). p ∷ drop (suc j) from) at_j in
      let turned : chunk * 2 + (1 - packet) ≡ 2 * chunk + (1 - packet) = omega arith in
      let value : chunk * 2 ^ (vector_bits - j) + bits_from (vector_bits - j) (drop j from) ≡ (2 * chunk + (1 - packet)) * 2 ^ bits + bits_from bits (drop (suc j) from) =
      ap₂ (λ (b : ℕ) (l : List ℕ). chunk * 2 ^ b + bits_from b l) down next ∙ join chunk (1 - packet) bits (bits_from bits (drop (suc j) from))
      ∙ ap (λ (c : ℕ). c * 2 ^ bits + bits_from bits (drop (suc j) from)) turned
      in
      record {
        few = few;
        within = omega arith;
        small = rw add-one (omega (arith, g.small, pow-suc 2 (suc j)));
        is = rw add-one (sym value ∙ g.is);
      }

  pub packing_all : n ≤ j → chunk * 2 ^ (vector_bits - n) % 65536 ≡ chunk_from (drop first s)
  packing_all h =
      let few = g.few in
      let from : List ℕ = drop first s in
      let end : j ≡ n = omega (arith, g.within) in
      let long = length-drop first s in
      let none : bits_from (vector_bits - j) (drop j from) ≡ 0 = nothing (dec_le vector_bits j) in
      let made : chunk * 2 ^ (vector_bits - n) ≡ chunk_from from =
      ap (λ (k : ℕ). chunk * 2 ^ (vector_bits - k)) (sym end) ∙ (let plus : chunk * 2 ^ (vector_bits - j) ≡ 1 * 2 ^ vector_bits + bits_from vector_bits from = omega (arith, g.is) in plus)
      ∙ sym (chunk_is from (omega (arith, few.some)))
      in
      ap (λ (x : ℕ). x % 65536) made ∙ (let small = chunk_fits from in let same : chunk_from from % 65536 ≡ chunk_from from = omega arith in same)
    where
      nothing : Dec (vector_bits ≤ j) → bits_from (vector_bits - j) (drop j (drop first s)) ≡ 0
      nothing (yes full) = let zero_left : vector_bits - j ≡ 0 = omega arith in ap (λ (b : ℕ). bits_from b (drop j (drop first s))) zero_left ∙ no_room (drop j (drop first s))
      nothing (no short) =
          let few = g.few in
          let gone : drop j (drop first s) ≡ [] = drop_of_length-le (drop first s) {i = j} (omega (arith, few.is, length-drop first s)) in
          ap (bits_from (vector_bits - j)) gone ∙ no_bits (vector_bits - j)
