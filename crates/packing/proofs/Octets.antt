-- Eight bits as eight bytes in one number, and back: the tables of both steps, the bytes of the number, and eight packets of a trace
-- as they are loaded. Assumes nothing.
use Prim.Native.Nat.{ℕ, zero, suc, ◌+◌, ◌-◌, ◌*◌, ◌/◌, ◌%◌, ◌^◌, ◌<◌, ◌≤◌}
use mathlib.Core.Path.{◌≡◌, refl, sym, ap, ◌∙◌}
use mathlib.Core.List.{List, append_assoc}
use native.Mathlib.Omega.{arith}
use native.Mathlib.Nat.{add-zero, add-suc, pow-succ', div-div-eq-div-mul, div-one}
use borrow.Author.Tests.{eqb-true}
use lib.Bits.{bit_and}
use lib.Dec.{eqb}
use lib.ListN.{get_or, length, take, drop}
use borrow.Rule.Slice.PartMut.{put_mid}
use Rattle.std.proofs.lemmas.List.{get_or-drop, get_or-take, drop-drop}
use Rattle.std.specs.Int.{w64, from_le_bytes, to_le_bytes}
use Rattle.refusal.proofs.Tests.{below, below_at}
use Rattle.wire.specs.BigEndian.{placed}
use Rattle.wire.proofs.Placed.{placed_in}
use Rattle.trace.specs.Sum.{bit}
use Rattle.packed.specs.Words.{one_at, bytes_of}
use Rattle.packed.proofs.Numbers.{bit_of}
use Rattle.packed.proofs.Bytes.{length_bytes}
use Rattle.packing.specs.Steps.{Packets, joined, spread, ones}

-- both steps as the code has them: every number of eight bits is tested
abbrev pub spread_out : ℕ → ℕ
spread_out bits = bit_and (bits % 128 * 567382630219905) ones + bits / 128 * 72057594037927936

pub spread_out_lem : (bits : ℕ) → bits < 256 → spread_out bits ≡ spread 8 bits
unfolding below spread
spread_out_lem bits h = eqb-true (spread_out bits) (spread 8 bits) (below_at 256 (λ (b : ℕ). eqb (spread_out b) (spread 8 b)) refl bits h)

pub zeros_out : (bits : ℕ) → bits < 256 → ones - spread_out (255 - bits) ≡ spread 8 bits
unfolding below spread
zeros_out bits h =
    eqb-true (ones - spread_out (255 - bits)) (spread 8 bits) (below_at 256 (λ (b : ℕ). eqb (ones - spread_out (255 - b)) (spread 8 b)) refl bits h)

abbrev pairs : ℕ → ℕ
pairs eight = eight + eight / 128

abbrev fours : ℕ → ℕ
fours eight = pairs eight + pairs eight / 16384

abbrev pub gathered_in : ℕ → ℕ
gathered_in eight = (fours eight + fours eight / 268435456) % 256

pub gathered_in_lem : (bits : ℕ) → bits < 256 → gathered_in (spread 8 bits) ≡ bits
unfolding below spread
gathered_in_lem bits h = eqb-true (gathered_in (spread 8 bits)) bits (below_at 256 (λ (b : ℕ). eqb (gathered_in (spread 8 b)) b) refl bits h)

-- byte j is bit j
spread_at : (n bits j : ℕ) → j < n → spread n bits / 256 ^ j % 256 ≡ bits / 2 ^ j % 2
unfolding spread
spread_at zero bits j h = absurd (omega arith)
spread_at (suc n) bits zero h = omega arith
spread_at (suc n) bits (suc j) h =
    let rest : (bits % 2 + 256 * spread n (bits / 2)) / 256 ≡ spread n (bits / 2) = omega arith in
    let high : spread (suc n) bits / 256 ^ suc j ≡ spread n (bits / 2) / 256 ^ j =
    ap (λ (k : ℕ). spread (suc n) bits / k) (pow-succ' 256 j) ∙ sym (div-div-eq-div-mul (spread (suc n) bits) 256 (256 ^ j)) ∙ ap (λ (k : ℕ). k / 256 ^ j) rest
    in
    let half : bits / 2 / 2 ^ j ≡ bits / 2 ^ suc j = div-div-eq-div-mul bits 2 (2 ^ j) ∙ ap (λ (k : ℕ). bits / k) (sym (pow-succ' 2 j)) in
    ap (λ (k : ℕ). k % 256) high ∙ spread_at n (bits / 2) j (omega arith) ∙ ap (λ (k : ℕ). k % 2) half

-- and no byte is above 1
pub spread_most : (bits : ℕ) → spread 8 bits ≤ ones
unfolding spread
spread_most bits = omega arith

-- the bytes of the number, in order, are the eight bits as bytes
bytes_spread : (n bits : ℕ) → n ≡ spread 8 bits → to_le_bytes w64 n ≡ bytes_of (one_at bits) 0 8
unfolding bytes_of
bytes_spread n bits is =
    let byte : (j : ℕ) → j < 8 → n / 256 ^ j % 256 ≡ bit (one_at bits j) =
    λ j l. ap (λ (k : ℕ). k / 256 ^ j % 256) is ∙ spread_at 8 bits j l ∙ sym (bit_of bits j)
    in
    let first : n % 256 ≡ bit (one_at bits 0) = ap (λ (k : ℕ). k % 256) (sym (div-one n)) ∙ byte 0 (omega arith) in
    rw (first, byte 1 (omega arith), byte 2 (omega arith), byte 3 (omega arith), byte 4 (omega arith), byte 5 (omega arith), byte 6 (omega arith), byte 7 (omega arith))

-- and so they are placed
pub eight_placed : (s : List ℕ) (i k n bits : ℕ) (bytes : List ℕ) → i + 8 ≤ length s → k ≡ 8 → bytes ≡ to_le_bytes w64 n → n ≡ spread 8 bits →
    put_mid i k s bytes ≡ placed s i (bytes_of (one_at bits) 0 8)
eight_placed s i k n bits bytes h eight is spreads =
    let whole = is ∙ bytes_spread n bits spreads in
    let room : i + length (bytes_of (one_at bits) 0 8) ≤ length s = rw (length_bytes (one_at bits) 0 8) h in
    rw (eight, whole, drop-drop 8 i s, ← append_assoc (take i s) (bytes_of (one_at bits) 0 8) (drop (i + 8) s))
    (rw (← ap (λ (k : ℕ). drop (i + k) s) (length_bytes (one_at bits) 0 8)) (sym (placed_in s i (bytes_of (one_at bits) 0 8) room)))

module _ (s : List ℕ) (i : ℕ) where
  next : (k n : ℕ) → joined s (i + k) (suc n) ≡ get_or s (i + k) 0 + 256 * joined s (i + suc k) n
  unfolding joined
  next k n = ap (λ (j : ℕ). get_or s (i + k) 0 + 256 * joined s j n) (sym (add-suc i k))

  joined_none : (k : ℕ) → joined s k 0 ≡ 0
  unfolding joined
  joined_none k = refl

  joined_eight :
      joined s i 8
      ≡ get_or s i 0 + 256 * (get_or s (i + 1) 0 + 256 * (get_or s (i + 2) 0 + 256 * (get_or s (i + 3) 0
      + 256 * (get_or s (i + 4) 0 + 256 * (get_or s (i + 5) 0 + 256 * (get_or s (i + 6) 0 + 256 * get_or s (i + 7) 0))))))
  joined_eight =
      let start = ap (λ (j : ℕ). joined s j 8) (add-zero i) in
      let here = ap (λ (j : ℕ). get_or s j 0) (add-zero i) in
      let a = next 0 7 in
      let b = next 1 6 in
      let c = next 2 5 in
      let d = next 3 4 in
      let e = next 4 3 in
      let f = next 5 2 in
      let g = next 6 1 in
      let h = next 7 0 in
      let none = joined_none (i + 8) in
      omega arith

  -- eight bytes from there on, loaded as one number
  pub loaded_is : (bytes : List ℕ) → bytes ≡ take 8 (drop i s) → from_le_bytes w64 bytes ≡ joined s i 8
  loaded_is bytes same =
      let at : (k : ℕ) → k < 8 → get_or bytes k 0 ≡ get_or s (i + k) 0 =
      λ k h. ap (λ (l : List ℕ). get_or l k 0) same ∙ get_or-take 8 (drop i s) k 0 h ∙ get_or-drop i s k 0
      in
      let first : get_or bytes 0 0 ≡ get_or s i 0 = at 0 (omega arith) ∙ ap (λ (j : ℕ). get_or s j 0) (add-zero i) in
      let is = joined_eight in
      omega (arith, at 1 (omega arith), at 2 (omega arith), at 3 (omega arith), at 4 (omega arith), at 5 (omega arith), at 6 (omega arith), at 7 (omega arith))

  pub joined_most : Packets s → joined s i 8 ≤ 2 * ones
  joined_most b =
      let is = joined_eight in
      omega (arith, b i, b (i + 1), b (i + 2), b (i + 3), b (i + 4), b (i + 5), b (i + 6), b (i + 7))
