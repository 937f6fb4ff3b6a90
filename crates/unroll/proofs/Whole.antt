-- A whole vector put in two: its packets by parts of its bits, and eight packets as the bytes of one number. Assumes nothing.
use Prim.Native.Nat.{ℕ, zero, suc, ◌+◌, ◌-◌, ◌*◌, ◌/◌, ◌%◌, ◌^◌, ◌<◌, ◌≤◌}
use mathlib.Core.Path.{◌≡◌, refl, sym, ap, ap₂, ◌∙◌}
use mathlib.Core.List.{List, [], ◌∷◌, ◌++◌, append_assoc, append-nil}
use native.Mathlib.Omega.{arith}
use native.Mathlib.Nat.{zero-add, suc-add, add_comm}
use borrow.Author.Tests.{eqb-true}
use lib.Bits.{bit_and, and_le_r}
use lib.Dec.{eqb}
use borrow.Rule.Slice.PartMut.{put_mid}
use lib.ListN.{length, take, drop, length-append, length-drop, drop_of_length-le}
use lib.Seq.{take_all, take_at}
use lib.Pow.{shr-shr, field, mod-mod-pow}
use Rattle.std.proofs.Common.{w64}
use Rattle.std.specs.Int.{to_le_bytes}
use Rattle.refusal.proofs.Tests.{below, below_at}
use Rattle.chunk.specs.Chunks.{vector_bits, vector_of}
use Rattle.chunk.proofs.Vectors.{length_vector}
use Rattle.unroll.specs.Packed.{packed}

-- a one in each of eight bytes
abbrev pub ones : ℕ
ones = 72340172838076673

-- eight packets as one number, as the code has it: every number of eight bits is tested
abbrev pub copies : ℕ → ℕ
copies b = b * 18049651735527937 + b * 2 ^ 63 % 2 ^ 64

abbrev pub received : ℕ → ℕ
received b = bit_and (copies b / 128) ones

pub received_most : (b : ℕ) → received b ≤ ones
received_most b = and_le_r (copies b / 128) ones

pub lost_packed : (b : ℕ) → b < 256 → ones - received b ≡ packed (vector_of 8 b)
unfolding below vector_of packed
lost_packed b h =
    eqb-true (ones - received b) (packed (vector_of 8 b)) (below_at 256 (λ (b : ℕ). eqb (ones - received b) (packed (vector_of 8 b))) refl b h)

-- the high bits' packets, then the low bits'
vector_parts : (a b c : ℕ) → vector_of (a + b) c ≡ vector_of a (c / 2 ^ b) ++ vector_of b c
unfolding vector_of
vector_parts zero b c = rw (zero-add b)
vector_parts (suc a) b c =
    let top : c / 2 ^ (a + b) ≡ c / 2 ^ b / 2 ^ a = ap (λ (n : ℕ). c / 2 ^ n) (add_comm a b) ∙ sym (shr-shr c b a) in
    rw (suc-add a b) (ap₂ (λ (n : ℕ) (l : List ℕ). (1 - n % 2) ∷ l) top (vector_parts a b c))

-- what stands above the bits is nothing to them
vector_low : (d b c : ℕ) → vector_of b (c % 2 ^ (d + b)) ≡ vector_of b c
unfolding vector_of
vector_low d zero c = refl
vector_low d (suc b) c =
    let up : d + suc b ≡ d + 1 + b = omega arith in
    let again : d + suc b ≡ suc d + b = omega arith in
    let top : c % 2 ^ (d + suc b) / 2 ^ b % 2 ≡ c / 2 ^ b % 2 =
    ap (λ (n : ℕ). c % 2 ^ n / 2 ^ b % 2) up ∙ ap (λ (n : ℕ). n % 2) (field c (d + 1) b) ∙ mod-mod-pow (c / 2 ^ b) d 1
    in
    ap₂ (λ (n : ℕ) (l : List ℕ). (1 - n) ∷ l) top (ap (λ (n : ℕ). vector_of b (c % 2 ^ n)) again ∙ vector_low (suc d) b c)

-- fifteen packets put as the first eight and the last eight
module _ (out : List ℕ) (c : ℕ) (most : length out ≤ vector_bits) where
  pub whole : (first last : List ℕ) → first ≡ vector_of 8 (c / 128 % 256) → last ≡ vector_of 8 (c % 256) → vector_bits ≤ length (first ++ drop 8 out) →
      put_mid 7 (length (first ++ drop 8 out) - 7) (first ++ drop 8 out) last ≡ take (length out) (vector_of vector_bits c)
  whole first last is to some =
      let all : List ℕ = first ++ drop 8 out in
      let front : List ℕ = vector_of 7 (c / 256) in
      let middle : List ℕ = vector_of 1 (c / 128) in
      let halved : c / 128 / 2 ≡ c / 256 = omega arith in
      let high : first ≡ front ++ middle =
      is ∙ vector_low 0 8 (c / 128) ∙ vector_parts 7 1 (c / 128) ∙ ap (λ (n : ℕ). vector_of 7 n ++ middle) halved
      in
      let eight : length first ≡ 8 = ap length is ∙ length_vector 8 (c / 128 % 256) in
      let long : vector_bits ≤ length out = omega (arith, length-append first (drop 8 out), length-drop 8 out) in
      let cut : take 7 all ≡ front =
      ap (λ (l : List ℕ). take 7 (l ++ drop 8 out)) high ∙ ap (take 7) (append_assoc front middle (drop 8 out))
      ∙ take_at front (middle ++ drop 8 out) 7 (length_vector 7 (c / 256))
      in
      let none : drop (length all - 7) (drop 7 all) ≡ [] = drop_of_length-le (drop 7 all) (omega (arith, length-drop 7 all)) in
      let kept = take_all (length out) (vector_of vector_bits c) (omega (arith, length_vector vector_bits c)) in
      ap₂ (λ (a b : List ℕ). a ++ (b ++ drop (length all - 7) (drop 7 all))) cut (to ∙ vector_low 0 8 c)
      ∙ ap (λ (l : List ℕ). front ++ l) (ap (λ (l : List ℕ). vector_of 8 c ++ l) none ∙ append-nil (vector_of 8 c))
      ∙ sym (kept ∙ vector_parts 7 8 c)

-- the bytes of eight packets' number
digits : (n a b c d e f g h : ℕ) → a < 2 → b < 2 → c < 2 → d < 2 → e < 2 → f < 2 → g < 2 → h < 2 →
    n ≡ a + 256 * (b + 256 * (c + 256 * (d + 256 * (e + 256 * (f + 256 * (g + 256 * (h + 256 * 0))))))) →
    to_le_bytes w64 n ≡ a ∷ b ∷ c ∷ d ∷ e ∷ f ∷ g ∷ h ∷ []
digits n a b c d e f g h la lb lc ld le lf lg lh is = λ j. e0 j ∷ e1 j ∷ e2 j ∷ e3 j ∷ e4 j ∷ e5 j ∷ e6 j ∷ e7 j ∷ []
  where
    e0 : n % 256 ≡ a
    e0 = omega arith

    e1 : n / 256 % 256 ≡ b
    e1 = omega arith

    e2 : n / 65536 % 256 ≡ c
    e2 = omega arith

    e3 : n / 16777216 % 256 ≡ d
    e3 = omega arith

    e4 : n / 4294967296 % 256 ≡ e
    e4 = omega arith

    e5 : n / 1099511627776 % 256 ≡ f
    e5 = omega arith

    e6 : n / 281474976710656 % 256 ≡ g
    e6 = omega arith

    e7 : n / 72057594037927936 % 256 ≡ h
    e7 = omega arith

packet_small : (n : ℕ) → 1 - n < 2
packet_small n = omega arith

pub eight_bytes : (n v : ℕ) → n ≡ packed (vector_of 8 v) → to_le_bytes w64 n ≡ vector_of 8 v
unfolding vector_of packed
eight_bytes n v is =
    digits n (1 - v / 128 % 2) (1 - v / 64 % 2) (1 - v / 32 % 2) (1 - v / 16 % 2) (1 - v / 8 % 2) (1 - v / 4 % 2) (1 - v / 2 % 2) (1 - v / 1 % 2)
    (packet_small _) (packet_small _) (packet_small _) (packet_small _) (packet_small _) (packet_small _) (packet_small _) (packet_small _) is
