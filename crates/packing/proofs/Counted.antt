-- The packets that an event counts, out of eight bytes in one number: the lowest bit of each byte by a mask, and that it says whether the
-- packet counts. Assumes nothing.
use Prim.Native.Nat.{ℕ, zero, suc, ◌+◌, ◌*◌, ◌/◌, ◌%◌, ◌^◌, ◌≤◌}
use mathlib.Core.Path.{◌≡◌, refl, sym, ap, ap₂, ◌∙◌}
use mathlib.Core.List.{List}
use native.Mathlib.Omega.{arith}
use native.Mathlib.Decide.{ℕ_discrete}
use lib.Bits.{bit_and, and_zero_r, and_block, and_mask}
use lib.ListN.{get_or}
use Rattle.trace.specs.declared.Event.{Event}
use Rattle.trace.specs.declared.Event.TheVariants.{Lost, Discarded, Either}
use Rattle.trace.specs.Sum.{bit}
use Rattle.trace.specs.Trace.{packet_max, counts_as, counted_at}
use Rattle.packed.specs.Words.{number_of}
use Rattle.packed.proofs.Numbers.{number_first}
use Rattle.packing.specs.Steps.{Packets, joined, brought, lowest, spread, ones}

-- a one in each of n bytes
unfoldable ones_of : ℕ → ℕ
ones_of zero = 0
ones_of (suc n) = ones_of n * 256 + 1

and_lowest : (n x : ℕ) → bit_and x (ones_of n) ≡ lowest n x
unfolding ones_of lowest
and_lowest zero x = and_zero_r x
and_lowest (suc n) x =
    let parts : x ≡ x / 256 * 2 ^ 8 + x % 256 = omega arith in
    let bit-0 : bit_and (x % 256) 1 ≡ x % 256 % 2 = and_mask (x % 256) 1 in
    let cut : bit_and (x / 256 * 2 ^ 8 + x % 256) (ones_of n * 2 ^ 8 + 1) ≡ bit_and (x / 256) (ones_of n) * 2 ^ 8 + bit_and (x % 256) 1 =
    and_block 8 (x / 256) (ones_of n) (x % 256) 1 (omega arith) (omega arith)
    in
    let rest = and_lowest n (x / 256) in
    ap (λ (y : ℕ). bit_and y (ones_of n * 2 ^ 8 + 1)) parts ∙ cut ∙ omega arith

pub and_ones : (x : ℕ) → bit_and x ones ≡ lowest 8 x
unfolding ones_of
and_ones x = and_lowest 8 x

-- a packet is 0, 1 or 2
each_packet : (P : ℕ → Type 0) → P 0 → P 1 → P 2 → (packet : ℕ) → packet ≤ packet_max → P packet
each_packet P received lost discarded packet h = go (ℕ_discrete packet 0) (ℕ_discrete packet 1)
  where
    go : Dec (packet ≡ 0) → Dec (packet ≡ 1) → P packet
    go (yes e) other = rw e received
    go (no e) (yes f) = rw f lost
    go (no e) (no f) = let is : packet ≡ 2 = omega arith in rw is discarded

-- its bit, once it is brought to the lowest place
bit_brought : (event : Event) (packet : ℕ) → packet ≤ packet_max → brought event packet % 2 ≡ bit (counts_as event packet)
unfolding brought counts_as bit
bit_brought Lost = each_packet (λ p. brought Lost p % 2 ≡ bit (counts_as Lost p)) refl refl refl
bit_brought Discarded = each_packet (λ p. brought Discarded p % 2 ≡ bit (counts_as Discarded p)) refl refl refl
bit_brought Either = each_packet (λ p. brought Either p % 2 ≡ bit (counts_as Either p)) refl refl refl

-- packets behind it do not touch it, and it not them
brought_first : (event : Event) (packet rest : ℕ) → packet ≤ packet_max →
    (brought event (packet + 256 * rest) % 2 ≡ brought event packet % 2) × (brought event (packet + 256 * rest) / 256 ≡ brought event rest)
unfolding brought
brought_first Lost packet rest h = (omega arith, omega arith)
brought_first Discarded packet rest h = let half : (packet + 256 * rest) / 2 ≡ packet / 2 + 128 * rest = omega arith in (rw half (omega arith), rw half (omega arith))
brought_first Either packet rest h =
    let half : (packet + 256 * rest) / 2 ≡ packet / 2 + 128 * rest = omega arith in
    let both : packet + 256 * rest + (packet + 256 * rest) / 2 ≡ packet + packet / 2 + 384 * rest = omega arith in
    (rw both (omega arith), rw both (omega arith))

pub flags_are : (event : Event) (s : List ℕ) → Packets s → (i n : ℕ) → lowest n (brought event (joined s i n)) ≡ spread n (number_of (counted_at event s) i n)
unfolding joined lowest spread
flags_are event s b i zero = refl
flags_are event s b i (suc n) =
    let packet = get_or s i 0 in
    let rest = joined s (suc i) n in
    let first = brought_first event packet rest (b i) in
    let number = number_first (counted_at event s) i n in
    ap₂ (λ (x y : ℕ). x + 256 * y) (first.0 ∙ bit_brought event packet (b i) ∙ sym number.0) (ap (lowest n) first.1 ∙ flags_are event s b (suc i) n ∙ ap (spread n) (sym number.1))
