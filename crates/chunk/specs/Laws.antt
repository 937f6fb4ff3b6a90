-- What callers may lean on, as statements about the definitions that the calls promise: document 02, ticket 5. Proved in proofs/.
use Rattle.std.specs.Prelude.{ℕ, ◌+◌, ◌-◌, ◌/◌, ◌%◌, ◌^◌, ◌<◌, ◌≤◌, ◌≡◌, true, false, ◌↔◌, List, length, get_or, take, replicate}
use Rattle.std.specs.Int.Count.{ones}
use Rattle.trace.specs.Trace.{received, lost}
use Rattle.chunk.specs.Chunks.{vector_bits, packets_of, packets_in, covers, trace_in, lost_in}

-- the packets that the first i chunks report on: where it is n or more, chunk i stands behind the end of n packets
abbrev pub reach : List ℕ → ℕ → ℕ
reach cs i = length (packets_in (take i cs))

-- Chunks cover n packets exactly where they reach the end, and each of them is null exactly where it stands behind the end.
pub record Covers (n : ℕ) (cs : List ℕ) : Type 0 where
  pub reached : n ≤ reach cs (length cs)
  pub null : (i : ℕ) → i < length cs → get_or cs i 0 ≡ 0 → n ≤ reach cs i
  pub other : (i : ℕ) → i < length cs → (get_or cs i 0 ≡ 0 → ⊥) → reach cs i < n

abbrev pub CoversExactly : Type 0
CoversExactly = (n : ℕ) (cs : List ℕ) → (covers n cs ≡ true) ↔ Covers n cs

-- And do not exactly for one of three causes: "a null chunk before the end, chunks cover too little, or a chunk other than null
-- follows the end".
pub data Cause (n : ℕ) (cs : List ℕ) : Type 0 where
  null_before : (i : ℕ) → i < length cs → get_or cs i 0 ≡ 0 → reach cs i < n → Cause n cs
  too_little : reach cs (length cs) < n → Cause n cs
  other_behind : (i : ℕ) → i < length cs → (get_or cs i 0 ≡ 0 → ⊥) → n ≤ reach cs i → Cause n cs

abbrev pub UncoveredExactly : Type 0
UncoveredExactly = (n : ℕ) (cs : List ℕ) → (covers n cs ≡ false) ↔ Cause n cs

-- The trace has as many packets as are covered, each received or lost.
abbrev pub TraceLong : Type 0
TraceLong = (n : ℕ) (cs : List ℕ) → covers n cs ≡ true → length (trace_in n cs) ≡ n

abbrev pub TraceBits : Type 0
TraceBits = (n : ℕ) (cs : List ℕ) (i : ℕ) → get_or (trace_in n cs) i 0 ≤ lost

-- "The bit vector is read from left to right, in order of increasing sequence number": packet j of a vector, of fifteen.
abbrev pub VectorBit : Type 0
VectorBit = (c j : ℕ) → 32768 ≤ c → j < vector_bits → get_or (packets_of c) j 0 ≡ 1 - c / 2 ^ (14 - j) % 2

-- "A bit-vector chunk's losses are its fifteen bits less its ones."
abbrev pub VectorLost : Type 0
VectorLost = (c : ℕ) → 32768 ≤ c → lost_in (packets_of c) + ones (c % 32768) ≡ vector_bits

-- A run's packets are alike: lost where the bit behind its type is 0.
abbrev pub RunPackets : Type 0
RunPackets = (c : ℕ) → (c < 16384 → packets_of c ≡ replicate c lost) × (16384 ≤ c → c < 32768 → packets_of c ≡ replicate (c - 16384) received)
