-- What the private functions of counting give: chunks from byte i on, with so many packets left.
use Rattle.std.specs.Prelude.{ℕ, ◌+◌, ◌-◌, ◌*◌, ◌/◌, ◌%◌, ◌^◌, ◌<◌, ◌≤◌, min, ◌≡◌, true, false, List, Option, Some, None, length, take, drop}
use Rattle.std.specs.Int.Count.{ones}
use Rattle.wire.specs.BigEndian.{be16}
use Rattle.trace.specs.Sum.{sum}
use Rattle.chunk.specs.declared.Part.{Part}
use Rattle.chunk.specs.Chunks.{packets_of, stands_at, covers, trace_in, lost_in, chunks_in}

-- so many bytes of them are so many of the packets, of which so many are lost
pub record Taken (s : List ℕ) (i left bytes packets lost : ℕ) : Type 0 where
  pub within : i + bytes ≤ length s
  pub inside : packets ≤ left
  pub few : lost ≤ packets
  pub covered : covers left (chunks_in (drop i s)) ≡ covers (left - packets) (chunks_in (drop (i + bytes) s))
  pub losses : lost_in (trace_in left (chunks_in (drop i s))) ≡ lost + lost_in (trace_in (left - packets) (chunks_in (drop (i + bytes) s)))

-- a part of that size, and how many bytes of vectors stand in a row then
pub record Next (s : List ℕ) (i left since : ℕ) (p : Part) : Type 0 where
  pub some : 0 < p.bytes
  pub taken : Taken s i left p.bytes p.packets p.lost
  pub row : p.since ≤ since + p.bytes

-- the next part: where there is none, the chunks cover too little or one of them stands where it may not
abbrev pub Step : List ℕ → ℕ → ℕ → ℕ → Option Part → Type 0
Step s i left since None = covers left (chunks_in (drop i s)) ≡ false
Step s i left since (Some p) = Next s i left since p

-- a part of one chunk
pub record Single (c left since : ℕ) (p : Part) : Type 0 where
  pub stands : stands_at c left ≡ true
  pub two : p.bytes ≡ 2
  pub packets : p.packets ≡ min (length (packets_of c)) left
  pub lost : (p.lost ≡ lost_in (take p.packets (packets_of c))) × (p.lost ≤ p.packets)
  pub row : p.since ≤ since

abbrev pub One : ℕ → ℕ → ℕ → Option Part → Type 0
One c left since None = stands_at c left ≡ false
One c left since (Some p) = Single c left since p

-- four chunks side by side, each of 16 bits
unfoldable pub four_at : List ℕ → ℕ → ℕ
four_at s i = (be16 s i * 65536 + be16 s (i + 2)) * 4294967296 + (be16 s (i + 4) * 65536 + be16 s (i + 6))

pub record Halves (s : List ℕ) (i : ℕ) : Type 0 where
  pub first : be16 s i < 65536
  pub second : be16 s (i + 2) < 65536
  pub third : be16 s (i + 4) < 65536
  pub fourth : be16 s (i + 6) < 65536

-- the types of four numbers side by side, each a vector
pub record Types (all : ℕ) : Type 0 where
  pub first : 32768 ≤ all / 2 ^ 48 % 2 ^ 16
  pub second : 32768 ≤ all / 2 ^ 32 % 2 ^ 16
  pub third : 32768 ≤ all / 2 ^ 16 % 2 ^ 16
  pub fourth : 32768 ≤ all / 2 ^ 0 % 2 ^ 16

-- no more fours than these at once
abbrev pub most_fours : ℕ
most_fours = 64

-- chunks by fours: where all have the types of vectors, each four is of vectors; and the ones of all
pub record Sweeping (s : List ℕ) (i fours all total : ℕ) : Type 0 where
  pub halves : (k : ℕ) → k < fours → Halves s (i + 8 * k)
  pub vectors : Types all → (k : ℕ) → k < fours → Types (four_at s (i + 8 * k))
  pub ones_are : total ≡ sum (λ k. ones (four_at s (i + 8 * k))) 0 fours
