-- The chunks of a Loss RLE block: RFC 3611, section 4.1. "There are three chunk types: run length, bit vector, and
-- terminating null." Here a chunk is the packets that it reports on, earliest first, as the bytes of a trace: 0 received,
-- 1 lost. In the RFC's bits 1 is received and 0 lost.
use Rattle.std.specs.Prelude.{ℕ, zero, suc, ◌+◌, ◌-◌, ◌*◌, ◌/◌, ◌%◌, ◌^◌, Bool, cond, ◌&&◌, List, [], ◌∷◌, ◌++◌, eqb, ltb, length, take, replicate}
use Rattle.trace.specs.Sum.{count}
use Rattle.trace.specs.Trace.{counted_at}
use Rattle.trace.specs.declared.Event.TheVariants.{Lost}

-- 4.1.2: fifteen bits
abbrev pub vector_bits : ℕ
vector_bits = 15

-- "read from left to right, in order of increasing sequence number"; here the low `bits` bits of c
unfoldable pub vector_of : ℕ → ℕ → List ℕ
vector_of zero c = []
vector_of (suc bits) c = (1 - c / 2 ^ bits % 2) ∷ vector_of bits c

-- 4.1.1: the run type in the bit after the leftmost, and fourteen bits of run length
abbrev pub run_of : ℕ → List ℕ
run_of c = replicate (c % 16384) (1 - c / 16384)

-- "the left most bit of the chunk determines its type: 0 for run length and 1 for bit vector"
unfoldable pub packets_of : ℕ → List ℕ
packets_of c = cond (ltb c 32768) (run_of c) (vector_of vector_bits c)

-- 4.1.3: "This chunk is all zeroes." It reports on nothing, as a run of length 0.
abbrev pub is_null : ℕ → Bool
is_null c = eqb c 0

-- chunks one behind the other
unfoldable pub packets_in : List ℕ → List ℕ
packets_in [] = []
packets_in (c ∷ cs) = packets_of c ++ packets_in cs

-- with n packets still to cover: a null chunk stands only behind the end, any other only before it
abbrev pub stands_at : ℕ → ℕ → Bool
stands_at c n = cond (is_null c) (eqb n 0) (ltb 0 n)

-- Whether chunks cover n packets, document 02, ticket 5: each stands where it may, and behind the last no packet is left. A
-- chunk past the end counts up to the end.
unfoldable pub covers : ℕ → List ℕ → Bool
covers n [] = eqb n 0
covers n (c ∷ cs) = stands_at c n && covers (n - length (packets_of c)) cs

-- the trace of n packets that chunks describe
abbrev pub trace_in : ℕ → List ℕ → List ℕ
trace_in n cs = take n (packets_in cs)

-- the lost packets of a trace
abbrev pub lost_in : List ℕ → ℕ
lost_in s = count (counted_at Lost s) 0 (length s)

-- bytes as 16-bit numbers, big-endian; a byte that is left over is none
unfoldable pub chunks_in : List ℕ → List ℕ
chunks_in [] = []
chunks_in (high ∷ []) = []
chunks_in (high ∷ low ∷ bytes) = (high * 256 + low) ∷ chunks_in bytes
