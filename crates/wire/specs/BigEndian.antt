-- Numbers in network byte order, the most significant byte first: RFC 3611, section 2. "All numbers are
-- big-endian" (document 01, "The packet").
use Rattle.std.specs.Prelude.{ℕ, ◌+◌, ◌*◌, ◌/◌, ◌%◌, List, [], ◌∷◌, ◌++◌, leb, length, get_or, take, drop, replicate}
use Rattle.refusal.specs.Answer.{unless}

-- the 16-bit and the 32-bit number whose first byte stands at i
unfoldable pub be16 : List ℕ → ℕ → ℕ
be16 s i = get_or s i 0 * 256 + get_or s (i + 1) 0

unfoldable pub be32 : List ℕ → ℕ → ℕ
be32 s i = be16 s i * 65536 + be16 s (i + 2)

-- the same, or 0 where the number runs past the end
unfoldable pub u16_at : List ℕ → ℕ → ℕ
u16_at s i = unless (leb (i + 2) (length s)) 0 (be16 s i)

unfoldable pub u32_at : List ℕ → ℕ → ℕ
u32_at s i = unless (leb (i + 4) (length s)) 0 (be32 s i)

-- the n bytes from place i on, or as many zeros where they run past the end
unfoldable pub bytes_in : ℕ → List ℕ → ℕ → List ℕ
bytes_in n s i = unless (leb (i + n) (length s)) (replicate n 0) (take n (drop i s))

-- the bytes of a 16-bit and of a 32-bit number
abbrev pub bytes16 : ℕ → List ℕ
bytes16 n = n / 256 ∷ n % 256 ∷ []

abbrev pub bytes32 : ℕ → List ℕ
bytes32 n = n / 16777216 ∷ n / 65536 % 256 ∷ n / 256 % 256 ∷ n % 256 ∷ []

-- `s` with these bytes from place i on; as it was, where they do not fit
unfoldable pub placed : List ℕ → ℕ → List ℕ → List ℕ
placed s i bytes = unless (leb (i + length bytes) (length s)) s (take i s ++ bytes ++ drop (i + length bytes) s)
