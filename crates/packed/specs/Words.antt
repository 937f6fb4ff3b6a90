-- A packed trace: document 02, ticket 6. "64-bit words, packet i in word i / 64 at bit i modulo 64, .., bits past the end zero." By
-- ticket 7 a one is a packet that counts as a loss. Throughout, `lost i` says whether packet i does.
use Rattle.std.specs.Prelude.{ℕ, zero, suc, ◌+◌, ◌*◌, ◌/◌, ◌%◌, ◌^◌, Bool, List, [], ◌∷◌, eqb, get_or}
use Rattle.trace.specs.Sum.{sum, bit}

abbrev pub word_bits : ℕ
word_bits = 64

-- bit j of a number is a one
unfoldable pub one_at : ℕ → ℕ → Bool
one_at x j = eqb (x / 2 ^ j % 2) 1

-- packet i is a one
unfoldable pub one_in : List ℕ → ℕ → Bool
one_in words i = one_at (get_or words (i / word_bits) 0) (i % word_bits)

-- how many words so many packets need
abbrev pub words_for : ℕ → ℕ
words_for packets = (packets + 63) / word_bits

-- packets i to i + n - 1 as a number, packet i in its lowest bit
unfoldable pub number_of : (ℕ → Bool) → ℕ → ℕ → ℕ
number_of lost i n = sum (λ j. bit (lost (i + j)) * 2 ^ j) 0 n

-- the same as the bytes of a trace
unfoldable pub bytes_of : (ℕ → Bool) → ℕ → ℕ → List ℕ
bytes_of lost i zero = []
bytes_of lost i (suc n) = bit (lost i) ∷ bytes_of lost (suc i) n
