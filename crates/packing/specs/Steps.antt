-- What the private functions are given and give, for their contracts.
use Rattle.std.specs.Prelude.{ℕ, zero, suc, ◌+◌, ◌*◌, ◌/◌, ◌%◌, ◌<◌, ◌≤◌, ◌≡◌, List, get_or}
use Rattle.trace.specs.declared.Event.{Event}
use Rattle.trace.specs.declared.Event.TheVariants.{Lost, Discarded, Either}
use Rattle.trace.specs.Trace.{packet_max}

-- a trace whose bytes are packets, read past its end as well
abbrev pub Packets : List ℕ → Type 0
Packets s = (i : ℕ) → get_or s i 0 ≤ packet_max

-- n packets from packet i on as one number, the first in its lowest byte
unfoldable pub joined : List ℕ → ℕ → ℕ → ℕ
joined s i zero = 0
joined s i (suc n) = get_or s i 0 + 256 * joined s (suc i) n

-- such a number with the packets that an event counts in the lowest bit of their bytes: lost ones are there, discarded ones a bit above
unfoldable pub brought : Event → ℕ → ℕ
brought Lost eight = eight
brought Discarded eight = eight / 2
brought Either eight = eight + eight / 2

-- the lowest bit of each of n bytes, and zeros around it
unfoldable pub lowest : ℕ → ℕ → ℕ
lowest zero x = 0
lowest (suc n) x = x % 2 + 256 * lowest n (x / 256)

-- the low n bits of a number, each in a byte of its own, the lowest in the lowest byte
unfoldable pub spread : ℕ → ℕ → ℕ
spread zero bits = 0
spread (suc n) bits = bits % 2 + 256 * spread n (bits / 2)

-- a one in each of eight bytes
abbrev pub ones : ℕ
ones = 72340172838076673

-- `eight` spread out of eight bits, gathered again
abbrev pub Gathered : ℕ → ℕ → Type 0
Gathered eight r = (bits : ℕ) → bits < 256 → eight ≡ spread 8 bits → r ≡ bits
