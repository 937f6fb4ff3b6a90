-- The blocks of a packet: RFC 3611, section 3; document 01, "The packet". "A block: type, one type-specific
-- byte, block length in 32-bit words less one, then that many words." Blocks fill the packet from byte 8.
use Rattle.std.specs.Prelude.{ℕ, zero, suc, ◌+◌, ◌*◌, List, [], ◌∷◌, ltb, leb, length, get_or, take, drop}
use Rattle.refusal.specs.Answer.{unless}
use Rattle.wire.specs.BigEndian.{u16_at}

-- a block of a packet: its type, type-specific byte, place and body, the words after its first
pub record Entry : Type 0 where
  pub kind : ℕ
  pub specific : ℕ
  pub place : ℕ
  pub body : List ℕ

-- the bytes after the first word of the block at offset `at`, and where the next block stands
abbrev pub body_length : List ℕ → ℕ → ℕ
body_length s at = 4 * u16_at s (at + 2)

abbrev pub next_at : List ℕ → ℕ → ℕ
next_at s at = at + 4 + body_length s at

unfoldable pub entry_at : List ℕ → ℕ → Entry
entry_at s at =
    record { kind = get_or s at 0; specific = get_or s (at + 1) 0; place = at; body = take (body_length s at) (drop (at + 4) s) }

-- the bytes of the block at `at`, its first word and its body; none where no whole block stands there
unfoldable pub block_at : List ℕ → ℕ → List ℕ
block_at s at = unless (leb (next_at s at) (length s)) [] (take (4 + body_length s at) (drop at s))

-- where that part of s begins; 0 where it is empty
unfoldable pub start_at : List ℕ → ℕ → ℕ
start_at s at = unless (leb (next_at s at) (length s)) 0 at

-- what fills the bytes from one offset to another: whole blocks, or a block at some offset that runs past the end
pub data Frames : Type 0 where
  whole : List Entry → Frames
  past : ℕ → Frames

abbrev pub before : Entry → Frames → Frames
before e (whole es) = whole (e ∷ es)
before e (past offset) = past offset

-- the blocks of s from offset `at` to offset `to`, at most `most` of them
unfoldable pub frames_from : ℕ → List ℕ → ℕ → ℕ → Frames
frames_from zero s at to = whole []
frames_from (suc most) s at to =
    unless (ltb at to) (whole [])
    (unless (leb (next_at s at) to) (past at)
    (before (entry_at s at) (frames_from most s (next_at s at) to)))

-- all of them: there are never more than `to` of them
abbrev pub frames_in : List ℕ → ℕ → ℕ → Frames
frames_in s at to = frames_from to s at to

abbrev pub first_block : ℕ
first_block = 8

-- the blocks of a packet that fills s
abbrev pub frames_of : List ℕ → Frames
frames_of s = frames_in s first_block (length s)

-- the blocks, where they are whole
abbrev pub entries_of : Frames → List Entry
entries_of (whole es) = es
entries_of (past offset) = []
