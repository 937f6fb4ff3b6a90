-- Report packets written: document 01, "Writing", and the order line "Adding a block: the packet's own, then 16,
-- 17, 8". "Bytes past what a call writes keep what they held." "Only the length field and the new bytes change." What is
-- appended is a block of any kind as words, with its own refusals; a typed block is one use.
use Rattle.std.specs.Prelude.{ℕ, ◌+◌, ◌*◌, List, ◌∷◌, ◌++◌, leb, length, take, drop, Ok, Err}
use Rattle.refusal.specs.Table.{buffer_short, block_value, packet_full}
use Rattle.refusal.specs.Answer.{unless, if_accepted}
use Rattle.wire.specs.BigEndian.{be16, bytes16, bytes32}
use Rattle.block.specs.declared.Block.{Block}
use Rattle.encode.specs.Words.{words_of, in_bytes, writable}
use Rattle.frame.specs.Frames.{first_block}
use Rattle.frame.specs.Packet.{Packet, good, bad, size_in, front_packet}
use Rattle.refusal.specs.Answer.{Judged, Written}

-- "a new packet is eight bytes, its sender and no blocks"
abbrev pub new_bytes : ℕ → List ℕ
new_bytes sender = (128 ∷ 207 ∷ bytes16 1) ++ bytes32 sender

abbrev pub new_answer : List ℕ → Written
new_answer out = unless (leb first_block (length out)) (Err buffer_short) (Ok first_block)

-- the length field once n words are appended, the most that it can hold, and the size in bytes
abbrev pub length_after : List ℕ → ℕ → ℕ
length_after s n = be16 s 2 + n

abbrev pub length_max : ℕ
length_max = 65535

abbrev pub size_after : List ℕ → ℕ → ℕ
size_after s n = 4 * (length_after s n + 1)

-- n words appended to the packet at the front of s: the packet's own refusals, then the block's own, 17, 8; and
-- otherwise the packet's new size in bytes
abbrev pub appended : Packet → Judged → List ℕ → ℕ → Written
appended (bad r) own s n = Err r
appended (good sender es) own s n =
    if_accepted own Err
    (unless (leb (length_after s n) length_max) (Err packet_full)
    (unless (leb (size_after s n) (length s)) (Err buffer_short)
    (Ok (size_after s n))))

unfoldable pub append_answer : List ℕ → Judged → ℕ → Written
append_answer s own n = appended (front_packet s) own s n

-- the packet at the front
abbrev pub front : List ℕ → List ℕ
front s = take (size_in s) s

-- it with its new length field and the words behind it
abbrev pub grown : List ℕ → List ℕ → List ℕ
grown s words = take 2 (front s) ++ bytes16 (length_after s (length words)) ++ drop 4 (front s) ++ in_bytes words

-- a typed block's own refusal: 16
abbrev pub own_of : Block → Judged
own_of b = unless (writable b) (Err block_value) (Ok tt)

abbrev pub add_answer : List ℕ → Block → Written
add_answer s b = append_answer s (own_of b) (length (words_of b))
