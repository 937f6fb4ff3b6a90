-- Packing and unpacking: document 02, tickets 6 and 7. "The packed form of Ticket 6 has a one for each packet counted by the choice it
-- was packed by, and doesn't keep that choice"; "unpacking gives 1 for each". Packing: 10, 9 for a byte above 2 ("packing no longer
-- refuses 2"), 8 for the room in words. Unpacking: 10, 8, 9 of the words, 8 for the room. Throughout, `lost i` says whether packet i
-- counts as a loss.
use Rattle.std.specs.Prelude.{ℕ, zero, suc, ◌*◌, Bool, List, [], ◌∷◌, ◌++◌, leb, length, Ok, Err}
use Rattle.refusal.specs.Table.{buffer_short}
use Rattle.refusal.specs.Answer.{unless, if_accepted}
use Rattle.trace.specs.Trace.{judged}
use Rattle.packed.specs.Words.{word_bits, words_for, number_of}
use Rattle.packed.specs.Judging.{judged_packed}
use Rattle.refusal.specs.Answer.{Written}

-- the first n words: word k has packets 64 k to 64 k + 63
unfoldable pub words_up_to : (ℕ → Bool) → ℕ → List ℕ
words_up_to lost zero = []
words_up_to lost (suc k) = words_up_to lost k ++ (number_of lost (word_bits * k) word_bits ∷ [])

-- the words of so many packets, behind which none counts
abbrev pub words_of : (ℕ → Bool) → ℕ → List ℕ
words_of lost packets = words_up_to lost (words_for packets)

unfoldable pub pack_answer : List ℕ → List ℕ → Written
pack_answer s buffer =
    if_accepted (judged s) Err
    (unless (leb (words_for (length s)) (length buffer)) (Err buffer_short)
    (Ok (words_for (length s))))

unfoldable pub unpack_answer : List ℕ → ℕ → List ℕ → Written
unpack_answer words packets buffer =
    if_accepted (judged_packed words packets) Err
    (unless (leb packets (length buffer)) (Err buffer_short)
    (Ok packets))
