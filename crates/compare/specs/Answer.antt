-- What comparing two packets answers, and the lent list afterwards: document 02, ticket 1. "It gives the number of entries and
-- fills a lent list of 32-bit numbers, five an entry." "Refusals: 1 to 6, first packet before second, then 8."
use Rattle.std.specs.Prelude.{ℕ, ◌*◌, List, [], ◌++◌, leb, length, drop, Result, Ok, Err}
use Rattle.refusal.specs.Table.{buffer_short}
use Rattle.refusal.specs.Answer.{unless}
use Rattle.frame.specs.Packet.{Packet, good, bad}
use Rattle.difference.specs.declared.Difference.{Difference}
use Rattle.difference.specs.Numbers.{numbers_of}
use Rattle.compare.specs.Differences.{contents, differences}
use Rattle.refusal.specs.declared.Refusal.{Refusal}

-- of two good packets; none where one is refused
abbrev pub differences_of : Packet → Packet → List Difference
differences_of (good a xs) (good b ys) = differences a (contents xs xs) b (contents ys ys)
differences_of (good a xs) (bad r) = []
differences_of (bad r) q = []

abbrev pub compare_answer : Packet → Packet → List ℕ → Result ℕ Refusal
compare_answer (good a xs) (good b ys) out =
    unless (leb (5 * length (differences_of (good a xs) (good b ys))) (length out)) (Err buffer_short)
    (Ok (length (differences_of (good a xs) (good b ys))))
compare_answer (good a xs) (bad r) out = Err r
compare_answer (bad r) q out = Err r

-- the list after an answer: the differences, then the numbers past them as they were; as it was, where the call refused
abbrev pub with_differences : Result ℕ Refusal → List Difference → List ℕ → List ℕ
with_differences (Ok n) ds out = numbers_of ds ++ drop (5 * n) out
with_differences (Err r) ds out = out

abbrev pub list_after : Packet → Packet → List ℕ → List ℕ
list_after p q out = with_differences (compare_answer p q out) (differences_of p q) out
