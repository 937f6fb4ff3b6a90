-- The cases of packing and of unpacking. Assumes nothing.
use Prim.Native.Nat.{ℕ, ◌<◌, ◌≤◌}
use mathlib.Core.Path.{◌≡◌, refl}
use mathlib.Core.List.{List, ◌++◌}
use native.Mathlib.Omega.{arith}
use native.Mathlib.Decide.{dec_lt}
use borrow.Author.Tests.{le-leb, lt-leb}
use lib.ListN.{length, get_or, drop, get_or-eq_default}
use Rattle.refusal.specs.Table.{buffer_short}
use Rattle.refusal.specs.declared.Refusal.{Refusal}
use Rattle.trace.specs.Trace.{packet_max, counted_at, judged}
use Rattle.trace.specs.Laws.{IsTrace}
use Rattle.trace.specs.declared.Event.{Event}
use Rattle.packed.specs.Words.{words_for, one_in, bytes_of}
use Rattle.packed.specs.Judging.{judged_packed}
use Rattle.packing.specs.Packing.{words_of, pack_answer, unpack_answer}
use Rattle.packing.specs.Laws.{packed_into, unpacked_into}
use Rattle.packing.specs.Steps.{Packets}
use Rattle.std.specs.Prelude.{Ok, Err}
use Rattle.refusal.specs.Answer.{Written}

-- an accepted trace has packets alone, read past its end as well
pub trace_packets : (s : List ℕ) → IsTrace s → Packets s
trace_packets s t i = go (dec_lt i (length s))
  where
    go : Dec (i < length s) → get_or s i 0 ≤ packet_max
    go (yes h) = t.each i h
    go (no h) = rw (get_or-eq_default s 0 {n = i} (omega arith)) (omega arith)

-- the answer, and the buffer afterwards
module _ (event : Event) (s buffer : List ℕ) where
  abbrev pub Packed : Written → List ℕ → Type 0
  Packed r buffer' = (r ≡ pack_answer s buffer) × (buffer' ≡ packed_into event s buffer)

  pub pack_refused : (r : Refusal) → judged s ≡ Err r → Packed (Err r) buffer
  unfolding pack_answer
  pack_refused r is = rw is (refl, refl)

  module _ (is : judged s ≡ (Ok (tt {0}))) where
    pub pack_short : length buffer < words_for (length s) → Packed (Err buffer_short) buffer
    unfolding pack_answer
    pack_short h = rw (is, lt-leb (words_for (length s)) (length buffer) h) (refl, refl)

    pub pack_done : words_for (length s) ≤ length buffer → Packed (Ok (words_for (length s))) (words_of (counted_at event s) (length s) ++ drop (words_for (length s)) buffer)
    unfolding pack_answer
    pack_done h = rw (is, le-leb (words_for (length s)) (length buffer) h) (refl, refl)

module _ (words : List ℕ) (packets : ℕ) (buffer : List ℕ) where
  abbrev pub Unpacked : Written → List ℕ → Type 0
  Unpacked r buffer' = (r ≡ unpack_answer words packets buffer) × (buffer' ≡ unpacked_into words packets buffer)

  pub unpack_refused : (r : Refusal) → judged_packed words packets ≡ Err r → Unpacked (Err r) buffer
  unfolding unpack_answer
  unpack_refused r is = rw is (refl, refl)

  module _ (is : judged_packed words packets ≡ (Ok (tt {0}))) where
    pub unpack_short : length buffer < packets → Unpacked (Err buffer_short) buffer
    unfolding unpack_answer
    unpack_short h = rw (is, lt-leb packets (length buffer) h) (refl, refl)

    pub unpack_done : packets ≤ length buffer → Unpacked (Ok packets) (bytes_of (one_in words) 0 packets ++ drop packets buffer)
    unfolding unpack_answer
    unpack_done h = rw (is, le-leb packets (length buffer) h) (refl, refl)
