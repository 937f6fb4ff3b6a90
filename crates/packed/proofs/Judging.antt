-- The cases of judging a packed trace, in the order of the code, and what its answer says. Assumes nothing.
use Prim.Native.Nat.{ℕ, ◌+◌, ◌-◌, ◌*◌, ◌/◌, ◌%◌, ◌^◌, ◌<◌, ◌≤◌}
use mathlib.Core.Path.{◌≡◌, sym, ap₂, ◌∙◌}
use mathlib.Core.Bool.{true, false}
use mathlib.Core.List.{List}
use native.Mathlib.Omega.{arith}
use native.Mathlib.Nat.{mod-eq_of_lt}
use borrow.Author.Tests.{le-leb, lt-leb}
use lib.Count.{count_trailing_zeros}
use lib.ListN.{length, get_or}
use lib.Pow.{shr_lt}
use Rattle.refusal.specs.Table.{trace_length, buffer_short, trace_byte}
use Rattle.trace.specs.Trace.{trace_max, packets_within}
use Rattle.packed.specs.Words.{word_bits, one_in, words_for, number_of, bytes_of}
use Rattle.packed.specs.Judging.{past_end, first_past, judged_packed}
use Rattle.packed.proofs.Numbers.{number_zero}
use Rattle.packed.proofs.Windows.{part_word}
use Rattle.packed.proofs.Bytes.{length_bytes, first_none, first_lost}
use Rattle.std.specs.Prelude.{Ok, Err}

module _ (words : List ℕ) (e : ℕ) where
  abbrev pub room : ℕ
  room = word_bits * words_for e - e

  pub past_length : length (past_end words e) ≡ room
  unfolding past_end
  past_length = length_bytes (one_in words) e room

  pub out_of_range : packets_within trace_max e ≡ false → Err trace_length ≡ judged_packed words e
  unfolding judged_packed
  out_of_range h = rw h

  module _ (range : packets_within trace_max e ≡ true) where
    pub too_few : length words < words_for e → Err buffer_short ≡ judged_packed words e
    unfolding judged_packed
    too_few h = rw (range, lt-leb (words_for e) (length words) h)

    module _ (enough : words_for e ≤ length words) where
      -- the bits past the end as a number
      pub clean : number_of (one_in words) e room ≡ 0 → Ok (tt {0}) ≡ judged_packed words e
      unfolding judged_packed past_end
      clean h =
          let all = first_none (one_in words) e room h in
          rw (range, le-leb (words_for e) (length words) enough, le-leb (length (bytes_of (one_in words) e room)) (first_past words e) (omega (arith, all, length_bytes (one_in words) e room)))

      dirty : (number_of (one_in words) e room ≡ 0 → ⊥) → Err (trace_byte (e + count_trailing_zeros 64 (number_of (one_in words) e room))) ≡ judged_packed words e
      unfolding judged_packed past_end
      dirty h =
          let first = first_lost (one_in words) 64 room e (omega arith) h in
          rw (range, le-leb (words_for e) (length words) enough, lt-leb (length (bytes_of (one_in words) e room)) (first_past words e) (omega (arith, first.within, length_bytes (one_in words) e room)), first.zeros)

      -- the packets fill their words
      pub filled : e % word_bits ≡ 0 → Ok (tt {0}) ≡ judged_packed words e
      filled h = let none : room ≡ 0 = omega arith in clean (number_zero (one_in words) e room (λ j l. absurd (omega arith)))

      -- or some of the last word are past the end
      module _ (part : e % word_bits ≡ 0 → ⊥) (fits : get_or words (e / word_bits) 0 < 2 ^ 64) where
        past_is : get_or words (e / word_bits) 0 / 2 ^ (e % word_bits) ≡ number_of (one_in words) e room
        past_is =
            let here : e ≡ word_bits * (e / word_bits) + e % word_bits = omega arith in
            let left : room ≡ word_bits - e % word_bits = omega arith in
            let size : word_bits ≡ (word_bits - e % word_bits) + e % word_bits = omega arith in
            let small = shr_lt {n = get_or words (e / word_bits) 0} (word_bits - e % word_bits) (e % word_bits) (rw (← size) fits) in
            sym (ap₂ (number_of (one_in words)) here left ∙ part_word words (e / word_bits) (e % word_bits) (word_bits - e % word_bits) (omega arith) ∙ mod-eq_of_lt small)

        pub zeros : get_or words (e / word_bits) 0 / 2 ^ (e % word_bits) ≡ 0 → Ok (tt {0}) ≡ judged_packed words e
        zeros h = clean (sym past_is ∙ h)

        pub some_one : (get_or words (e / word_bits) 0 / 2 ^ (e % word_bits) ≡ 0 → ⊥) →
            Err (trace_byte (e + count_trailing_zeros 64 (get_or words (e / word_bits) 0 / 2 ^ (e % word_bits)))) ≡ judged_packed words e
        some_one h = rw past_is (dirty (λ z. h (past_is ∙ z)))
