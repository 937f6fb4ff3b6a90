-- What callers may lean on: specs/Laws.antt. Assumes nothing.
use Prim.Native.Nat.{ℕ, ◌+◌, ◌-◌, ◌*◌, ◌/◌, ◌^◌, ◌<◌, ◌≤◌}
use mathlib.Core.Path.{◌≡◌, refl, sym, ap}
use mathlib.Core.Bool.{Bool, true, false}
use mathlib.Core.List.{List}
use native.Mathlib.Omega.{arith}
use native.Mathlib.Nat.{zero-div}
use native.Mathlib.Decide.{ℕ_discrete}
use borrow.Author.Tests.{leb-true}
use lib.Dec.{leb}
use lib.ListN.{length, get_or, take, length-take}
use Rattle.refusal.specs.Table.{trace_length, buffer_short, trace_byte}
use Rattle.refusal.proofs.Tests.{passed, same_leb}
use Rattle.trace.specs.Sum.{bit}
use Rattle.trace.specs.Trace.{received, trace_max, packets_within}
use Rattle.trace.proofs.Judging.{in_range_lem, ranged, first_above_lem}
use Rattle.packed.specs.Words.{word_bits, one_in, words_for, number_of}
use Rattle.packed.specs.Judging.{past_end, first_past, judged_packed}
use Rattle.packed.specs.Laws.{AcceptedPacked, PackedAccepted, FirstPast, NeededExactly, NeededPackets, NeededVerdict}
use Rattle.packed.proofs.Numbers.{number_zero, number_at}
use Rattle.packed.proofs.Windows.{one_needed}
use Rattle.packed.proofs.Bytes.{get_or_bytes, bytes_same, first_lost}
use Rattle.packed.proofs.Judging.{room, past_length, clean}
use Rattle.std.specs.Prelude.{Ok, Err}

-- a packet as a bit, and back
bit_zero : (x : Bool) → bit x ≤ 0 → x ≡ false
unfolding bit
bit_zero true h = absurd (omega arith)
bit_zero false h = refl

bit_some : (x : Bool) → 0 < bit x → x ≡ true
unfolding bit
bit_some true h = refl
bit_some false h = absurd (omega arith)

-- the bits past the end, by place
past_at : (words : List ℕ) (packets j : ℕ) → j < room words packets → get_or (past_end words packets) j 0 ≡ bit (one_in words (packets + j))
unfolding past_end
past_at words packets j h = get_or_bytes (one_in words) packets (room words packets) j h

-- no first one among them: their number is 0, and so is each
none_past : (words : List ℕ) (packets : ℕ) → length (past_end words packets) ≤ first_past words packets → number_of (one_in words) packets (room words packets) ≡ 0
unfolding past_end
none_past words packets h = go (ℕ_discrete (number_of (one_in words) packets (room words packets)) 0)
  where
    go : Dec (number_of (one_in words) packets (room words packets) ≡ 0) → number_of (one_in words) packets (room words packets) ≡ 0
    go (yes none) = none
    go (no some) =
        let within = (first_lost (one_in words) 64 (room words packets) packets (omega arith) some).within in
        absurd (omega (arith, past_length words packets))

zero_past : (words : List ℕ) (packets : ℕ) → number_of (one_in words) packets (room words packets) ≡ 0 →
    (i : ℕ) → packets ≤ i → i < word_bits * words_for packets → one_in words i ≡ false
zero_past words packets none i past within =
    let here : packets + (i - packets) ≡ i = omega arith in
    let digit = number_at (one_in words) packets (room words packets) (i - packets) (omega arith) in
    bit_zero (one_in words i) (omega (arith, ap (λ (k : ℕ). bit (one_in words k)) here, digit, ap (λ (x : ℕ). x / 2 ^ (i - packets)) none, zero-div (2 ^ (i - packets))))

-- what an accepted packed trace is
pub accepted_packed : AcceptedPacked
unfolding judged_packed
accepted_packed words packets h =
    let range = passed (packets_within trace_max packets) (Err trace_length) _ (Ok (tt {0})) (λ e. let z : ◌≡◌ {A = ℕ} 0 1 = cc in omega arith) h in
    let enough = passed (leb (words_for packets) (length words)) (Err buffer_short) _ (Ok (tt {0})) (λ e. let z : ◌≡◌ {A = ℕ} 0 1 = cc in omega arith) range.1 in
    let all = passed (leb (length (past_end words packets)) (first_past words packets)) (Err (trace_byte (packets + first_past words packets))) (Ok (tt {0})) (Ok (tt {0})) (λ e. let z : ◌≡◌ {A = ℕ} 0 1 = cc in omega arith) enough.1 in
    let in-it = ranged trace_max packets range.0 in
    record {
      some = in-it.0;
      most = in-it.1;
      enough = leb-true (words_for packets) (length words) enough.0;
      zero = zero_past words packets (none_past words packets (leb-true (length (past_end words packets)) (first_past words packets) all.0));
    }

pub packed_accepted : PackedAccepted
packed_accepted words packets p =
    let none = number_zero (one_in words) packets (room words packets) (λ j h. p.zero (packets + j) (omega arith) (omega arith)) in
    sym (clean words packets (in_range_lem trace_max packets p.some p.most) p.enough none)

-- the place of refusal 9
pub first_past_lem : FirstPast
first_past_lem words packets h =
    let told = first_above_lem received (past_end words packets) h in
    let long = past_length words packets in
    record {
      past = omega arith;
      within = omega arith;
      one = bit_some (one_in words (packets + first_past words packets)) (rw (← past_at words packets (first_past words packets) (omega arith)) told.bad);
      before =
          λ i past l.
          let here : packets + (i - packets) ≡ i = omega arith in
          let zero = told.before (i - packets) (omega arith) in
          bit_zero (one_in words i) (omega (arith, ap (λ (k : ℕ). bit (one_in words k)) here, past_at words packets (i - packets) (omega arith)));
    }

-- the needed words alone
pub needed_packets : NeededPackets
needed_packets = one_needed

past_needed : (words : List ℕ) (packets : ℕ) → past_end (take (words_for packets) words) packets ≡ past_end words packets
unfolding past_end
past_needed words packets =
    let all : words_for (word_bits * words_for packets) ≡ words_for packets = omega arith in
    bytes_same (one_in (take (words_for packets) words)) (one_in words) packets packets (room words packets)
    (λ j h. rw (← all) (one_needed words (word_bits * words_for packets) (packets + j) (omega arith)))

pub needed_verdict : NeededVerdict
unfolding judged_packed
needed_verdict words packets =
    let long = length-take (words_for packets) words in
    let enough : leb (words_for packets) (length (take (words_for packets) words)) ≡ leb (words_for packets) (length words) =
    same_leb (words_for packets) (length (take (words_for packets) words)) (words_for packets) (length words) (λ h. omega arith) (λ h. omega arith)
    in
    rw (enough, past_needed words packets)

pub needed_exactly : NeededExactly
needed_exactly packets k = (λ h. omega arith, λ h. omega arith)
