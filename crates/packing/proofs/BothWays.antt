-- What packing leaves, by every choice, and that conversion goes both ways: specs/Laws.antt. Assumes nothing.
use Prim.Native.Nat.{ℕ, zero, suc, ◌+◌, ◌*◌, ◌/◌, ◌%◌, ◌^◌, ◌<◌, ◌≤◌}
use mathlib.Core.Path.{◌≡◌, refl, sym, ap, ap₂, ◌∙◌}
use mathlib.Core.Bool.{Bool, true, false}
use mathlib.Core.List.{List, [], ◌∷◌, ◌++◌}
use native.Mathlib.Omega.{arith}
use native.Mathlib.Nat.{add-zero, zero-add, suc-add, div-one, mod-eq_of_lt}
use native.Mathlib.Decide.{dec_lt}
use borrow.Author.Tests.{le-leb, lt-leb}
use lib.Dec.{eqb, leb}
use lib.ListN.{length, get_or, take, drop, length-append, get_or-append}
use lib.Seq.{take-suc, take_at, get_or_at, drop_at}
use Rattle.refusal.specs.Answer.{unless, if_accepted, after}
use Rattle.refusal.specs.Table.{buffer_short}
use Rattle.trace.specs.Sum.{bit}
use Rattle.trace.specs.Trace.{lost, discarded, packet_max, trace_max, counted_at, counts_as, flagged, first_above, judged_within, judged}
use Rattle.trace.specs.Laws.{IsWithin, IsTrace}
use Rattle.trace.specs.declared.Event.{Event}
use Rattle.trace.proofs.Sums.{bit_le}
use Rattle.trace.proofs.Events.{received_uncounted, none_past}
use Rattle.trace.proofs.Judging.{trace_accepted}
use Rattle.packed.specs.Words.{word_bits, one_at, one_in, words_for, number_of, bytes_of}
use Rattle.packed.proofs.Numbers.{number_at, number_same, digit_bit}
use Rattle.packed.proofs.Windows.{one_word, part_word}
use Rattle.packed.proofs.Bytes.{length_bytes, get_or_bytes, bytes_same}
use Rattle.packed.proofs.Laws.{packed_accepted}
use Rattle.packing.specs.Packing.{words_up_to, words_of, pack_answer}
use Rattle.packing.specs.Laws.{packed_into, unpacked_into, PackedForm, PackUnpack, PackBack, UnpackPack, BehindKept, PackAsBefore}
use Rattle.packing.proofs.Words.{length_words}
use Rattle.packing.proofs.Answers.{pack_done, unpack_done}
use Rattle.std.specs.Prelude.{Ok, Err}
use Rattle.refusal.specs.Answer.{Judged, Written}

-- a bit is a packet that is lost or not
bit_lost : (x : Bool) → eqb (bit x) lost ≡ x
unfolding bit
bit_lost true = refl
bit_lost false = refl

-- word k of the words of packets, and its packets
get_d_words : (f : ℕ → Bool) (n k : ℕ) → k < n → get_or (words_up_to f n) k 0 ≡ number_of f (word_bits * k) word_bits
unfolding words_up_to
get_d_words f zero k h = absurd (omega arith)
get_d_words f (suc n) k h = go (dec_lt k n) (get_d_words f n k)
  where
    go : Dec (k < n) → (k < n → get_or (words_up_to f n) k 0 ≡ number_of f (word_bits * k) word_bits) → get_or (words_up_to f (suc n)) k 0 ≡ number_of f (word_bits * k) word_bits
    go (yes l) before = get_or-append (words_up_to f n) (number_of f (word_bits * n) word_bits ∷ []) 0 k (omega (arith, length_words f n)) ∙ before l
    go (no l) before =
        let here : k ≡ n = omega arith in
        rw here (get_or_at (words_up_to f n) (number_of f (word_bits * n) word_bits) [] 0 n (length_words f n))

packets_of_words : (f : ℕ → Bool) (n : ℕ) (rest : List ℕ) (i : ℕ) → i < word_bits * n → one_in (words_up_to f n ++ rest) i ≡ f i
unfolding one_at
packets_of_words f n rest i h =
    let q : ℕ = i / word_bits in
    let r : ℕ = i % word_bits in
    let at : word_bits * q + r ≡ i = omega arith in
    let word = get_or-append (words_up_to f n) rest 0 q (omega (arith, length_words f n)) ∙ get_d_words f n q (omega arith) in
    ap (one_in (words_up_to f n ++ rest)) (sym at) ∙ one_word (words_up_to f n ++ rest) q r (omega arith) ∙ ap (λ (w : ℕ). one_at w r) word
    ∙ ap (λ (d : ℕ). eqb d 1) (number_at f (word_bits * q) word_bits r (omega arith)) ∙ bit_lost (f (word_bits * q + r)) ∙ ap f at

-- the bytes of a trace's counted packets
bytes_of_lem : (event : Event) (s : List ℕ) → bytes_of (counted_at event s) 0 (length s) ≡ flagged event s
unfolding bytes_of
bytes_of_lem event [] = refl
bytes_of_lem event (packet ∷ s) =
    let rest = bytes_same (counted_at event (packet ∷ s)) (counted_at event s) 1 0 (length s) (λ j h. rw (suc-add 0 j)) in
    ap (λ (l : List ℕ). bit (counts_as event packet) ∷ l) (rest ∙ bytes_of_lem event s)

module _ (event : Event) (lost-counted : counts_as event lost ≡ true) where
  -- a bit counts where it is a one
  bit_counted : (x : Bool) → counts_as event (bit x) ≡ x
  unfolding bit
  bit_counted true = lost-counted
  bit_counted false = received_uncounted event

  -- so the counted packets of a trace without discards are the trace
  flag_same : (packet : ℕ) → packet ≤ lost → bit (counts_as event packet) ≡ packet
  flag_same packet h =
      let one = digit_bit packet (omega arith) in
      ap (λ (p : ℕ). bit (counts_as event p)) (sym one) ∙ ap bit (bit_counted (eqb packet 1)) ∙ one

  flagged_same : (s : List ℕ) → ((i : ℕ) → i < length s → get_or s i 0 ≤ lost) → flagged event s ≡ s
  flagged_same [] each = refl
  flagged_same (packet ∷ s) each =
      ap₂ (λ (x : ℕ) (l : List ℕ). x ∷ l) (flag_same packet (each 0 (omega arith))) (flagged_same s (λ i h. each (suc i) (omega arith)))

  -- and back: the packets of bytes
  packets_of_bytes : (f : ℕ → Bool) (n i : ℕ) → i < n → counted_at event (bytes_of f 0 n) i ≡ f i
  packets_of_bytes f n i h = ap (counts_as event) (get_or_bytes f 0 n i h ∙ ap (λ (k : ℕ). bit (f k)) (zero-add i)) ∙ bit_counted (f i)

-- the words of the packets of words, which are of 64 bits, are those words
words_of_lem : (f : ℕ → Bool) (words : List ℕ) (n : ℕ) → n ≤ length words → ((k : ℕ) → get_or words k 0 < 2 ^ 64) → ((i : ℕ) → i < word_bits * n → f i ≡ one_in words i) →
    words_up_to f n ≡ take n words
unfolding words_up_to
words_of_lem f words zero h fits same = refl
words_of_lem f words (suc n) h fits same =
    let word : number_of f (word_bits * n) word_bits ≡ get_or words n 0 =
    number_same f (one_in words) (word_bits * n) (word_bits * n) word_bits (λ j l. same (word_bits * n + j) (omega arith))
    ∙ ap (λ (i : ℕ). number_of (one_in words) i word_bits) (sym (add-zero (word_bits * n))) ∙ part_word words n 0 word_bits (omega arith)
    ∙ ap (λ (w : ℕ). w % 2 ^ 64) (div-one (get_or words n 0)) ∙ mod-eq_of_lt (fits n)
    in
    ap₂ (λ (l : List ℕ) (w : ℕ). l ++ (w ∷ [])) (words_of_lem f words n (omega arith) fits (λ i l. same i (omega arith))) word ∙ sym (take-suc words n 0 (omega arith))

pub packed_form : PackedForm
packed_form event s buffer t enough =
    let f = counted_at event s in
    let n : ℕ = words_for (length s) in
    let packed = pack_done event s buffer (trace_accepted s t) enough in
    let words : List ℕ = packed_into event s buffer in
    let same : (i : ℕ) → i < word_bits * n → one_in words i ≡ f i =
    λ i h. ap (λ (l : List ℕ). one_in l i) (sym packed.1) ∙ packets_of_words f n (drop n buffer) i h
    in
    let long : length words ≡ n + length (drop n buffer) = ap length (sym packed.1) ∙ length-append (words_up_to f n) (drop n buffer) ∙ ap (λ (k : ℕ). k + length (drop n buffer)) (length_words f n) in
    record {
      packed = record { some = t.some; most = t.most; enough = omega arith; zero = λ i past h. same i h ∙ none_past event s i past };
      same = λ i h. same i (omega arith);
    }

pub pack_unpack : PackUnpack
pack_unpack event s buffer room t enough fits =
    let words : List ℕ = packed_into event s buffer in
    let form = packed_form event s buffer t enough in
    let unpacked = unpack_done words (length s) room (packed_accepted words (length s) form.packed) fits in
    let bytes : bytes_of (one_in words) 0 (length s) ≡ flagged event s =
    bytes_same (one_in words) (counted_at event s) 0 0 (length s) (λ j h. rw (zero-add j) (form.same j h)) ∙ bytes_of_lem event s
    in (
      sym (pack_done event s buffer (trace_accepted s t) enough).0,
      sym unpacked.0,
      sym unpacked.1 ∙ ap (λ (l : List ℕ). l ++ drop (length s) room) bytes,
    )

-- a trace without discards is a trace
pub without : (s : List ℕ) → IsWithin trace_max lost s → IsTrace s
without s t = record { some = t.some; most = t.most; each = λ i h. let each = t.each i h in omega arith }

pub pack_back : PackBack
pack_back event s buffer room counted t enough fits =
    (pack_unpack event s buffer room (without s t) enough fits).2 ∙ ap (λ (l : List ℕ). l ++ drop (length s) room) (flagged_same event counted s t.each)

pub unpack_pack : UnpackPack
unpack_pack event words room buffer packets counted word_fits p fits enough =
    let f = one_in words in
    let n : ℕ = words_for packets in
    let bytes : List ℕ = bytes_of f 0 packets in
    let long : length bytes ≡ packets = length_bytes f 0 packets in
    let unpacked = unpack_done words packets room (packed_accepted words packets p) fits in
    let taken : bytes ≡ take packets (unpacked_into words packets room) = sym (ap (take packets) (sym unpacked.1) ∙ take_at bytes (drop packets room) packets long) in
    let t : IsWithin trace_max lost bytes =
    record {
      some = let some = p.some in omega arith;
      most = let most = p.most in omega arith;
      each = λ i h. rw (get_or_bytes f 0 packets i (omega arith)) (bit_le (f (0 + i)));
    }
    in
    let packed = pack_done event bytes buffer (trace_accepted bytes (without bytes t)) (rw long enough) in
    let same : (i : ℕ) → i < word_bits * n → counted_at event bytes i ≡ f i =
    λ i h. elim (dec_lt i packets) [ yes l ↦ packets_of_bytes event counted f packets i l | no l ↦ none_past event bytes i (omega arith) ∙ sym (p.zero i (omega arith) h) ]
    in
    let all : words_up_to (counted_at event bytes) n ≡ take n words = words_of_lem (counted_at event bytes) words n p.enough word_fits same in
    rw (← taken) (
      sym unpacked.0,
      sym packed.0 ∙ ap (λ (k : ℕ). Ok (words_for k)) long,
      sym packed.1 ∙ ap (λ (k : ℕ). words_of (counted_at event bytes) k ++ drop (words_for k) buffer) long ∙ ap (λ (l : List ℕ). l ++ drop n buffer) all,
    )

-- whatever the answer, what stands behind the words is as it was
kept_behind : (answer : Written) (result buffer : List ℕ) (n : ℕ) → length result ≡ n → ((m : ℕ) → answer ≡ Ok m → m ≡ n) → drop n (after answer result buffer) ≡ drop n buffer
kept_behind (Ok m) result buffer n long is = drop_at result (drop m buffer) n long ∙ ap (λ (k : ℕ). drop k buffer) (is m refl)
kept_behind (Err r) result buffer n long is = refl

size_is : (j : Judged) (t : Bool) (n m : ℕ) → if_accepted j Err (unless t (Err buffer_short) (Ok n)) ≡ Ok m → m ≡ n
size_is (Ok _) true n m h = cc
size_is (Ok _) false n m h = let z : ◌≡◌ {A = ℕ} 0 1 = cc in absurd (omega arith)
size_is (Err r) t n m h = let z : ◌≡◌ {A = ℕ} 0 1 = cc in absurd (omega arith)

pub behind_kept : BehindKept
unfolding pack_answer
behind_kept event s buffer =
    let n : ℕ = words_for (length s) in
    kept_behind (pack_answer s buffer) (words_of (counted_at event s) (length s)) buffer n (length_words (counted_at event s) n)
    (λ m h. size_is (judged s) (leb n (length buffer)) n m h)

-- without a 2 the first byte above 1 is the first above 2
first_same : (s : List ℕ) → ((i : ℕ) → i < length s → get_or s i 0 ≡ discarded → ⊥) → first_above packet_max s ≡ first_above lost s
unfolding first_above
first_same [] none = refl
first_same (packet ∷ s) none = go (dec_lt packet 2) (first_same s (λ i h. none (suc i) (omega arith)))
  where
    go : Dec (packet < 2) → first_above packet_max s ≡ first_above lost s → first_above packet_max (packet ∷ s) ≡ first_above lost (packet ∷ s)
    go (yes h) later = rw (le-leb packet packet_max (omega arith), le-leb packet lost (omega arith)) (ap suc later)
    go (no h) later =
        let some : packet ≡ 2 → ⊥ = none 0 (omega arith) in
        rw (lt-leb packet packet_max (omega arith), lt-leb packet lost (omega arith))

pub pack_as_before : PackAsBefore
unfolding pack_answer judged_within
pack_as_before s buffer none = rw (first_same s none)
