-- Batches settled by words: what enters and leaves in 64 steps as the bits of two windows, a stretch without a loss, and words that
-- are zero. Assumes nothing.
use Prim.Native.Nat.{ℕ, suc, ◌+◌, ◌-◌, ◌*◌, ◌/◌, ◌%◌, ◌^◌, ◌<◌, ◌≤◌}
use mathlib.Core.Path.{◌≡◌, refl, sym, ap, ap₂, ◌∙◌}
use mathlib.Core.Bool.{Bool, true, false, ◌&&◌, not}
use mathlib.Core.List.{List}
use native.Mathlib.Omega.{arith}
use native.Mathlib.Decide.{dec_lt}
use native.Mathlib.Nat.{zero-add, zero-div}
use borrow.Author.Tests.{lt-ltb, le-ltb, ltb-false, eqb-true, not-false}
use lib.Bits.{bit_or, or_add_and, and_le_l, and_le_r}
use lib.Dec.{eqb, ltb}
use lib.ListN.{get_or}
use Rattle.trace.specs.Sum.{bit, bits, count}
use Rattle.trace.specs.Trace.{trace_max}
use Rattle.trace.proofs.Sums.{sum_moved, sum_cut, count_none, count_zero}
use Rattle.batch.specs.Batches.{losses_in, is_over}
use Rattle.batch.specs.Forms.{Passed}
use Rattle.batch.proofs.Sliding.{Slid, slid, under_counted}
use Rattle.batch.proofs.Loops.{Tallied, tallied_more}
use Rattle.packed.specs.Words.{word_bits, one_at, one_in, number_of}
use Rattle.packed.proofs.Counts.{window_count}
use Rattle.crossing.specs.Crossing.{over_after, over_among}
use Rattle.packed_loss.specs.Steps.{Settled, Walked, Quiet}

-- two comparisons, one of which has the same more on both sides
more_test : (t held left came before : ℕ) → held + left ≡ before + came → ltb (t + left) (before + came) ≡ ltb t held
more_test t held left came before e = go (dec_lt t held)
  where
    go : Dec (t < held) → ltb (t + left) (before + came) ≡ ltb t held
    go (yes l) = lt-ltb (t + left) (before + came) (omega arith) ∙ sym (lt-ltb t held l)
    go (no l) = le-ltb (t + left) (before + came) (omega arith) ∙ sym (le-ltb t held (omega arith))

module _ (lost : ℕ → Bool) (b t k held : ℕ) (is : held ≡ losses_in lost b k) where
  -- what batch k + n holds
  on : (n : ℕ) → Slid lost b k n held (count lost (k + b) n) (count lost k n)
  on n = slid lost b k held is (count lost (k + b) n) (count lost k n) n refl refl

  -- n batches by the bits of two windows
  pub settled : (n : ℕ) → n ≤ word_bits → over_among t held (number_of lost (k + b) word_bits) (number_of lost k word_bits) n ≡ count (is_over lost b t) (k + 1) n
  unfolding over_after
  settled n h =
      sum_moved (bits (over_after t held (number_of lost (k + b) word_bits) (number_of lost k word_bits))) (bits (is_over lost b t)) 0 (k + 1) n
      (λ j l. rw (zero-add j)
      (let s = on (suc j) in
      let enough = s.enough in
      let value = s.value in
      let place : k + 1 + j ≡ k + suc j = omega arith in
      ap bit
      (ap₂ (λ (x y : ℕ). ltb (t + x) (held + y)) (window_count lost k (suc j) (omega arith)) (window_count lost (k + b) (suc j) (omega arith))
      ∙ more_test t (losses_in lost b (k + suc j)) (count lost k (suc j)) (count lost (k + b) (suc j)) held (omega arith)
      ∙ ap (λ (x : ℕ). ltb t (losses_in lost b x)) (sym place))))

  pub moved_word : Slid lost b k word_bits held (count (one_at (number_of lost (k + b) word_bits)) 0 word_bits) (count (one_at (number_of lost k word_bits)) 0 word_bits)
  moved_word = slid lost b k held is _ _ word_bits (window_count lost (k + b) word_bits (omega arith)) (window_count lost k word_bits (omega arith))

  -- a batch without a loss, and none of the n packets behind it is lost
  module _ (none : held ≡ 0) (n : ℕ) (quiet : (j : ℕ) → k + b ≤ j → j < k + b + n → lost j ≡ false) where
    nothing : count lost (k + b) n ≡ 0
    nothing = count_none lost (k + b) n quiet

    pub quiet_over : 0 ≡ count (is_over lost b t) (k + 1) n
    quiet_over = sym (under_counted lost b k t n (omega (arith, nothing)))

    pub quiet_losses : 0 ≡ losses_in lost b (k + n)
    quiet_losses = omega (arith, nothing, (on n).value)

-- both as the stride behind batch k
module _ (lost : ℕ → Bool) (packets b t k held : ℕ) (is : held ≡ losses_in lost b k) where
  pub settled_word : (over entering leaving came left : ℕ) → k + word_bits + b ≤ packets → entering ≡ number_of lost (k + b) word_bits → leaving ≡ number_of lost k word_bits →
      over ≡ over_among t held entering leaving word_bits → came ≡ count (one_at entering) 0 word_bits → left ≡ count (one_at leaving) 0 word_bits →
      (left ≤ held + came) × Settled lost packets b t k over (k + word_bits) (held + came - left)
  settled_word over entering leaving came left room enters leaves counts in_is out-is =
      let word = moved_word lost b t k held is in
      let enough = word.enough in
      let came-is : came ≡ count (one_at (number_of lost (k + b) word_bits)) 0 word_bits = in_is ∙ ap (λ (x : ℕ). count (one_at x) 0 word_bits) enters in
      let left_is : left ≡ count (one_at (number_of lost k word_bits)) 0 word_bits = out-is ∙ ap (λ (x : ℕ). count (one_at x) 0 word_bits) leaves in
      let n : k + word_bits - k ≡ word_bits = omega arith in (
        omega arith,
        record {
          onward = omega arith;
          within = room;
          held = omega (arith, word.value);
          counts =
              counts ∙ ap₂ (λ (x y : ℕ). over_among t held x y word_bits) enters leaves ∙ settled lost b t k held is word_bits (omega arith)
              ∙ ap (λ (m : ℕ). count (is_over lost b t) (k + 1) m) (sym n);
        },
      )

  pub settled_quiet : (end : ℕ) → held ≡ 0 → k + b < end → end ≤ packets → ((j : ℕ) → k + b ≤ j → j < end → lost j ≡ false) →
      Settled lost packets b t k 0 (end - b) 0
  settled_quiet end none l most quiet =
      let n : ℕ = end - b - k in
      let to : end - b ≡ k + n = omega arith in
      let on = quiet_losses lost b t k held is none n (λ j m h. quiet j m (omega arith)) in
      record {
        onward = omega arith;
        within = omega arith;
        held = on ∙ ap (losses_in lost b) (sym to);
        counts = quiet_over lost b t k held is none n (λ j m h. quiet j m (omega arith));
      }

-- a stride counted with those before it
pub tallied_settled : (lost : ℕ → Bool) (packets b t from over held k more to losses : ℕ) → Tallied lost b t from (packets - b) over held k →
    Settled lost packets b t k more to losses → Tallied lost b t from (packets - b) (over + more) losses to
tallied_settled lost packets b t from over held k more to losses tallied s =
    let onward = s.onward in
    let within = s.within in
    let place : k + (to - k) ≡ to = omega arith in
    rw (← place) (tallied_more lost b t from (packets - b) over held k tallied (to - k) more losses (omega arith) (s.held ∙ ap (losses_in lost b) (sym place)) s.counts)

pub true_false : true ≡ false → ⊥
true_false e = let z : ◌≡◌ {A = ℕ} 0 1 = ap number e in omega arith
  where
    number : Bool → ℕ
    number true = 0
    number false = 1

-- stopped or not: what the walk has come to
pub walked : (lost : ℕ → Bool) (packets b t from : ℕ) (stop : Bool) (over to losses : ℕ) → Tallied lost b t from (packets - b) over losses to → to + b ≤ packets →
    (stop ≡ true → over ≡ 0) → (stop ≡ false → packets - b < to + word_bits) → Walked lost packets b t from stop over to losses
walked lost packets b t from stop over to losses s within stopped all =
    record { onward = s.low; within = within; held = s.losses; counts = s.part.value; stopped = stopped; all = all }

-- and with the batches behind it
pub walked_rest : (lost : ℕ → Bool) (packets b t from over to losses more : ℕ) → Walked lost packets b t from false over to losses →
    more ≡ count (is_over lost b t) (to + 1) (packets - b - to) → over + more ≡ count (is_over lost b t) (from + 1) (packets - b - from)
walked_rest lost packets b t from over to losses more s counts =
    let onward = s.onward in
    let within = s.within in
    let size : packets - b - from ≡ (to - from) + (packets - b - to) = omega arith in
    let place : from + 1 + (to - from) ≡ to + 1 = omega arith in
    omega (
      arith,
      s.counts,
      ap (count (is_over lost b t) (from + 1)) size,
      sum_cut (bits (is_over lost b t)) (from + 1) (to - from) (packets - b - to),
      ap (λ (k : ℕ). count (is_over lost b t) k (packets - b - to)) place,
    )

-- a stride that was not stopped at has none over, where it could be
pub not_stopped : (stop : Bool) (over : ℕ) → (stop && not (eqb over 0)) ≡ false → stop ≡ true → over ≡ 0
not_stopped true over h on = eqb-true over 0 (not-false (eqb over 0) h)
not_stopped false over h on = absurd (true_false (sym on))

-- where none was over, each batch holds at most t
under_walked : (lost : ℕ → Bool) (packets b t k over to losses : ℕ) → Walked lost packets b t k true over to losses → (j : ℕ) → k < j → j ≤ to → losses_in lost b j ≤ t
under_walked lost packets b t k over to losses s j l h =
    ltb-false t (losses_in lost b j) (count_zero (is_over lost b t) (k + 1) (to - k) (sym s.counts ∙ s.stopped refl) j (omega arith) (omega arith))

-- and behind a batch that is not over
pub passed : (lost : ℕ → Bool) (packets b t k held over to losses : ℕ) → held ≡ losses_in lost b k → held ≤ t → Walked lost packets b t k true over to losses →
    Passed lost packets b t k to losses
passed lost packets b t k held over to losses is low w =
    record { onward = w.onward; at = record { within = w.within; held = w.held }; under = λ j l h. go j l h (dec_lt k j) }
  where
    go : (j : ℕ) → k ≤ j → j ≤ to → Dec (k < j) → losses_in lost b j ≤ t
    go j l h (yes later) = under_walked lost packets b t k over to losses w j later h
    go j l h (no here) = let same : j ≡ k = omega arith in rw same (omega arith)

-- words that are zero
both_zero : (a b : ℕ) → bit_or a b ≡ 0 → (a ≡ 0) × (b ≡ 0)
both_zero a b h = let sum = or_add_and a b in let l = and_le_l a b in let r = and_le_r a b in (omega arith, omega arith)

module _ (words : List ℕ) (from : ℕ) where
  -- the first j words from `from` on laid over each other
  abbrev pub Over : ℕ → ℕ → Type 0
  Over any j = any ≡ 0 → (k : ℕ) → from ≤ k → k < from + j → get_or words k 0 ≡ 0

  pub over_none : Over 0 0
  over_none h k l m = absurd (omega arith)

  pub over_more : (any j : ℕ) → Over any j → Over (bit_or any (get_or words (from + j) 0)) (j + 1)
  over_more any j o h k l m = go (dec_lt k (from + j))
    where
      go : Dec (k < from + j) → get_or words k 0 ≡ 0
      go (yes before) = o (both_zero any (get_or words (from + j) 0) h).0 k l before
      go (no later) = let here : k ≡ from + j = omega arith in rw here (both_zero any (get_or words (from + j) 0) h).1

pub lost_quiet : (words : List ℕ) (from to i j : ℕ) → Quiet words from to → from ≤ i / word_bits → i ≤ j → j < to * word_bits → one_in words j ≡ false
unfolding one_in one_at
lost_quiet words from to i j q l h m = rw (q.zero (j / word_bits) (omega arith) (omega arith), zero-div (2 ^ (j % word_bits)))

pub quiet_none : (words : List ℕ) (from : ℕ) → from ≤ trace_max → Quiet words from from
quiet_none words from h = record { onward = omega arith; most = h; zero = λ k l m. absurd (omega arith) }

pub quiet_more : (words : List ℕ) (from to n : ℕ) → Quiet words from to → to + n ≤ trace_max → ((k : ℕ) → to ≤ k → k < to + n → get_or words k 0 ≡ 0) → Quiet words from (to + n)
quiet_more words from to n q h more = let onward = q.onward in record { onward = omega arith; most = h; zero = λ k l m. go k l m (dec_lt k to) }
  where
    go : (k : ℕ) → from ≤ k → k < to + n → Dec (k < to) → get_or words k 0 ≡ 0
    go k l m (yes before) = q.zero k l before
    go k l m (no later) = more k (omega arith) m

pub quiet_on : (words : List ℕ) (from to end : ℕ) → Quiet words from to → Quiet words to end → Quiet words from end
quiet_on words from to end q r =
    let onward = r.onward in
    let size : end ≡ to + (end - to) = omega arith in
    rw size (quiet_more words from to (end - to) q (omega (arith, r.most)) (λ k l m. r.zero k l (omega arith)))
