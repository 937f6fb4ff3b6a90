-- The plan is demand 3's: valid, the smallest, and the one that marks as late as it can. Assumes nothing.
use Prim.Native.Nat.{ℕ, ◌+◌, ◌<◌, ◌≤◌}
use mathlib.Core.Path.{◌≡◌, refl, sym, ◌∙◌}
use mathlib.Core.Bool.{Bool, true, false, ◌&&◌, not}
use mathlib.Core.List.{List}
use native.Mathlib.Omega.{arith}
use native.Mathlib.Decide.{ℕ_discrete}
use native.Mathlib.Nat.{zero-add}
use borrow.Author.Tests.{eqb-true, eqb-false, not-true, not-false}
use lib.Dec.{eqb}
use lib.ListN.{get_or}
use lib.Seq.{ext_get_or}
use Rattle.trace.specs.Sum.{bit, bits}
use Rattle.trace.proofs.Sums.{bit_le, sum_both, up_to}
use Rattle.batch.specs.Batches.{first_from}
use Rattle.batch.proofs.Searching.{Meant, meant}
use Rattle.resend.specs.Plans.{marked, marks, left, Valid, DifferFirst, Best}
use Rattle.resend.specs.Greedy.{plan_of}
use Rattle.resend.specs.Laws.{BestOne}
use Rattle.resend.proofs.Ahead.{Held, held, ahead, sent_too}
use Rattle.resend.proofs.Windows.{batches_held, held_batches}
use Rattle.resend.proofs.Greedy.{plan_length, rule, mark_le}
use Rattle.std.specs.Prelude.{Option, Some, None}

-- a mark at a lost packet only: of such a packet, one of marked and left; of any other, neither
lost_or : (x m : Bool) → (m ≡ true → x ≡ true) → bit x ≡ bit (x && not m) + bit m
unfolding bit
lost_or true true h = refl
lost_or true false h = refl
lost_or false true h = let z : ◌≡◌ {A = ℕ} 0 1 = (let f = h refl in cc) in absurd (omega arith)
lost_or false false h = refl

bit_true : (x : Bool) → 1 ≤ bit x → x ≡ true
unfolding bit
bit_true true h = refl
bit_true false h = absurd (omega arith)

module _ (lost : ℕ → Bool) (e b t : ℕ) where
  each_or : (p : List ℕ) → Valid lost e b t p → (i : ℕ) → i < e → bits lost i ≡ bits (left lost p) i + bits (marked p) i
  each_or p v i h = lost_or (lost i) (marked p i) (v.lost_only i h)

  -- the losses are those left and those marked
  marks_left : (p : List ℕ) → Valid lost e b t p → up_to (bits lost) e ≡ up_to (bits (left lost p)) e + marks p
  marks_left p v = rw v.plan.long (sum_both (bits lost) (bits (left lost p)) (bits (marked p)) 0 e (λ i h. rw (zero-add i) (each_or p v i h)))

  module _ (some : 1 ≤ b) (within : b ≤ e) where
    abbrev ours : List ℕ
    ours = plan_of lost b t e

    pub ours_valid : Valid lost e b t ours
    ours_valid =
        record {
          plan = record { long = plan_length lost b t e; each = λ i h. omega (arith, mark_le lost b t e i h, bit_le (lost i)) };
          lost_only = λ i h m. bit_true (lost i) (omega (arith, mark_le lost b t e i h, eqb-true (get_or ours i 0) 1 m));
          none_over = batches_held (left lost ours) e b t within (held _ _ _ b t e some (rule lost b t e));
        }

    module _ (q : List ℕ) (v : Valid lost e b t q) where
      only : (i : ℕ) → i < e → bits (left lost q) i ≤ bits lost i
      only i h = omega (arith, each_or q v i h)

      other : (n : ℕ) → n ≤ e → Held (bits (left lost q)) b t n
      other = held_batches (left lost q) e b t within v.none_over

      pub ours_fewest : marks ours ≤ marks q
      ours_fewest = omega (arith, marks_left ours ours_valid, marks_left q v, ahead _ _ _ b t e some (rule lost b t e) _ only other)

      -- at the first difference the other has the mark, whatever its count
      pub ours_latest : (i : ℕ) → i < e → DifferFirst ours q i → (get_or q i 0 ≡ 1) × (get_or ours i 0 ≡ 0)
      ours_latest i h d = go (ℕ_discrete (get_or ours i 0) 0)
        where
          go : Dec (get_or ours i 0 ≡ 0) → (get_or q i 0 ≡ 1) × (get_or ours i 0 ≡ 0)
          go (yes none) =
              let some-mark : get_or q i 0 ≡ 0 → ⊥ = λ z. d.here (none ∙ sym z) in
              (omega (arith, v.plan.each i h), none)
          go (no mark) =
              let one : get_or ours i 0 ≡ 1 = omega (arith, ours_valid.plan.each i h) in
              let too = sent_too _ _ _ b t e some (rule lost b t e) _ only other i h (λ j l. rw (d.before j l)) one in
              absurd (d.here (one ∙ sym (eqb-true (get_or q i 0) 1 (bit_true (marked q i) (omega (arith, each_or q v i h))))))

    pub ours_best : Best lost e b t ours
    ours_best =
        record {
          smallest = record { valid = ours_valid; fewest = ours_fewest };
          first_difference = λ q v same i h d. ours_latest q v i h d;
        }

-- two best plans, compared up to the first packet at which they differ
pub best_one : BestOne
best_one lost e b t p q bp bq = go (first_from differs e 0) (meant differs e 0)
  where
    vp : Valid lost e b t p
    vp = bp.smallest.valid

    vq : Valid lost e b t q
    vq = bq.smallest.valid

    count : marks q ≡ marks p
    count = omega (arith, bp.smallest.fewest q vq, bq.smallest.fewest p vp)

    differs : ℕ → Bool
    differs i = not (eqb (get_or p i 0) (get_or q i 0))

    same : (i : ℕ) → differs i ≡ false → get_or p i 0 ≡ get_or q i 0
    same i h = eqb-true (get_or p i 0) (get_or q i 0) (not-false (eqb (get_or p i 0) (get_or q i 0)) h)

    go : (r : Option ℕ) → Meant differs e 0 r → p ≡ q
    go None m = ext_get_or 0 p q (vp.plan.long ∙ sym vq.plan.long) (λ i h. same i (m i (omega arith) (omega (arith, vp.plan.long))))
    go (Some i) m =
        let here = eqb-false (get_or p i 0) (get_or q i 0) (not-true (eqb (get_or p i 0) (get_or q i 0)) m.2) in
        let one = bp.first_difference q vq count i (omega arith) (record { before = λ j l. same j (m.3 j (omega arith) l); here = here }) in
        let two = bq.first_difference p vp (sym count) i (omega arith) (record { before = λ j l. sym (same j (m.3 j (omega arith) l)); here = λ z. here (sym z) }) in
        absurd (omega arith)
