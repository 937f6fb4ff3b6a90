-- The loop that fills the plan, as plain lists and numbers: its invariant, one turn in two steps (a packet leaves
-- the window, the next one enters it), and the end. Assumes nothing.
use Prim.Native.Nat.{ℕ, zero, suc, ◌+◌, ◌-◌, ◌<◌, ◌≤◌, min}
use mathlib.Core.Path.{◌≡◌, refl, sym, ap, ◌∙◌}
use mathlib.Core.Bool.{Bool, true, false, ◌&&◌, not}
use mathlib.Core.List.{List, ◌++◌}
use native.Mathlib.Omega.{arith}
use native.Mathlib.Decide.{dec_le}
use native.Mathlib.Nat.{add-zero}
use native.Mathlib.Numerals.{add-one}
use borrow.Author.Tests.{le-leb, lt-leb}
use lib.Dec.{eqb}
use mir.Val.{bool_byte}
use lib.ListN.{length, get_or, set, take, drop, get_or-append}
use lib.Seq.{length-take-le, length_front, take_all, take-suc, get_or-take, drop-cons, set_at, append_snoc}
use Rattle.trace.specs.Sum.{bit, bits}
use Rattle.trace.proofs.Sums.{sum_none, count_most, up_to, up_to_next}
use Rattle.resend.specs.Plans.{marked, marks, left}
use Rattle.resend.specs.Greedy.{window_at, to_mark, plan_of}
use Rattle.resend.specs.Steps.{leaving, Filling}
use Rattle.resend.proofs.Ahead.{one_of, passes, behind, before, held}
use Rattle.resend.proofs.Greedy.{plan_length, plan_at, rule, mark_le}

-- a packet with a byte of at most its own bit: it leaves as the difference of the two
less_mark : (x : Bool) (mark : ℕ) → mark ≤ bit x → (mark ≤ bool_byte x) × (bool_byte x ≤ 1) × (bit (x && not (eqb mark 1)) ≡ bool_byte x - mark)
unfolding bit
less_mark true zero h = (omega arith, omega arith, refl)
less_mark true (suc zero) h = (omega arith, omega arith, refl)
less_mark true (suc (suc n)) h = absurd (omega arith)
less_mark false mark h = (h, omega arith, omega arith)

-- what leaves the window, case by case
module _ (lost : ℕ → Bool) (b : ℕ) (p : List ℕ) (i : ℕ) where
  leaves_none : i < b → leaving lost b p i ≡ 0
  unfolding leaving
  leaves_none h = rw (lt-leb b i h)

  leaves_there : b ≤ i → leaving lost b p i ≡ bit (left lost p (i - b))
  unfolding leaving
  leaves_there h = rw (le-leb b i h)

  pub leaves_less : b ≤ i → get_or p (i - b) 0 ≤ bit (lost (i - b)) → (x : Bool) → x ≡ lost (i - b) →
      (get_or p (i - b) 0 ≤ bool_byte x) × (bool_byte x ≤ 1) × (leaving lost b p i ≡ bool_byte x - get_or p (i - b) 0)
  leaves_less h m x is = rw (is, leaves_there h) (less_mark (lost (i - b)) (get_or p (i - b) 0) m)

  -- the count as it was
  pub slides_none : (n : ℕ) → i < b → n ≡ n - leaving lost b p i
  slides_none n h = omega (arith, leaves_none h)

-- a bit read as a mark is the bit
mark_bit : (x : Bool) → bit (eqb (bit x) 1) ≡ bit x
unfolding bit
mark_bit true = refl
mark_bit false = refl

module _ (lost : ℕ → Bool) (b t e : ℕ) (old : List ℕ) where
  -- the plan of all packets, and the losses that it leaves
  abbrev ours : List ℕ
  ours = plan_of lost b t e

  abbrev kept : ℕ → ℕ
  kept = bits (left lost ours)

  abbrev Before : List ℕ → ℕ → ℕ → ℕ → Type 0
  Before out running so_far i = Filling lost b t e old out running so_far i

  pub filling_none : 1 ≤ b → e ≤ length old → Before old 0 0 0
  filling_none some h =
      let none : 0 - b ≡ 0 = omega arith in
      record { least = some; within = omega arith; room = h; list = refl; window = omega (arith, ap (up_to kept) none); counted = sym (sum_none (bits (marked ours)) 0) }

  module _ (out : List ℕ) (running so_far i : ℕ) (f : Before out running so_far i) where
    front_length : length (take i ours) ≡ i
    front_length = length-take-le i ours (omega (arith, f.within, plan_length lost b t e))

    pub filling_length : length out ≡ length old
    filling_length = ap length f.list ∙ length_front old (take i ours) i (front_length ∙ sym (length-take-le i old (omega (arith, f.within, f.room))))

    pub filling_small : so_far ≤ i
    filling_small = omega (arith, f.counted, count_most (marked ours) 0 i)

    -- what stands b packets before packet i
    module _ (h : b ≤ i) where
      there : get_or out (i - b) 0 ≡ get_or ours (i - b) 0
      there =
          rw f.list
          (get_or-append (take i ours) (drop i old) 0 (i - b) (omega (arith, f.least, front_length)) ∙ get_or-take i ours (i - b) 0 (omega (arith, f.least)))

      -- a mark stands at a lost packet only
      pub marks_lost : get_or out (i - b) 0 ≤ bit (lost (i - b))
      marks_lost = rw there (mark_le lost b t e (i - b) (omega (arith, f.least, f.within)))

    -- a packet leaves: what is left among the last b - 1
    leaves : up_to kept (window_at b i) ≡ up_to kept (i - b) + leaving lost b out i
    leaves = go (dec_le b i)
      where
        go : Dec (b ≤ i) → up_to kept (window_at b i) ≡ up_to kept (i - b) + leaving lost b out i
        go (yes h) =
            let next : window_at b i ≡ suc (i - b) = omega arith in
            let gone : leaving lost b out i ≡ kept (i - b) = leaves_there lost b out i h ∙ rw (there h) in
            omega (arith, ap (up_to kept) next, up_to_next kept (i - b))
        go (no h) =
            let first : window_at b i ≡ i - b = omega arith in
            omega (arith, ap (up_to kept) first, leaves_none lost b out i (omega arith))

    pub slid_some : leaving lost b out i ≤ running
    slid_some = omega (arith, f.window, leaves, before kept b i f.least)

    slid : running - leaving lost b out i ≡ behind kept b i
    slid = omega (arith, f.window, leaves, before kept b i f.least)

    pub slid_small : running - leaving lost b out i ≤ i
    slid_small = omega (arith, slid, count_most (left lost ours) (window_at b i) (i - window_at b i))

    -- packet i enters behind r losses, marked or not
    module _ (r : ℕ) (is : r ≡ running - leaving lost b out i) where
      enters : i < e → (mark running' so-far' : ℕ) → mark ≡ get_or ours i 0 → running' ≡ r + kept i → so-far' ≡ so_far + mark →
          Before (set out i mark) running' so-far' (i + 1)
      enters l mark running' so-far' m n k =
          rw add-one
          record {
            least = f.least;
            within = l;
            room = f.room;
            list =
                rw (f.list, drop-cons old i 0 (omega (arith, f.room)), set_at (take i ours) (get_or old i 0) (drop (suc i) old) mark i front_length, take-suc ours i 0 (omega (arith, plan_length lost b t e)), m)
                (sym (append_snoc (take i ours) (get_or ours i 0) (drop (suc i) old)));
            window = omega (arith, is, slid, before kept b i f.least, up_to_next kept i);
            counted = omega (arith, f.counted, up_to_next (bits (marked ours)) i, here);
          }
        where
          here : bits (marked ours) i ≡ mark
          here = rw (m, plan_at lost b t e i l) (mark_bit (to_mark lost b t ours i))

      few : r ≤ t
      few = omega (arith, is, f.window, held _ _ _ b t e f.least (rule lost b t e) i f.within)

      pub enters_fine : i < e → lost i ≡ false → Before (set out i 0) r so_far (i + 1)
      unfolding bit
      enters_fine l h =
          let none : bit (lost i) ≡ 0 = rw h in
          let or = one_of _ _ _ _ _ (rule lost b t e i l) in
          enters l 0 r so_far (omega arith) (omega arith) (omega arith)

      pub mark_small : (n : ℕ) → n ≡ min (r + 1) t → r + 1 - n ≤ 1
      mark_small n least = omega (arith, few)

      pub enters_lost : i < e → lost i ≡ true → (n : ℕ) → n ≡ min (r + 1) t → Before (set out i (r + 1 - n)) n (so_far + (r + 1 - n)) (i + 1)
      unfolding bit
      enters_lost l h n least =
          let same = is ∙ slid in
          let way = passes _ _ _ _ _ (rule lost b t e i l) (rw h) (omega (arith, few)) in
          enters l (r + 1 - n) n (so_far + (r + 1 - n)) (omega arith) (omega arith) refl

      -- marked or not, as one sum: with the packet's bit, and no more than t of them left
      pub enters_any : i < e → (x n : ℕ) → x ≡ bit (lost i) → n ≡ min (r + x) t → (r + x - n ≤ 1) × Before (set out i (r + x - n)) n (so_far + (r + x - n)) (i + 1)
      unfolding bit
      enters_any l x n is least = go (lost i) refl
        where
          go : (y : Bool) → lost i ≡ y → (r + x - n ≤ 1) × Before (set out i (r + x - n)) n (so_far + (r + x - n)) (i + 1)
          go true h = let one : x ≡ 1 = is ∙ rw h in let small = few in (omega arith, rw one (enters_lost l h n (least ∙ rw one)))
          go false h =
              let none : x ≡ 0 = is ∙ rw h in
              let small = few in
              let same : n ≡ r = omega arith in
              let unmarked : r + 0 - r ≡ 0 = omega arith in
              (omega arith, rw (none, same, unmarked, add-zero so_far) (enters_fine l h))

    pub filling_all : e ≤ i → (so_far ≡ marks ours) × (out ≡ ours ++ drop e old)
    filling_all h =
        let end : i ≡ e = omega (arith, f.within) in
        let long = plan_length lost b t e in
        (f.counted ∙ ap (up_to (bits (marked ours))) (end ∙ sym long), f.list ∙ rw (end, take_all e ours (omega arith)))
