-- A word of the plan in one step: where the losses that enter stay within the threshold none is marked, and what leaves the running
-- count is what was lost less what was marked. Assumes nothing.
use Prim.Native.Nat.{ℕ, zero, suc, ◌+◌, ◌-◌, ◌<◌, ◌≤◌}
use mathlib.Core.Path.{◌≡◌, refl, sym, ap, ap₂, ◌∙◌}
use mathlib.Core.Bool.{Bool, true, false, ◌&&◌, not}
use mathlib.Core.List.{List, [], ◌∷◌, ◌++◌, append_assoc, append-nil}
use native.Mathlib.Omega.{arith}
use native.Mathlib.Nat.{add-zero, add-suc}
use native.Mathlib.Numerals.{add-one}
use lib.Dec.{eqb}
use lib.ListN.{length, get_or, take, drop, replicate, length-set, length-append, get_or-append}
use lib.Seq.{length-take-le, get_or-take, drop_at, drop-drop, drop-cons, set_at, append_snoc}
use borrow.Rule.Slice.PartMut.{put_mid}
use Rattle.std.proofs.lemmas.List.{take-append-drop, length-replicate, replicate-append-replicate}
use Rattle.trace.specs.Sum.{sum, bit, bits, count}
use Rattle.trace.proofs.Sums.{bit_le, sum_one, sum_cut, sum_moved, sum_both, sum_part, up_to, up_to_window}
use Rattle.resend.specs.Plans.{marked, left}
use Rattle.resend.specs.Greedy.{plan_of}
use Rattle.resend.specs.Steps.{leaving, Filling}
use Rattle.resend.proofs.Greedy.{plan_length, mark_le}
use Rattle.resend.proofs.Filling.{filling_length, enters_fine, enters_lost}
use Rattle.packed_plan.specs.Steps.{cleared}

pub length_cleared : (out : List ℕ) (i n : ℕ) → length (cleared out i n) ≡ length out
unfolding cleared
length_cleared out i zero = refl
length_cleared out i (suc n) = length-set (cleared out i n) (i + n) 0 ∙ length_cleared out i n

-- the places filled with 0 at once
abbrev zeros : ℕ → List ℕ
zeros n = replicate n 0

cleared_is : (out : List ℕ) (i n : ℕ) → i + n ≤ length out → cleared out i n ≡ (take i out ++ zeros n) ++ drop (i + n) out
unfolding cleared
cleared_is out i zero h = rw (append-nil (take i out), add-zero i) (sym (take-append-drop i out))
cleared_is out i (suc n) h =
    let before = cleared_is out i n (omega arith) in
    let front : length (take i out ++ zeros n) ≡ i + n =
    length-append (take i out) (zeros n) ∙ omega (arith, length-take-le i out (omega arith), length-replicate {A = ℕ} n 0)
    in
    let more : zeros (suc n) ≡ zeros n ++ (0 ∷ []) = ap zeros (sym (add-one n)) ∙ sym (replicate-append-replicate {A = ℕ} n 1 0) in
    rw (before, drop-cons out (i + n) 0 (omega arith), set_at (take i out ++ zeros n) (get_or out (i + n) 0) (drop (suc (i + n)) out) 0 (i + n) front, more, add-suc i n, ← append_assoc (take i out) (zeros n) (0 ∷ []))
    (sym (append_snoc (take i out ++ zeros n) 0 (drop (suc (i + n)) out)))

pub cleared_filled : (out : List ℕ) (i n k : ℕ) (fill : List ℕ) → i + n ≤ length out → k ≡ n → fill ≡ replicate n 0 → put_mid i k out fill ≡ cleared out i n
cleared_filled out i n k fill h size is =
    rw (size, is, drop-drop n i out, ← append_assoc (take i out) (zeros n) (drop (i + n) out)) (sym (cleared_is out i n h))

-- a sum with one more
pub sum_on : (f : ℕ → ℕ) (i j so_far x : ℕ) → so_far ≡ sum f i j → x ≡ f (i + j) → so_far + x ≡ sum f i (j + 1)
sum_on f i j so_far x is here = omega (arith, is, here, sum_cut f i j 1, sum_one f (i + j))

-- a sum of bytes that are marks or none
pub sum_few : (f : ℕ → ℕ) (i n : ℕ) → ((p : ℕ) → i ≤ p → p < i + n → f p ≤ 1) → sum f i n ≤ n
unfolding sum
sum_few f i zero small = omega arith
sum_few f i (suc n) small = omega (arith, sum_few f i n (λ p l h. small p l (omega arith)), small (i + n) (omega arith) (omega arith))

-- a lost packet is marked or left, any other is neither; and a mark's byte is its bit
parted : (x : Bool) (mark : ℕ) → mark ≤ bit x → (bit x ≡ bit (x && not (eqb mark 1)) + bit (eqb mark 1)) × (mark ≡ bit (eqb mark 1))
unfolding bit
parted true zero h = (refl, refl)
parted true (suc zero) h = (refl, refl)
parted true (suc (suc n)) h = absurd (omega arith)
parted false zero h = (refl, refl)
parted false (suc n) h = absurd (omega arith)

module _ (lost : ℕ → Bool) (b t e : ℕ) where
  abbrev ours : List ℕ
  ours = plan_of lost b t e

  abbrev kept : ℕ → ℕ
  kept = bits (left lost ours)

  -- lost packets of a stretch are left or marked
  split : (start n : ℕ) → start + n ≤ e → count lost start n ≡ sum kept start n + count (marked ours) start n
  split start n h =
      sum_both (bits lost) kept (bits (marked ours)) start n
      (λ p l. (parted (lost (start + p)) (get_or ours (start + p) 0) (mark_le lost b t e (start + p) (omega arith))).0)

  module _ (old out : List ℕ) (running so_far i : ℕ) (f : Filling lost b t e old out running so_far i) where
    front_length : length (take i ours) ≡ i
    front_length = length-take-le i ours (omega (arith, f.within, plan_length lost b t e))

    -- the plan before packet i, as bytes
    stands : (p : ℕ) → p < i → get_or out p 0 ≡ get_or ours p 0
    stands p h = rw f.list (get_or-append (take i ours) (drop i old) 0 p (omega (arith, front_length)) ∙ get_or-take i ours p 0 h)

    pub marks_few : (p : ℕ) → p < i → get_or out p 0 ≤ 1
    marks_few p h = let within = f.within in let small = bit_le (lost p) in rw (stands p h) (omega (arith, mark_le lost b t e p (omega arith)))

    -- and the marks of a stretch of it
    marks_sum : (start n : ℕ) → start + n ≤ i → sum (λ p. get_or out p 0) start n ≡ count (marked ours) start n
    marks_sum start n h =
        sum_moved (λ p. get_or out p 0) (bits (marked ours)) start start n
        (λ p l. let within = f.within in stands (start + p) (omega arith) ∙ (parted (lost (start + p)) (get_or ours (start + p) 0) (mark_le lost b t e (start + p) (omega arith))).1)

    -- what stands behind packet i does not matter
    rest : drop i out ≡ drop i old
    rest = ap (drop i) f.list ∙ drop_at (take i ours) (drop i old) i front_length

    anew : Filling lost b t e out out running so_far i
    anew =
        record {
          least = f.least;
          within = f.within;
          room = rw (filling_length lost b t e old out running so_far i f) f.room;
          list = f.list ∙ ap (λ (l : List ℕ). take i ours ++ l) (sym rest);
          window = f.window;
          counted = f.counted;
        }

    go_on : (out' : List ℕ) (running' so-far' j : ℕ) → i ≤ j → Filling lost b t e out out' running' so-far' j → Filling lost b t e old out' running' so-far' j
    go_on out' running' so-far' j l g =
        let size : j ≡ i + (j - i) = omega arith in
        record {
          least = g.least;
          within = g.within;
          room = f.room;
          list =
              g.list
              ∙ ap (λ (l : List ℕ). take j ours ++ l)
              (ap (λ (k : ℕ). drop k out) size ∙ sym (drop-drop (j - i) i out) ∙ ap (drop (j - i)) rest ∙ drop-drop (j - i) i old ∙ ap (λ (k : ℕ). drop k old) (sym size));
          window = g.window;
          counted = g.counted;
        }

    -- the same with the marks so far as a count, as the functions are told it and tell it
    pub standing : Filling lost b t e out out running (count (marked ours) 0 i) i
    standing = rw (← f.counted) anew

    pub onward : (out' : List ℕ) (running' more j : ℕ) → i ≤ j → Filling lost b t e out out' running' (count (marked ours) 0 i + more) j →
        Filling lost b t e old out' running' (so_far + more) j
    onward out' running' more j l g = rw f.counted (go_on out' running' (count (marked ours) 0 i + more) j l g)

  -- n packets from packet i on that are not marked: what is left behind them
  module _ (old : List ℕ) where
    pub record Unmarked (out : List ℕ) (running so_far i n : ℕ) : Type 0 where
      pub run : ℕ
      pub few : run ≤ running + count lost i n
      pub is : Filling lost b t e old (cleared out i n) run so_far (i + n)

    -- one packet more
    unmarked_next : (out : List ℕ) (running so_far i n : ℕ) → i + suc n ≤ e → running + count lost i (suc n) ≤ t → (x : Bool) → lost (i + n) ≡ x →
        Unmarked out running so_far i n → Unmarked out running so_far i (suc n)
    unfolding cleared sum bit
    unmarked_next out running so_far i n h l false fine u =
        let r : ℕ = u.run - leaving lost b (cleared out i n) (i + n) in
        let few = u.few in
        let none : bit (lost (i + n)) ≡ 0 = rw fine in
        record {
          run = r;
          few = omega arith;
          is = rw (add-suc i n, ← add-one (i + n)) (enters_fine lost b t e old (cleared out i n) u.run so_far (i + n) u.is r refl (omega arith) fine);
        }
    unmarked_next out running so_far i n h l true gone u =
        let r : ℕ = u.run - leaving lost b (cleared out i n) (i + n) in
        let few = u.few in
        let one : bit (lost (i + n)) ≡ 1 = rw gone in
        let room : r + 1 ≤ t = omega arith in
        let entered = enters_lost lost b t e old (cleared out i n) u.run so_far (i + n) u.is r refl (omega arith) gone (r + 1) (omega arith) in
        let unmarked : r + 1 - (r + 1) ≡ 0 = omega arith in
        let same : so_far + (r + 1 - (r + 1)) ≡ so_far = omega arith in
        record {
          run = r + 1;
          few = omega arith;
          is = rw (add-suc i n, ← add-one (i + n), ← unmarked, ← same) entered;
        }

    pub unmarked : (out : List ℕ) (running so_far i : ℕ) → Filling lost b t e old out running so_far i → (n : ℕ) → i + n ≤ e → running + count lost i n ≤ t →
        Unmarked out running so_far i n
    unfolding cleared
    unmarked out running so_far i f zero h l = record { run = running; few = omega arith; is = rw (add-zero i) f }
    unmarked out running so_far i f (suc n) h l =
        unmarked_next out running so_far i n h l (lost (i + n)) refl
        (unmarked out running so_far i f n (omega arith) (omega (arith, sum_part (bits lost) i n (suc n) (omega arith))))

    -- as the code counts it: what is left, with what enters and without what leaves
    module _ (out : List ℕ) (running so_far i n : ℕ) (f : Filling lost b t e old out running so_far i) (u : Unmarked out running so_far i n) where
      pub record Counts (entering leaving : ℕ) : Type 0 where
        pub enough : leaving ≤ running + entering
        pub is : running + entering - leaving ≡ u.run

      pub counts : (entering gone gone-marks : ℕ) → i + n ≤ e → entering ≡ count lost i n → gone ≡ count lost (i - b) (i + n - b - (i - b)) →
          gone-marks ≡ sum (λ p. get_or (cleared out i n) p 0) (i - b) (i + n - b - (i - b)) → (gone-marks ≤ gone) × Counts entering (gone - gone-marks)
      counts entering gone gone-marks h enters leaves marks =
          let start : ℕ = i - b in
          let m : ℕ = i + n - b - (i - b) in
          let place : i + n - b ≡ start + m = omega arith in
          let g = u.is in
          let none : count (marked ours) i n ≡ 0 = omega (arith, f.counted, g.counted, up_to_window (bits (marked ours)) i n) in
          let entered = split i n h in
          let left_behind = split start m (omega arith) in
          let bytes = marks_sum old (cleared out i n) u.run so_far (i + n) g start m (omega arith) in
          let before = up_to_window kept start m in
          let here = up_to_window kept i n in
          let end = ap (up_to kept) place in
          let window = f.window in
          let window' = g.window in
          (omega arith, record { enough = omega arith; is = omega arith })

      -- where nothing is left and nothing enters
      pub counts_none : running + count lost i n ≡ 0 → u.run ≡ 0
      counts_none none = omega (arith, u.few)

  -- behind packets that were passed without a mark: what entered the running count, and what left it
  pub record Left (out out' : List ℕ) (running so_far enters to leaves : ℕ) : Type 0 where
    pub enough : leaves ≤ running + enters
    pub filling : Filling lost b t e out out' (running + enters - leaves) (so_far + 0) to

  -- a word in one step, as the code has it: its buffer, what enters, and what leaves
  module _ (out out' : List ℕ) (running so_far i n enters : ℕ) (f : Filling lost b t e out out running so_far i) (h : i + n ≤ e)
      (in_is : enters ≡ count lost i n) (few : running + enters ≤ t) (is : out' ≡ cleared out i n) where
    passed : Unmarked out out running so_far i n
    passed = unmarked out out running so_far i f n h (omega arith)

    pub passed_few : (p : ℕ) → p < i + n → get_or out' p 0 ≤ 1
    passed_few p l = rw is (marks_few out (cleared out i n) passed.run so_far (i + n) passed.is p l)

    pub passed_none : running + enters ≡ 0 → Filling lost b t e out out' 0 (so_far + 0) (i + n)
    passed_none none =
        let zero : passed.run ≡ 0 = counts_none out out running so_far i n f passed (omega arith) in
        rw (is, add-zero so_far, ← zero) passed.is

    pub passed_left : (from m gone gone-marks : ℕ) → from ≡ i - b → m ≡ i + n - b - from → gone ≡ count lost from m →
        gone-marks ≡ sum (λ p. get_or out' p 0) from m → (gone-marks ≤ gone) × Left out out' running so_far enters (i + n) (gone - gone-marks)
    passed_left from m gone gone-marks start size leaves marks =
        let long : m ≡ i + n - b - (i - b) = omega arith in
        let c = counts out out running so_far i n f passed enters gone gone-marks h in_is
        (leaves ∙ ap₂ (count lost) start long) (marks ∙ ap₂ (λ (x y : ℕ). sum (λ p. get_or out' p 0) x y) start long ∙ ap (λ (o : List ℕ). sum (λ p. get_or o p 0) (i - b) (i + n - b - (i - b))) is)
        in
        (c.0, record { enough = c.1.enough; filling = rw (is, add-zero so_far, c.1.is) passed.is })
