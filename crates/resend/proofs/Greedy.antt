-- The plan as a list: its length, what stands at a packet, and that every packet follows the rule. Assumes
-- nothing.
use Prim.Native.Nat.{ℕ, zero, suc, ◌+◌, ◌-◌, ◌<◌, ◌≤◌}
use mathlib.Core.Path.{◌≡◌, refl, ◌∙◌}
use mathlib.Core.Bool.{Bool, true, false, ◌&&◌, not}
use mathlib.Core.List.{[]}
use native.Mathlib.Omega.{arith}
use borrow.Author.Tests.{leb-true, leb-false}
use lib.Dec.{leb, eqb}
use lib.ListN.{length, get_or, length-append, get_or-append}
use lib.Seq.{get_or_at}
use Rattle.trace.specs.Sum.{bit, bits}
use Rattle.trace.proofs.Sums.{sum_same}
use Rattle.resend.specs.Plans.{left}
use Rattle.resend.specs.Greedy.{window_at, recent, to_mark, plan_of}
use Rattle.resend.proofs.Ahead.{Choice, fine, kept, sent, one_of, Chosen}

module _ (lost : ℕ → Bool) (b t : ℕ) where
  pub plan_length : (n : ℕ) → length (plan_of lost b t n) ≡ n
  unfolding plan_of
  plan_length zero = refl
  plan_length (suc n) = simp length-append (omega (arith, plan_length n))

  -- a longer plan begins with the shorter one
  longer : (n i d : ℕ) → i < n → get_or (plan_of lost b t (n + d)) i 0 ≡ get_or (plan_of lost b t n) i 0
  unfolding plan_of
  longer n i zero h = let e : n + 0 ≡ n = omega arith in rw e
  longer n i (suc d) h =
      let e : n + suc d ≡ suc (n + d) = omega arith in
      rw e (get_or-append (plan_of lost b t (n + d)) _ 0 i (omega (arith, plan_length (n + d))) ∙ longer n i d h)

  prefix : (n m i : ℕ) → n ≤ m → i < n → get_or (plan_of lost b t m) i 0 ≡ get_or (plan_of lost b t n) i 0
  prefix n m i h l = let e : m ≡ n + (m - n) = omega arith in rw e (longer n i (m - n) l)

  module _ (n i : ℕ) (h : i < n) where
    -- what the rule counts before packet i, over the whole plan
    recent_same : recent lost b (plan_of lost b t n) i ≡ recent lost b (plan_of lost b t i) i
    unfolding recent
    recent_same = sum_same _ _ (window_at b i) (i - window_at b i) (λ j l. rw (prefix i n (window_at b i + j) (omega arith) (omega arith)))

    pub plan_at : get_or (plan_of lost b t n) i 0 ≡ bit (to_mark lost b t (plan_of lost b t n) i)
    unfolding plan_of
    plan_at =
        rw recent_same
        (prefix (suc i) n i h (omega arith) ∙ get_or_at (plan_of lost b t i) (bit (to_mark lost b t (plan_of lost b t i) i)) [] 0 i (plan_length i))

    pub rule : Chosen (bits lost) (λ j. get_or (plan_of lost b t n) j 0) (bits (left lost (plan_of lost b t n))) b t i
    unfolding bit recent
    rule = rw plan_at (go (lost i) (leb t r) refl)
      where
        r : ℕ
        r = recent lost b (plan_of lost b t n) i

        go : (x y : Bool) → leb t r ≡ y → Choice (bit x) (bit (x && y)) (bit (x && not (eqb (bit (x && y)) 1))) r t
        go true true e = sent refl refl refl (leb-true t r e)
        go true false e = kept refl refl refl (leb-false t r e)
        go false true e = fine refl refl refl
        go false false e = fine refl refl refl

    pub mark_le : get_or (plan_of lost b t n) i 0 ≤ bit (lost i)
    mark_le = omega (arith, one_of _ _ _ _ _ rule)
