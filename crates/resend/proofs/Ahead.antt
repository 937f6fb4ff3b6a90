-- Why the plan is the smallest, with no list and no byte: of every packet only whether it is lost (l), whether our plan
-- marks it (m) or leaves it (x) and whether another leaves it (y), each 0 or 1, and their sums over the first n
-- packets. Assumes nothing.
use Prim.Native.Nat.{ℕ, zero, suc, ◌+◌, ◌-◌, ◌<◌, ◌≤◌, min}
use mathlib.Core.Path.{◌≡◌}
use native.Mathlib.Omega.{arith}
use native.Mathlib.Decide.{dec_le}
use native.Mathlib.Nat.{zero-add}
use Rattle.trace.specs.Sum.{sum}
use Rattle.trace.proofs.Sums.{sum_none, sum_same, up_to, up_to_next, up_to_from}
use Rattle.resend.specs.Greedy.{window_at}

-- What the rule makes of a packet, where r losses are left among those before it: it is not lost; it is left, since
-- there are fewer than t; it is marked, since there are t.
pub data Choice (l m x r t : ℕ) : Type 0 where
  fine : l ≡ 0 → m ≡ 0 → x ≡ 0 → Choice l m x r t
  kept : l ≡ 1 → m ≡ 0 → x ≡ 1 → r < t → Choice l m x r t
  sent : l ≡ 1 → m ≡ 1 → x ≡ 0 → t ≤ r → Choice l m x r t

module _ (l m x r t : ℕ) where
  -- a lost packet is marked or left
  pub one_of : Choice l m x r t → l ≡ x + m
  one_of (fine o n z) = omega arith
  one_of (kept o n z f) = omega arith
  one_of (sent o n z f) = omega arith

  -- a lost packet behind at most t losses: what passes t is its mark, and the rest is left
  pub passes : Choice l m x r t → l ≡ 1 → r ≤ t → (r + 1 - min (r + 1) t ≡ m) × (min (r + 1) t ≡ r + x)
  passes (fine o n z) h few = absurd (omega arith)
  passes (kept o n z f) h few = (omega arith, omega arith)
  passes (sent o n z f) h few = (omega arith, omega arith)

-- the losses that x leaves among the b - 1 packets before packet i, and the rule there
abbrev pub behind : (ℕ → ℕ) → ℕ → ℕ → ℕ
behind x b i = sum x (window_at b i) (i - window_at b i)

abbrev pub Chosen : (ℕ → ℕ) → (ℕ → ℕ) → (ℕ → ℕ) → ℕ → ℕ → ℕ → Type 0
Chosen l m x b t i = Choice (l i) (m i) (x i) (behind x b i) t

pub before : (x : ℕ → ℕ) (b i : ℕ) → 1 ≤ b → up_to x i ≡ up_to x (window_at b i) + behind x b i
before x b i some = up_to_from x (window_at b i) i (omega arith)

-- no run of b packets that ends at n has more than t
abbrev pub Held : (ℕ → ℕ) → ℕ → ℕ → ℕ → Type 0
Held f b t n = up_to f n ≤ up_to f (n - b) + t

module _ (l m x : ℕ → ℕ) (b t e : ℕ) (some : 1 ≤ b) (rule : (i : ℕ) → i < e → Chosen l m x b t i) where
  -- our plan leaves no run over the threshold: one packet fewer at the front of a run has no more losses
  pub held : (n : ℕ) → n ≤ e → Held x b t n
  held zero h = omega (arith, sum_none x 0)
  held (suc i) h = go (rule i h) (held i (omega arith))
    where
      go : Chosen l m x b t i → Held x b t i → Held x b t (suc i)
      go (fine o n z) ih = omega (arith, up_to_next x i, up_to_from x (i - b) (window_at b i) (omega arith))
      go (kept o n z r) ih = omega (arith, up_to_next x i, before x b i some)
      go (sent o n z r) ih = omega (arith, up_to_next x i, up_to_from x (i - b) (window_at b i) (omega arith))

  module _ (y : ℕ → ℕ) (only : (i : ℕ) → i < e → y i ≤ l i) (other : (n : ℕ) → n ≤ e → Held y b t n) where
    -- over the first n packets ours leaves at least as many as the other
    abbrev Ahead : ℕ → Type 0
    Ahead n = n ≤ e → up_to y n ≤ up_to x n

    turn : (N : ℕ) → ((n : ℕ) → n ≤ N → Ahead n) → Ahead (suc N)
    turn N earlier h = go (rule N h)
      where
        go : Chosen l m x b t N → up_to y (suc N) ≤ up_to x (suc N)
        go (fine o n z) = omega (arith, up_to_next x N, up_to_next y N, only N h, earlier N (omega arith) (omega arith))
        go (kept o n z r) = omega (arith, up_to_next x N, up_to_next y N, only N h, earlier N (omega arith) (omega arith))
        go (sent o n z r) =
            omega (arith, up_to_next x N, before x b N some, other (suc N) h, earlier (window_at b N) (omega arith) (omega arith))

    ahead_to : (N : ℕ) (n : ℕ) → n ≤ N → Ahead n
    ahead_to zero n h = λ w. let none : n ≡ 0 = omega arith in rw none (omega (arith, sum_none x 0, sum_none y 0))
    ahead_to (suc N) n h = go (ahead_to N) (dec_le n N)
      where
        go : ((k : ℕ) → k ≤ N → Ahead k) → Dec (n ≤ N) → Ahead n
        go earlier (yes low) = earlier n low
        go earlier (no high) = let top : n ≡ suc N = omega arith in rw top (turn N earlier)

    pub ahead : up_to y e ≤ up_to x e
    ahead = ahead_to e e (omega arith) (omega arith)

    -- Where the two are the same before packet i, and ours marks it, it is lost and the other does not leave it either.
    pub sent_too : (i : ℕ) → i < e → ((j : ℕ) → j < i → y j ≡ x j) → m i ≡ 1 → (l i ≡ 1) × (y i ≡ 0)
    sent_too i h same mark = go (rule i h)
      where
        till : (n : ℕ) → n ≤ i → up_to y n ≡ up_to x n
        till n w = sum_same y x 0 n (λ j v. rw (zero-add j) (same j (omega arith)))

        go : Chosen l m x b t i → (l i ≡ 1) × (y i ≡ 0)
        go (fine o n z) = absurd (omega arith)
        go (kept o n z r) = absurd (omega arith)
        go (sent o n z r) =
            (o, omega (arith, only i h, up_to_next y i, before x b i some, other (suc i) h, till i (omega arith), till (window_at b i) (omega arith)))
