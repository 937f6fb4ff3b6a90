-- What an answer of `count` says, its loop, `Counting`, and the parts that it goes by. Assumes nothing.
use Prim.Native.Nat.{ℕ, ◌+◌, ◌-◌, ◌<◌, ◌≤◌, min}
use mathlib.Core.Path.{◌≡◌, refl, sym, ap, ap₂, ◌∙◌}
use mathlib.Core.Bool.{Bool, true, false, cond, ◌&&◌}
use mathlib.Core.List.{List, ◌∷◌}
use native.Mathlib.Omega.{arith}
use native.Mathlib.Nat.{add-zero, sub-zero}
use borrow.Author.Tests.{ne_eqb}
use lib.Dec.{eqb, ltb}
use lib.ListN.{length, take, drop, length-take}
use Rattle.wire.specs.BigEndian.{be16}
use Rattle.trace.specs.Sum.{sum}
use Rattle.refusal.specs.Answer.{unless}
use Rattle.trace.specs.Trace.{counted_at}
use Rattle.trace.specs.declared.Event.TheVariants.{Lost as Event-as-Lost}
use Rattle.trace.proofs.Sums.{count_most}
use Rattle.chunk.specs.Chunks.{packets_of, packets_in, stands_at, covers, trace_in, lost_in, chunks_in}
use Rattle.chunk.specs.Counting.{count_of}
use Rattle.chunk.specs.Steps.{Taken}
use Rattle.chunk.proofs.Bytes.{chunks_next, chunks_end}
use Rattle.chunk.proofs.Traces.{lost_append, take_both, take_most}
use Rattle.std.specs.Prelude.{Some, None}

-- no more of n packets are lost than n
pub lost_most : (n : ℕ) (cs : List ℕ) → lost_in (trace_in n cs) ≤ n
lost_most n cs =
    let trace : List ℕ = trace_in n cs in
    omega (arith, count_most (counted_at Event-as-Lost trace) 0 (length trace), length-take n (packets_in cs))

module _ (n : ℕ) (cs : List ℕ) where
  pub counted_lost : (k : ℕ) → count_of n cs ≡ Some k → (covers n cs ≡ true) × (lost_in (trace_in n cs) ≡ k)
  unfolding count_of
  counted_lost k h = go (covers n cs) refl h
    where
      go : (t : Bool) → covers n cs ≡ t → unless t None (Some (lost_in (trace_in n cs))) ≡ Some k → (covers n cs ≡ true) × (lost_in (trace_in n cs) ≡ k)
      go true e h = (e, cc)
      go false e h = let z : ◌≡◌ {A = ℕ} 0 1 = cc in absurd (omega arith)

  pub counted_not : count_of n cs ≡ None → covers n cs ≡ false
  unfolding count_of
  counted_not h = go (covers n cs) refl h
    where
      go : (t : Bool) → covers n cs ≡ t → unless t None (Some (lost_in (trace_in n cs))) ≡ None → covers n cs ≡ false
      go true e h = let z : ◌≡◌ {A = ℕ} 0 1 = cc in absurd (omega arith)
      go false e h = e

-- Counting, with so many packets left from chunk byte i on.
pub record Counting (s : List ℕ) (n left lost i since : ℕ) : Type 0 where
  pub within : i ≤ length s
  pub few : lost + left ≤ n
  pub row : since ≤ i
  pub covered : covers n (chunks_in s) ≡ covers left (chunks_in (drop i s))
  pub losses : lost_in (trace_in n (chunks_in s)) ≡ lost + lost_in (trace_in left (chunks_in (drop i s)))

pub counting_none : (s : List ℕ) (n : ℕ) → Counting s n n 0 0 0
counting_none s n = record { within = omega arith; few = omega arith; row = omega arith; covered = refl; losses = omega arith }

module _ (s : List ℕ) (n left lost i since : ℕ) (g : Counting s n left lost i since) where
  pub counting_bad : covers left (chunks_in (drop i s)) ≡ false → None ≡ count_of n (chunks_in s)
  unfolding count_of
  counting_bad bad = rw (g.covered, bad)

  pub counting_more : (bytes packets k since' : ℕ) → Taken s i left bytes packets k → since' ≤ since + bytes → Counting s n (left - packets) (lost + k) (i + bytes) since'
  counting_more bytes packets k since' t row =
      let few = g.few in
      let old = g.row in
      let inside = t.inside in
      let least = t.few in
      record {
        within = t.within;
        few = omega arith;
        row = omega arith;
        covered = g.covered ∙ t.covered;
        losses = g.losses ∙ ap (λ (x : ℕ). lost + x) t.losses ∙ (omega arith);
      }

  pub counting_done : left ≡ 0 → covers 0 (chunks_in (drop i s)) ≡ true → Some lost ≡ count_of n (chunks_in s)
  unfolding count_of sum
  counting_done none good =
      let covered : covers left (chunks_in (drop i s)) ≡ true = ap (λ (k : ℕ). covers k (chunks_in (drop i s))) none ∙ good in
      rw (g.covered, covered, g.losses, none) (ap Some (omega arith))

-- A part behind a part, and a part of one chunk.
pub taken_none : (s : List ℕ) (i left : ℕ) → i ≤ length s → Taken s i left 0 0 0
taken_none s i left h =
    record {
      within = omega arith;
      inside = omega arith;
      few = omega arith;
      covered = rw (sub-zero left, add-zero i);
      losses = rw (sub-zero left, add-zero i) (omega arith);
    }

pub taken_more : (s : List ℕ) (i left b p l b' p' l' : ℕ) → Taken s i left b p l → Taken s (i + b) (left - p) b' p' l' → Taken s i left (b + b') (p + p') (l + l')
taken_more s i left b p l b' p' l' t u =
    let inside = t.inside in
    let inside' = u.inside in
    let few = t.few in
    let few' = u.few in
    let left_is : left - p - p' ≡ left - (p + p') = omega arith in
    let at-is : i + b + b' ≡ i + (b + b') = omega arith in
    let within = u.within in
    record {
      within = omega arith;
      inside = omega arith;
      few = omega arith;
      covered = t.covered ∙ u.covered ∙ ap₂ (λ (m j : ℕ). covers m (chunks_in (drop j s))) left_is at-is;
      losses =
          t.losses ∙ ap (λ (x : ℕ). l + x) (u.losses ∙ ap₂ (λ (m j : ℕ). l' + lost_in (trace_in m (chunks_in (drop j s)))) left_is at-is)
          ∙ (let x : ℕ = lost_in (trace_in (left - (p + p')) (chunks_in (drop (i + (b + b')) s))) in let e : l + (l' + x) ≡ l + l' + x = omega arith in e);
    }

module _ (s : List ℕ) (i left c : ℕ) (h : i + 2 ≤ length s) (is : c ≡ be16 s i) where
  next : chunks_in (drop i s) ≡ c ∷ chunks_in (drop (i + 2) s)
  next = chunks_next s i h ∙ ap (λ (x : ℕ). x ∷ chunks_in (drop (i + 2) s)) (sym is)

  pub not_taken : stands_at c left ≡ false → covers left (chunks_in (drop i s)) ≡ false
  unfolding covers
  not_taken bad = rw (next, bad)

  pub taken_one : stands_at c left ≡ true → (part k : ℕ) → part ≡ min (length (packets_of c)) left → k ≡ lost_in (take part (packets_of c)) → k ≤ part → Taken s i left 2 part k
  unfolding covers packets_in
  taken_one good part k p l most =
      let rest : List ℕ = chunks_in (drop (i + 2) s) in
      let left_is : left - length (packets_of c) ≡ left - part = omega arith in
      let front : take left (packets_of c) ≡ take part (packets_of c) = take_most left (packets_of c) ∙ ap (λ (x : ℕ). take x (packets_of c)) (sym p) in
      record {
        within = h;
        inside = omega arith;
        few = most;
        covered = rw (next, good, left_is);
        losses =
            ap (λ (cs : List ℕ). lost_in (trace_in left cs)) next
            ∙ ap lost_in (take_both left (packets_of c) (packets_in rest))
            ∙ lost_append (take left (packets_of c)) (take (left - length (packets_of c)) (packets_in rest))
            ∙ ap₂ ◌+◌ (ap lost_in front ∙ sym l) (ap (λ (x : ℕ). lost_in (trace_in x rest)) left_is);
      }

-- no chunk is there, with packets left
pub too_short : (s : List ℕ) (i left : ℕ) → 0 < left → length s < i + 2 → covers left (chunks_in (drop i s)) ≡ false
unfolding covers
too_short s i left some h = rw (chunks_end s i h) (ne_eqb left 0 (λ e. omega arith))

-- behind the end: null chunks alone
pub null_more : (s : List ℕ) (i : ℕ) → i + 2 ≤ length s → covers 0 (chunks_in (drop i s)) ≡ (eqb (be16 s i) 0 && covers 0 (chunks_in (drop (i + 2) s)))
unfolding covers
null_more s i h =
    let c : ℕ = be16 s i in
    let none : 0 - length (packets_of c) ≡ 0 = omega arith in
    rw (chunks_next s i h, none) (go (eqb c 0))
  where
    go : (t : Bool) → (cond t (eqb 0 0) (ltb 0 0) && covers 0 (chunks_in (drop (i + 2) s))) ≡ (t && covers 0 (chunks_in (drop (i + 2) s)))
    go true = refl
    go false = refl

pub null_end : (s : List ℕ) (i : ℕ) → length s < i + 2 → covers 0 (chunks_in (drop i s)) ≡ true
unfolding covers
null_end s i h = rw (chunks_end s i h)

-- so far null, and what is left
pub null_so_far : (s : List ℕ) (i j c : ℕ) (null : Bool) → covers 0 (chunks_in (drop i s)) ≡ (null && covers 0 (chunks_in (drop j s))) → j + 2 ≤ length s → c ≡ be16 s j →
    covers 0 (chunks_in (drop i s)) ≡ ((null && eqb c 0) && covers 0 (chunks_in (drop (j + 2) s)))
null_so_far s i j c null so_far h is = so_far ∙ ap (λ (t : Bool). null && t) (null_more s j h ∙ ap (λ (x : ℕ). eqb x 0 && covers 0 (chunks_in (drop (j + 2) s))) (sym is)) ∙ go null (eqb c 0)
  where
    go : (x y : Bool) → (x && (y && covers 0 (chunks_in (drop (j + 2) s)))) ≡ ((x && y) && covers 0 (chunks_in (drop (j + 2) s)))
    go true y = refl
    go false y = refl

pub null_all : (s : List ℕ) (i j : ℕ) (null : Bool) → covers 0 (chunks_in (drop i s)) ≡ (null && covers 0 (chunks_in (drop j s))) → length s < j + 2 → null ≡ covers 0 (chunks_in (drop i s))
null_all s i j null so_far h = sym (so_far ∙ ap (λ (t : Bool). null && t) (null_end s j h) ∙ go null)
  where
    go : (x : Bool) → (x && true) ≡ x
    go true = refl
    go false = refl
