-- The cases of judging a trace, and what its answer says. Assumes nothing.
use Prim.Native.Nat.{ℕ, zero, suc, ◌+◌, ◌<◌, ◌≤◌}
use mathlib.Core.Path.{◌≡◌, refl, sym, ◌∙◌}
use mathlib.Core.Bool.{Bool, true, false, ◌&&◌, ◌||◌}
use mathlib.Core.List.{List, [], ◌∷◌}
use native.Mathlib.Omega.{arith}
use native.Mathlib.Decide.{dec_lt, ℕ_discrete}
use native.Mathlib.Numerals.{add-one}
use borrow.Author.Tests.{ltb-true, ltb-false, leb-true, leb-false, le-leb, lt-leb, lt-ltb, le-ltb}
use lib.Dec.{leb, ltb}
use lib.ListN.{length, get_or, drop, drop_of_length-le}
use lib.Seq.{drop-cons}
use Rattle.refusal.specs.Answer.{unless}
use Rattle.refusal.specs.Table.{trace_length, trace_byte}
use Rattle.refusal.proofs.Tests.{both, and_left, and_right}
use Rattle.trace.specs.Trace.{packet_max, trace_min, trace_max, packets_within, length_within, first_above, judged_within}
use Rattle.trace.specs.Laws.{IsWithin, AcceptedWithin, AcceptedTrace, WithinAccepted, TraceAccepted, FirstAbove, FirstBad}
use Rattle.std.specs.Prelude.{cond, Ok, Err, Some, None}
use Rattle.std.specs.List.{position, position_or_len}

-- the length
pub out_of_range : (limit highest : ℕ) (s : List ℕ) → packets_within limit (length s) ≡ false → Err trace_length ≡ judged_within limit highest s
unfolding judged_within
out_of_range limit highest s h = rw h

-- the first bad byte, one byte at a time
bad_here : (highest packet : ℕ) (s : List ℕ) → highest < packet → first_above highest (packet ∷ s) ≡ 0
unfolding first_above
bad_here highest packet s h = rw (lt-leb packet highest h)

bad_later : (highest packet : ℕ) (s : List ℕ) → packet ≤ highest → first_above highest (packet ∷ s) ≡ suc (first_above highest s)
unfolding first_above
bad_later highest packet s h = rw (le-leb packet highest h)

pub in_range_lem : (limit n : ℕ) → trace_min ≤ n → n ≤ limit → packets_within limit n ≡ true
unfolding packets_within
in_range_lem limit n some most = both (leb trace_min n) (leb n limit) (le-leb trace_min n some) (le-leb n limit most)

pub ranged : (limit n : ℕ) → packets_within limit n ≡ true → (trace_min ≤ n) × (n ≤ limit)
unfolding packets_within
ranged limit n h = (leb-true trace_min n (and_left (leb trace_min n) (leb n limit) h), leb-true n limit (and_right (leb trace_min n) (leb n limit) h))

-- where the library's search finds it
above_first : (highest : ℕ) (s : List ℕ) → position_or_len (λ packet. ltb highest packet) s ≡ first_above highest s
unfolding first_above
above_first highest [] = refl
above_first highest (packet ∷ s) = go (ltb highest packet) refl (above_first highest s)
  where
    go : (t : Bool) → ltb highest packet ≡ t → position_or_len (λ x. ltb highest x) s ≡ first_above highest s → position_or_len (λ x. ltb highest x) (packet ∷ s) ≡ first_above highest (packet ∷ s)
    go true e later = rw (e, lt-leb packet highest (ltb-true highest packet e))
    go false e later = rw (e, le-leb packet highest (ltb-false highest packet e)) (omega (arith, later))

pub no_position : (highest : ℕ) (s : List ℕ) → ltb (first_above highest s) (length s) ≡ false → None ≡ position (λ packet. ltb highest packet) s
no_position highest s h = rw (above_first highest s, h)

-- the bytes, once the length is in range
module _ (limit highest : ℕ) (s : List ℕ) (range : packets_within limit (length s) ≡ true) where
  pub bad_byte : (index : ℕ) → position (λ packet. ltb highest packet) s ≡ Some index → Err (trace_byte index) ≡ judged_within limit highest s
  unfolding judged_within
  bad_byte index h = go (ltb (first_above highest s) (length s)) refl (rw (sym (above_first highest s)) h)
    where
      go : (t : Bool) → ltb (first_above highest s) (length s) ≡ t → cond t (Some (first_above highest s)) None ≡ Some index → Err (trace_byte index) ≡ judged_within limit highest s
      go true e h = let same : first_above highest s ≡ index = cc in rw (range, lt-leb (length s) (first_above highest s) (ltb-true (first_above highest s) (length s) e), same)
      go false e h = let z : ◌≡◌ {A = ℕ} 0 1 = cc in absurd (omega arith)

  pub all_good : position (λ packet. ltb highest packet) s ≡ None → Ok (tt {0}) ≡ judged_within limit highest s
  unfolding judged_within
  all_good h = go (ltb (first_above highest s) (length s)) refl (rw (sym (above_first highest s)) h)
    where
      go : (t : Bool) → ltb (first_above highest s) (length s) ≡ t → cond t (Some (first_above highest s)) None ≡ None → Ok (tt {0}) ≡ judged_within limit highest s
      go true e h = let z : ◌≡◌ {A = ℕ} 0 1 = cc in absurd (omega arith)
      go false e h = rw (range, le-leb (length s) (first_above highest s) (ltb-false (first_above highest s) (length s) e))

-- what the first bad byte is
before_bad : (highest : ℕ) (s : List ℕ) (i : ℕ) → i < first_above highest s → get_or s i 0 ≤ highest
unfolding first_above
before_bad highest [] i h = absurd (omega arith)
before_bad highest (packet ∷ s) i h = go (leb packet highest) refl i h (before_bad highest s)
  where
    go : (t : Bool) → leb packet highest ≡ t → (j : ℕ) → j < first_above highest (packet ∷ s) → ((k : ℕ) → k < first_above highest s → get_or s k 0 ≤ highest) → get_or (packet ∷ s) j 0 ≤ highest
    go true e zero l later = leb-true packet highest e
    go true e (suc j) l later = later j (let le = bad_later highest packet s (leb-true packet highest e) in omega arith)
    go false e j l later = let none = bad_here highest packet s (leb-false packet highest e) in absurd (omega arith)

at_bad : (highest : ℕ) (s : List ℕ) → first_above highest s < length s → highest < get_or s (first_above highest s) 0
unfolding first_above
at_bad highest [] h = absurd (omega arith)
at_bad highest (packet ∷ s) h = go (leb packet highest) refl (at_bad highest s)
  where
    go : (t : Bool) → leb packet highest ≡ t → (first_above highest s < length s → highest < get_or s (first_above highest s) 0) → highest < get_or (packet ∷ s) (first_above highest (packet ∷ s)) 0
    go true e later = let le = bad_later highest packet s (leb-true packet highest e) in rw le (later (omega arith))
    go false e later = rw (bad_here highest packet s (leb-false packet highest e)) (leb-false packet highest e)

pub first_above_lem : (highest : ℕ) → FirstAbove highest
first_above_lem highest s h = record { bad = at_bad highest s h; before = before_bad highest s }

pub first_bad_lem : FirstBad
first_bad_lem = first_above_lem packet_max

-- Asking whether there is one: `found` says whether it is among the first i bytes.
pub record Asked (highest : ℕ) (s : List ℕ) (found : Bool) (i : ℕ) : Type 0 where
  pub within : i ≤ length s
  pub answer : found ≡ ltb (first_above highest s) i

pub asked_none : (highest : ℕ) (s : List ℕ) → Asked highest s false 0
asked_none highest s = record { within = omega arith; answer = sym (le-ltb (first_above highest s) 0 (omega arith)) }

pub asked_more : (highest : ℕ) (s : List ℕ) (found : Bool) (i : ℕ) → Asked highest s found i → i < length s → Asked highest s (found || ltb highest (get_or s i 0)) (i + 1)
asked_more highest s found i a l = record { within = omega arith; answer = rw a.answer (go (dec_lt (first_above highest s) i) (ℕ_discrete (first_above highest s) i)) }
  where
    go : Dec (first_above highest s < i) → Dec (first_above highest s ≡ i) → (ltb (first_above highest s) i || ltb highest (get_or s i 0)) ≡ ltb (first_above highest s) (i + 1)
    go (yes before) d = rw (lt-ltb (first_above highest s) i before, lt-ltb (first_above highest s) (i + 1) (omega arith))
    go (no later) (yes here) =
        let bad : highest < get_or s i 0 = rw (← here) (at_bad highest s (omega arith)) in
        rw (le-ltb (first_above highest s) i (omega arith), lt-ltb highest (get_or s i 0) bad, lt-ltb (first_above highest s) (i + 1) (omega arith))
    go (no later) (no other) =
        let fine = before_bad highest s i (omega arith) in
        rw (le-ltb (first_above highest s) i (omega arith), le-ltb highest (get_or s i 0) fine, le-ltb (first_above highest s) (i + 1) (omega arith))

pub asked_all : (highest : ℕ) (s : List ℕ) (found : Bool) (i : ℕ) → Asked highest s found i → length s ≤ i → found ≡ ltb (first_above highest s) (length s)
asked_all highest s found i a h = let end : i ≡ length s = omega (arith, a.within) in a.answer ∙ rw end

-- what an accepted trace is
pub accepted_within : (limit highest : ℕ) → AcceptedWithin limit highest
unfolding judged_within packets_within
accepted_within limit highest s h = go (leb trace_min (length s)) (leb (length s) limit) (leb (length s) (first_above highest s)) refl refl refl h
  where
    go : (a b g : Bool) → leb trace_min (length s) ≡ a → leb (length s) limit ≡ b → leb (length s) (first_above highest s) ≡ g →
        unless (a && b) (Err trace_length) (unless g (Err (trace_byte (first_above highest s))) (Ok (tt {0}))) ≡ Ok (tt {0}) → IsWithin limit highest s
    go true true true some most all e =
        record {
          some = leb-true trace_min (length s) some;
          most = leb-true (length s) limit most;
          each = λ i l. before_bad highest s i (let a = leb-true (length s) (first_above highest s) all in omega arith);
        }
    go true true false some most all e = let z : ◌≡◌ {A = ℕ} 0 1 = cc in absurd (omega arith)
    go true false g some most all e = let z : ◌≡◌ {A = ℕ} 0 1 = cc in absurd (omega arith)
    go false b g some most all e = let z : ◌≡◌ {A = ℕ} 0 1 = cc in absurd (omega arith)

pub within_accepted : (limit highest : ℕ) → WithinAccepted limit highest
unfolding judged_within
within_accepted limit highest s h = go (leb (length s) (first_above highest s)) refl
  where
    go : (t : Bool) → leb (length s) (first_above highest s) ≡ t → unless (length_within limit s) (Err trace_length) (unless (leb (length s) (first_above highest s)) (Err (trace_byte (first_above highest s))) (Ok (tt {0}))) ≡ Ok (tt {0})
    go true e = rw (in_range_lem limit (length s) h.some h.most, e)
    go false e =
        let l = leb-false (length s) (first_above highest s) e in
        let over = at_bad highest s l in
        let under = h.each (first_above highest s) l in
        absurd (omega arith)

pub accepted_trace : AcceptedTrace
accepted_trace = accepted_within trace_max packet_max

pub trace_accepted : TraceAccepted
trace_accepted = within_accepted trace_max packet_max
