-- The walk over a packet's blocks: what has been passed and what is left make up the whole. For the walk its
-- start, one turn and its two ends. Assumes nothing.
use Prim.Native.Nat.{ℕ, suc, ◌+◌, ◌-◌, ◌<◌, ◌≤◌}
use mathlib.Core.Path.{◌≡◌, refl, sym, ap, ◌∙◌}
use mathlib.Core.Bool.{cond}
use mathlib.Core.List.{List, [], ◌∷◌}
use mathlib.Core.Logic.{◌⊎◌, ⊎_elim}
use native.Mathlib.Omega.{arith}
use Rattle.std.proofs.Common.{Option, Some, None, Result, Ok, Err}
use native.Mathlib.Nat.{add-zero}
use native.Mathlib.Decide.{dec_lt, ℕ_discrete}
use borrow.Author.Tests.{lt-ltb, le-ltb, eq-eqb, ne_eqb}
use lib.Dec.{ltb, eqb}
use lib.ListN.{length}
use Rattle.frame.specs.declared.Walked.{Walked}
use Rattle.frame.specs.Frames.{Entry, Frames, whole, past, before, next_at, entry_at, frames_in}
use Rattle.frame.specs.Packet.{numbered, place_at, walked_of}
use Rattle.frame.proofs.Stepping.{at_next, at_past, at_end}

-- what is found of block k where c blocks have been passed, of which k, if it was among them, stood at f
abbrev walked_from : Frames → ℕ → ℕ → Option ℕ → Result Walked ℕ
walked_from (past offset) k c f = Err offset
walked_from (whole es) k c f = Ok (record { count = c + length es; at = cond (ltb k c) f (place_at es (k - c)) })

from_before : (e : Entry) (frames : Frames) (k c : ℕ) (f : Option ℕ) → walked_from (before e frames) k c f ≡ walked_from frames k (c + 1) (cond (eqb c k) (Some e.place) f)
unfolding numbered
from_before e (past offset) k c f = refl
from_before e (whole es) k c f = go (dec_lt k c) (ℕ_discrete c k)
  where
    n : c + suc (length es) ≡ c + 1 + length es
    n = omega arith

    go : Dec (k < c) → Dec (c ≡ k) → walked_from (whole (e ∷ es)) k c f ≡ walked_from (whole es) k (c + 1) (cond (eqb c k) (Some e.place) f)
    go (yes lt) same = rw (n, lt-ltb k c lt, lt-ltb k (c + 1) (omega arith), ne_eqb c k (omega arith))
    go (no ge) (yes same) =
        let here : k - c ≡ 0 = omega arith in
        rw (n, le-ltb k c (omega arith), lt-ltb k (c + 1) (omega arith), eq-eqb c k same, here)
    go (no ge) (no other) =
        let later : k - c ≡ suc (k - (c + 1)) = omega arith in
        rw (n, le-ltb k c (omega arith), le-ltb k (c + 1) (omega arith), later)

-- The walk from `from` to `to` stands at `at`, with `count` blocks passed.
pub record Walk (s : List ℕ) (from to k at count : ℕ) (found : Option ℕ) : Type 0 where
  pub low : count ≤ at
  pub none : count ≤ k → found ≡ None
  pub same : walked_of (frames_in s from to) k ≡ walked_from (frames_in s at to) k count found

module _ (s : List ℕ) (from to k at count : ℕ) (found : Option ℕ) (w : Walk s from to k at count found) where
  pub walk_past : at < to → to < next_at s at → Err at ≡ walked_of (frames_in s from to) k
  walk_past h p = sym (w.same ∙ ap (λ (frames : Frames). walked_from frames k count found) (at_past s at to h p))

  walk_next : at < to → next_at s at ≤ to → Walk s from to k (next_at s at) (count + 1) (cond (eqb count k) (Some at) found)
  unfolding entry_at
  walk_next h p =
      let low = w.low in
      record {
        low = omega arith;
        none = λ later. rw (ne_eqb count k (omega arith)) (w.none (omega arith));
        same =
            w.same ∙ ap (λ (frames : Frames). walked_from frames k count found) (at_next s at to h p)
            ∙ from_before (entry_at s at) (frames_in s (next_at s at) to) k count found;
      }

  pub walk_on : (next : ℕ) (found' : Option ℕ) → at < to → next ≡ next_at s at → next ≤ to →
      ((count ≡ k) × (found' ≡ Some at)) ⊎ ((count ≡ k → ⊥) × (found' ≡ found)) → Walk s from to k next (count + 1) found'
  walk_on next found' h e p came = rw (e, ⊎_elim here other came) (walk_next h (rw (← e) p))
    where
      here : (count ≡ k) × (found' ≡ Some at) → found' ≡ cond (eqb count k) (Some at) found
      here c = c.1 ∙ rw (eq-eqb count k c.0)

      other : (count ≡ k → ⊥) × (found' ≡ found) → found' ≡ cond (eqb count k) (Some at) found
      other c = c.1 ∙ rw (ne_eqb count k c.0)

  pub walk_end : to ≤ at → Ok (record { count = count; at = found }) ≡ walked_of (frames_in s from to) k
  unfolding numbered
  walk_end h = sym (w.same ∙ ap (λ (frames : Frames). walked_from frames k count found) (at_end s at to h) ∙ go (dec_lt k count))
    where
      go : Dec (k < count) → walked_from (whole []) k count found ≡ Ok (record { count = count; at = found })
      go (yes lt) = rw (lt-ltb k count lt, add-zero)
      go (no ge) = rw (le-ltb k count (omega arith), add-zero, w.none (omega arith))
