-- A tally that takes a whole trace in a loop, and the cases of that call. Assumes nothing.
use Prim.Native.Nat.{ℕ, ◌+◌, ◌<◌, ◌≤◌}
use mathlib.Core.Path.{◌≡◌, refl, sym, ap, ◌∙◌}
use mathlib.Core.Bool.{Bool, true, false}
use mathlib.Core.List.{List, [], ◌∷◌, ◌++◌}
use native.Mathlib.Omega.{arith}
use native.Mathlib.Numerals.{add-one}
use lib.ListN.{length, get_or, take, length-take}
use lib.Seq.{take-suc, take_all}
use Rattle.refusal.specs.Table.{setting}
use Rattle.refusal.specs.Answer.{unless, if_accepted}
use Rattle.refusal.specs.declared.Refusal.{Refusal}
use Rattle.settings.specs.Ranges.{burst_in_range}
use Rattle.trace.specs.declared.Event.{Event}
use Rattle.trace.specs.Trace.{judged}
use Rattle.trace.specs.Laws.{IsTrace}
use Rattle.trace.proofs.Judging.{accepted_trace}
use Rattle.tally.specs.declared.Tally.{Tally}
use Rattle.tally.specs.declared.Taken.{Taken}
use Rattle.tally.specs.Tally.{fresh, open_of, step_of, take_one, take_each, of_trace}
use Rattle.tally.specs.Steps.{Bounded}
use Rattle.tally.proofs.Limits.{sound_of, sound_bounded, bounded_of}
use Rattle.tally.proofs.Holding.{Holds}
use Rattle.tally.proofs.Reached.{Fresh, opened_fresh, reached, holds_sound, holds_take, part_most, part_good}
use Rattle.std.specs.Prelude.{Ok, Err}

-- one packet more
all_snoc : (t : Tally) (s : List ℕ) (packet : ℕ) → take_each t (s ++ packet ∷ []) ≡ (take_one (take_each t s) packet).tally
unfolding take_each
all_snoc t [] packet = refl
all_snoc t (p ∷ s) packet = all_snoc (take_one t p).tally s packet

-- i packets of the trace are taken: the loop's invariant
pub record Running (gmin spacing : ℕ) (s : List ℕ) (first t : Tally) (i : ℕ) : Type 0 where
  pub opened : Fresh gmin spacing first.event first
  pub trace : IsTrace s
  pub within : i ≤ length s
  pub same : t ≡ take_each first (take i s)

module _ (gmin spacing : ℕ) (s : List ℕ) (first t : Tally) (i : ℕ) (r : Running gmin spacing s first t i) where
  holds : Holds gmin spacing first.event (take i s) t
  holds = rw r.same (reached gmin spacing first.event first r.opened (take i s) (part_most s r.trace i) (part_good s r.trace i))

  pub running_bounded : Bounded t
  running_bounded =
      let ok = holds_sound gmin spacing first.event r.opened.ranges (take i s) t holds (part_most s r.trace i) in
      bounded_of t (sound_of t ok).ranges (sound_bounded t ok)

  pub running_more : (u : Tally) → i < length s → u ≡ step_of t (get_or s i 0) → Running gmin spacing s first u (i + 1)
  running_more u l e =
      let part = length-take i s in
      let most = r.trace.most in
      let step = holds_take gmin spacing first.event r.opened.ranges (take i s) t (get_or s i 0) holds (omega arith) (r.trace.each i l) in
      record {
        opened = r.opened;
        trace = r.trace;
        within = omega arith;
        same = e ∙ ap (λ (x : Taken). x.tally) step ∙ rw (add-one, take-suc s i 0 l, all_snoc first (take i s) (get_or s i 0), r.same);
      }

-- the cases of the call
module _ (gmin spacing : ℕ) (event : Event) (s : List ℕ) where
  pub of_range : (r : Refusal) → open_of gmin spacing event ≡ Err r → Err r ≡ of_trace gmin spacing event s
  unfolding open_of of_trace
  of_range r h = go (burst_in_range gmin spacing) refl h
    where
      go : (b : Bool) → burst_in_range gmin spacing ≡ b → unless b (Err setting) (Ok (fresh gmin spacing event)) ≡ Err r →
          Err r ≡ unless b (Err setting) (if_accepted (judged s) Err (Ok (take_each (fresh gmin spacing event) s)))
      go false e a = sym a
      go true e a = let z : ◌≡◌ {A = ℕ} 0 1 = cc in absurd (omega arith)

  module _ (first : Tally) (opened : open_of gmin spacing event ≡ Ok first) where
    pub of_refused : (r : Refusal) → judged s ≡ Err r → Err r ≡ of_trace gmin spacing event s
    unfolding of_trace
    of_refused r h = rw ((opened_fresh gmin spacing event first opened).ranges, h)

    module _ (accepted : judged s ≡ Ok (tt {0})) where
      pub of_start : Running gmin spacing s first first 0
      unfolding fresh take_each
      of_start =
          let f = opened_fresh gmin spacing event first opened in
          rw f.none
          (record { opened = record { ranges = f.ranges; none = refl }; trace = accepted_trace s accepted; within = omega arith; same = refl })

      pub of_all : (t : Tally) (i : ℕ) → Running gmin spacing s first t i → length s ≤ i → Ok t ≡ of_trace gmin spacing event s
      unfolding of_trace
      of_all t i r l =
          let f = opened_fresh gmin spacing event first opened in
          let all : t ≡ take_each first s = r.same ∙ rw (take_all i s l) in
          rw (f.ranges, accepted, ← f.none, ← all)
