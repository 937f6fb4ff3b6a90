-- Tallies that were opened and took a trace: the laws of specs/Laws.antt. Assumes nothing.
use Prim.Native.Nat.{ℕ, suc, ◌+◌, ◌<◌, ◌≤◌, min}
use mathlib.Core.Path.{◌≡◌, refl, ◌∙◌}
use mathlib.Core.Bool.{true}
use mathlib.Core.List.{List, [], ◌∷◌, ◌++◌, append-nil}
use native.Mathlib.Omega.{arith}
use lib.ListN.{length, get_or, take, length-take, length-append}
use lib.Seq.{get_or-take, append_snoc}
use Rattle.refusal.specs.Table.{setting}
use Rattle.refusal.proofs.Tests.{and_left, and_right, passed}
use Rattle.settings.specs.Ranges.{burst_in_range}
use Rattle.trace.specs.declared.Event.{Event}
use Rattle.trace.specs.Trace.{packet_max, trace_max, counts_as}
use Rattle.trace.specs.Laws.{IsTrace}
use Rattle.trace.proofs.Judging.{accepted_trace}
use Rattle.bursts.specs.Groups.{events_from, groups, bursts_of, total}
use Rattle.bursts.specs.Sums.{sums_over, sums_of, counts_sound, durations_sound, sums_sound}
use Rattle.bursts.specs.Figures.{figures_of, rate_of, mean_of, variance_of}
use Rattle.bursts.proofs.Availability.{figures_right, sound_uncut}
use Rattle.bursts.proofs.Soundness.{sound_fits}
use Rattle.bursts.proofs.TraceSums.{sums_sound_lem}
use Rattle.tally.specs.declared.Tally.{Tally}
use Rattle.tally.specs.Tally.{fresh, open_of, counted, sound, step_of, take_one, close_of, take_each}
use Rattle.tally.specs.Laws.{TakesAll, SoundThroughout, CountsAll, ClosesWithFigures, ClosesEmpty, TallyFits, ClosesRight}
use Rattle.tally.proofs.Limits.{sound_of, sound_bounded, tested}
use Rattle.tally.proofs.Turns.{taken, closes}
use Rattle.tally.proofs.Holding.{Holds, holds_fresh, holds_packets, holds_set, holds_counted, holds_step}
use Rattle.std.specs.Prelude.{Ok, Err}

-- packets that are all good
abbrev pub Good : List ℕ → Type 0
Good s = (i : ℕ) → i < length s → get_or s i 0 ≤ packet_max

module _ (gmin spacing : ℕ) (event : Event) (range : burst_in_range gmin spacing ≡ true) where
  -- a tally that holds packets, at most so many, is sound
  pub holds_sound : (s : List ℕ) (t : Tally) → Holds gmin spacing event s t → length s ≤ trace_max → sound t ≡ true
  unfolding sound sums_sound
  holds_sound s t h most =
      let set = holds_set gmin spacing event s t h in
      let r = sums_of (counts_as event) gmin spacing s in
      let all = sums_sound_lem (counts_as event) gmin spacing s range most in
      rw (holds_counted gmin spacing event s t h, set.gmin_is, set.spacing_is, range, and_left (counts_sound r) (durations_sound r) all, set.within, and_right (counts_sound r) (durations_sound r) all)

  pub holds_take : (s : List ℕ) (t : Tally) (packet : ℕ) → Holds gmin spacing event s t → length s < trace_max → packet ≤ packet_max →
      record { tally = step_of t packet; answer = (Ok (tt {0})) } ≡ take_one t packet
  holds_take s t packet h room good =
      let e = holds_packets gmin spacing event s t h in
      taken t packet (holds_sound s t h (omega arith)) (omega arith) (step_of t packet) good refl

  holds_all : (done rest : List ℕ) (t : Tally) → Holds gmin spacing event done t → length done + length rest ≤ trace_max → Good rest →
      Holds gmin spacing event (done ++ rest) (take_each t rest)
  unfolding take_each
  holds_all done [] t h room good = rw (append-nil done) h
  holds_all done (packet ∷ rest) t h room good =
      let longer = length-append done (packet ∷ []) in
      rw (← append_snoc done packet rest, ← holds_take done t packet h (omega arith) (good 0 (omega arith)))
      (holds_all (done ++ packet ∷ []) rest (step_of t packet) (holds_step gmin spacing event done packet t h) (omega arith) (λ i l. good (suc i) (omega arith)))

-- what was opened
pub record Fresh (gmin spacing : ℕ) (event : Event) (t : Tally) : Type 0 where
  pub ranges : burst_in_range gmin spacing ≡ true
  pub none : t ≡ fresh gmin spacing event

pub opened_fresh : (gmin spacing : ℕ) (event : Event) (t : Tally) → open_of gmin spacing event ≡ Ok t → Fresh gmin spacing event t
unfolding open_of
opened_fresh gmin spacing event t h =
    let p = passed (burst_in_range gmin spacing) (Err setting) _ (Ok t) (λ e. let z : ◌≡◌ {A = ℕ} 0 1 = cc in omega arith) h in
    record { ranges = p.0; none = cc }

-- the tally after packets that are all good, at most so many
module _ (gmin spacing : ℕ) (event : Event) (t : Tally) (f : Fresh gmin spacing event t) (s : List ℕ) (most : length s ≤ trace_max) (good : Good s) where
  pub reached : Holds gmin spacing event s (take_each t s)
  reached = holds_all gmin spacing event f.ranges [] s t (rw f.none (holds_fresh gmin spacing event)) (omega arith) good

  reached_sound : sound (take_each t s) ≡ true
  reached_sound = holds_sound gmin spacing event f.ranges s (take_each t s) reached most

  reached_counted : counted (take_each t s) ≡ sums_of (counts_as event) gmin spacing s
  reached_counted = holds_counted gmin spacing event s (take_each t s) reached

  reached_closed : close_of (take_each t s) ≡ Ok (figures_of (sums_of (counts_as event) gmin spacing s))
  unfolding close_of
  reached_closed = rw (reached_sound, reached_counted)

-- the first packets of an accepted trace
module _ (s : List ℕ) (h : IsTrace s) (i : ℕ) where
  pub part_most : length (take i s) ≤ trace_max
  part_most = let m = h.most in simp length-take (omega arith)

  pub part_good : Good (take i s)
  part_good j l =
      let m : j < min i (length s) = rw (← length-take i s) l in
      rw (get_or-take i s j 0 (omega arith)) (h.each j (omega arith))

pub takes_all : TakesAll
takes_all gmin spacing event t s g i l =
    let h = accepted_trace s g.accepted in
    let f = opened_fresh gmin spacing event t g.opened in
    let most = h.most in
    let part = length-take i s in
    rw (← holds_take gmin spacing event f.ranges (take i s) (take_each t (take i s)) (get_or s i 0) (reached gmin spacing event t f (take i s) (part_most s h i) (part_good s h i)) (omega arith) (h.each i l))

pub sound_throughout : SoundThroughout
sound_throughout gmin spacing event t s g i =
    let h = accepted_trace s g.accepted in
    reached_sound gmin spacing event t (opened_fresh gmin spacing event t g.opened) (take i s) (part_most s h i) (part_good s h i)

pub counts_all : CountsAll
counts_all gmin spacing event t s g i =
    let h = accepted_trace s g.accepted in
    reached_counted gmin spacing event t (opened_fresh gmin spacing event t g.opened) (take i s) (part_most s h i) (part_good s h i)

pub closes_with_figures : ClosesWithFigures
closes_with_figures gmin spacing event t s g =
    let h = accepted_trace s g.accepted in
    reached_closed gmin spacing event t (opened_fresh gmin spacing event t g.opened) s h.most h.each

pub closes_empty : ClosesEmpty
unfolding take_each events_from groups sums_over bursts_of total figures_of rate_of mean_of variance_of
closes_empty gmin spacing event t o =
    reached_closed gmin spacing event t (opened_fresh gmin spacing event t o) [] (omega arith) (λ i l. absurd (omega arith))

-- a sound tally's sums are judged as it is
sums_same : (t : Tally) → sound t ≡ true → sums_sound (counted t) ≡ sound t
sums_same t s = tested t (sound_of t s).ranges (sound_bounded t s)

pub tally_fits : TallyFits
tally_fits t s = sound_fits (counted t) (sums_same t s ∙ s)

pub closes_right : ClosesRight
unfolding close_of
closes_right t f h =
    let s = (passed (sound t) (Err setting) _ (Ok f) (λ e. let z : ◌≡◌ {A = ℕ} 0 1 = cc in omega arith) h).0 in
    let same = sums_same t s in
    (figures_right (counted t) f (closes t same ∙ h), sound_uncut (counted t) (same ∙ s))
