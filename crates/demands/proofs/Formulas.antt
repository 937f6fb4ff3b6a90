-- Sums, figures, blocks and effective loss are what the formulas say: `AsPublished` of specs/Formulas.antt. Assumes nothing.
use Prim.Native.Nat.{ℕ, ◌-◌, ◌<◌}
use mathlib.Core.Path.{◌≡◌, refl, sym, ◌∙◌}
use mathlib.Core.Bool.{Bool}
use mathlib.Core.List.{List}
use native.Mathlib.Omega.{arith}
use lib.ListN.{length}
use Rattle.refusal.specs.Table.{setting}
use Rattle.refusal.specs.Answer.{if_accepted}
use Rattle.refusal.proofs.Tests.{passed}
use Rattle.settings.specs.Ranges.{burst_in_range}
use Rattle.block.specs.declared.LossSummary.{LossSummary}
use Rattle.block.specs.declared.DiscardSummary.{DiscardSummary}
use Rattle.trace.specs.declared.Event.{Event}
use Rattle.trace.specs.Trace.{counts_as, counted_at, judged}
use Rattle.bursts.specs.declared.Sums.{Sums}
use Rattle.bursts.specs.declared.Figures.{Figures}
use Rattle.bursts.specs.Groups.{events_at, groups, duration}
use Rattle.bursts.specs.Sums.{sums_over, sums_of}
use Rattle.bursts.specs.Figures.{ranged, mean_duration, duration_variance, figures_of}
use Rattle.bursts.specs.Laws.{Uncut}
use Rattle.bursts.proofs.Grouping.{are}
use Rattle.bursts.proofs.Positions.{events_are, sums_counted}
use Rattle.bursts.specs.Grouping.{group}
use Rattle.bursts.specs.Spread.{bursts_in}
use Rattle.bursts.proofs.Spread.{spread_uncut, variance_alike}
use Rattle.bursts.proofs.Cases.{some_rate, in_range_lem, over_range_lem, some_mean, some_variance}
use Rattle.tally.specs.declared.Tally.{Tally}
use Rattle.tally.specs.Tally.{fresh, open_of, counted, sound, take_each, close_of}
use Rattle.tally.proofs.Reached.{closes_with_figures, closes_right}
use Rattle.figures.specs.Figures.{figures_in, summary_of}
use Rattle.figures.proofs.Writable.{trace_right, kind_right, trace_summary, tally_summary}
use Rattle.batch.specs.declared.EffectiveLoss.{EffectiveLoss}
use Rattle.batch.specs.Batches.{over_count}
use Rattle.batch.specs.Judging.{judged_for}
use Rattle.batch.specs.Loss.{loss_of, loss_answer}
use Rattle.batch.proofs.Counting.{first_means}
use Rattle.demands.specs.Formulas.{lasts, SumsFormulas, Rates, Capped, MeanAndVariance, FiguresFormulas, Block17, Block18, EffectiveLossFormulas, AsPublished, NeverUnavailable}
use Rattle.std.specs.Prelude.{Result, Ok, Err}
use Rattle.refusal.specs.Answer.{Judged}
use Rattle.refusal.specs.declared.Refusal.{Refusal}
use Rattle.figures.specs.declared.Summary.TheVariants.{Loss, Discard}

sums : (event : Event) (gmin spacing : ℕ) (s : List ℕ) → SumsFormulas event gmin spacing s (sums_of (counts_as event) gmin spacing s)
unfolding sums_over duration
sums event gmin spacing s =
    record {
      positions = events_at (counts_as event) s;
      groups = groups gmin (events_at (counts_as event) s);
      events = events_are (counts_as event) s;
      grouping = are gmin (events_at (counts_as event) s);
      counts = sums_counted (counts_as event) gmin spacing s;
      bursts = refl;
      durations = refl;
      squares = refl;
      spread = spread_uncut (counts_as event) gmin spacing s;
    }

-- the figures of any sums that cut nothing off
capped : (figure measure : ℕ) → ranged measure ≡ figure → Capped figure measure
capped figure measure e = (λ l. sym (in_range_lem measure l ∙ e), λ l. sym (over_range_lem measure l ∙ e))

formulas : (r : Sums) → Uncut r → FiguresFormulas r (figures_of r)
unfolding figures_of
formulas r u =
    let inside = u.packets in (
      record {
        burst = λ some. sym (some_rate r.burst_events r.burst_packets some);
        gap = λ some. sym (some_rate (r.events - r.burst_events) (r.packets - r.burst_packets) (λ none. some (omega arith)));
      },
      record {
        mean = λ some. capped _ (mean_duration r) (some_mean r some);
        variance = λ some. capped _ (duration_variance r) (some_variance r some);
      },
    )

-- a trace's figures and a tally's are figures of its sums
refused : (f : Figures) → Err setting ≡ Ok f → ⊥
refused f e = let z : ◌≡◌ {A = ℕ} 0 1 = cc in omega arith

trace_same : (event : Event) (gmin spacing : ℕ) (s : List ℕ) (f : Figures) → figures_in gmin spacing event s ≡ Ok f → figures_of (sums_of (counts_as event) gmin spacing s) ≡ f
unfolding figures_in
trace_same event gmin spacing s f h = go (judged s) (passed (burst_in_range gmin spacing) (Err setting) _ (Ok f) (refused f) h).1
  where
    r : Sums
    r = sums_of (counts_as event) gmin spacing s

    go : (j : Judged) → if_accepted j Err (Ok (figures_of r)) ≡ Ok f → figures_of r ≡ f
    go (Ok _) e = cc
    go (Err why) e = let z : ◌≡◌ {A = ℕ} 0 1 = cc in absurd (omega arith)

trace_figures : (event : Event) (gmin spacing : ℕ) (s : List ℕ) (f : Figures) → figures_in gmin spacing event s ≡ Ok f → FiguresFormulas (sums_of (counts_as event) gmin spacing s) f
trace_figures event gmin spacing s f h =
    rw (← trace_same event gmin spacing s f h) (formulas (sums_of (counts_as event) gmin spacing s) (trace_right gmin spacing event s f h).1)

one_duration : (event : Event) (gmin spacing d : ℕ) (s : List ℕ) (f : Figures) → figures_in gmin spacing event s ≡ Ok f →
    0 < length (bursts_in (counts_as event) gmin s) →
    ((k : ℕ) → k < length (bursts_in (counts_as event) gmin s) → lasts spacing (group (bursts_in (counts_as event) gmin s) k) ≡ d) →
    f.burst_variance ≡ 0
unfolding figures_of duration
one_duration event gmin spacing d s f h some alike =
    rw (← trace_same event gmin spacing s f h) (variance_alike (counts_as event) gmin spacing d s some alike)

tally_figures : (t : Tally) (f : Figures) → close_of t ≡ Ok f → FiguresFormulas (counted t) f
unfolding close_of
tally_figures t f h =
    let e = (passed (sound t) (Err setting) _ (Ok f) (refused f) h).1 in
    let same : figures_of (counted t) ≡ f = cc in
    rw (← same) (formulas (counted t) (closes_right t f h).1)

-- and so are those of the blocks made from them
same : (P : ℕ → ℕ → Type 0) (a b c d : ℕ) → a ≡ c → b ≡ d → P c d → P a b
same P a b c d e f p = rw (e, f) p

module _ (r : Sums) (event : Event) (source flag : ℕ) (m : Result Figures Refusal) (each : (f : Figures) → m ≡ Ok f → FiguresFormulas r f) where
  block_17 : (l : LossSummary) → summary_of event source flag m ≡ Ok (Loss l) → Block17 event r l
  block_17 l e =
      let k = (kind_right event source flag m).0 l e in
      let f = each k.figures k.measured in
      (k.lost, same (Rates r) _ _ _ _ k.rates.0 k.rates.1 f.0, same (MeanAndVariance r) _ _ _ _ k.durations.0 k.durations.1 f.1)

  block_18 : (d : DiscardSummary) → summary_of event source flag m ≡ Ok (Discard d) → Block18 event r d
  block_18 d e =
      let k = (kind_right event source flag m).1 d e in
      let f = each k.figures k.measured in
      (k.discarded, same (Rates r) _ _ _ _ k.rates.0 k.rates.1 f.0)

tallied : (gmin spacing : ℕ) (event : Event) (t : Tally) (s : List ℕ) → open_of gmin spacing event ≡ Ok t → judged s ≡ Ok (tt {0}) →
    close_of (take_each t s) ≡ figures_in gmin spacing event s
unfolding open_of figures_in
tallied gmin spacing event t s o a =
    let range = (passed (burst_in_range gmin spacing) (Err setting) (Ok (fresh gmin spacing event)) (Ok t) (λ e. let z : ◌≡◌ {A = ℕ} 0 1 = cc in omega arith) o).0 in
    closes_with_figures gmin spacing event t s (record { opened = o; accepted = a }) ∙ rw (range, a)

effective_loss : (event : Event) (s : List ℕ) (b t : ℕ) (l : EffectiveLoss) →
    loss_answer (judged s) (counted_at event s) (length s) b t ≡ Ok l → EffectiveLossFormulas (counted_at event s) (length s) b t l
unfolding loss_answer loss_of over_count
effective_loss event s b t l h = go (judged_for (judged s) (length s) b t) h
  where
    lost : ℕ → Bool
    lost = counted_at event s

    go : (j : Judged) → if_accepted j Err (Ok (loss_of lost (length s) b t)) ≡ Ok l → EffectiveLossFormulas lost (length s) b t l
    go (Ok _) e =
        let same : l ≡ loss_of lost (length s) b t = cc in
        rw same (record { batches = refl; over = refl; index = refl; first = first_means lost (length s) b t })
    go (Err why) e = let z : ◌≡◌ {A = ℕ} 0 1 = cc in absurd (omega arith)

pub as_published : AsPublished
as_published =
    record {
      sums = sums;
      trace_figures = trace_figures;
      one_duration = one_duration;
      trace_17 = λ event gmin spacing s source flag. block_17 (sums_of (counts_as event) gmin spacing s) event source flag (figures_in gmin spacing event s) (trace_figures event gmin spacing s);
      trace_18 = λ event gmin spacing s source flag. block_18 (sums_of (counts_as event) gmin spacing s) event source flag (figures_in gmin spacing event s) (trace_figures event gmin spacing s);
      tally_figures = tally_figures;
      tally_17 = λ t source flag. block_17 (counted t) t.event source flag (close_of t) (tally_figures t);
      tally_18 = λ t source flag. block_18 (counted t) t.event source flag (close_of t) (tally_figures t);
      tallied = tallied;
      effective_loss = effective_loss;
    }

pub never_unavailable : NeverUnavailable
never_unavailable = record { trace_figures = trace_right; trace_blocks = trace_summary; tally_figures = closes_right; tally_blocks = tally_summary }
