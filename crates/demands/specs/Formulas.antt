-- The published formulas: document 01, "The trace and its figures", with document 02's variance (ticket 3), and documents 003
-- and 002. E, L, Eb, Lb, n, S and Q are the fields of `Sums`, in that order.
use Rattle.std.specs.Prelude.{ℕ, ◌+◌, ◌-◌, ◌*◌, ◌/◌, ◌<◌, ◌≤◌, ◌≡◌, Bool, List, ltb, length, Ok}
use Rattle.block.specs.declared.LossSummary.{LossSummary}
use Rattle.block.specs.declared.DiscardSummary.{DiscardSummary}
use Rattle.trace.specs.Sum.{count}
use Rattle.trace.specs.declared.Event.{Event}
use Rattle.trace.specs.declared.Event.TheVariants.{Lost, Discarded}
use Rattle.trace.specs.Trace.{counts_as, counted_at, judged}
use Rattle.bursts.specs.declared.Sums.{Sums}
use Rattle.bursts.specs.declared.Figures.{Figures}
use Rattle.bursts.specs.Groups.{Group, bursts_of, packets_of, total}
use Rattle.bursts.specs.Sums.{sums_of}
use Rattle.bursts.specs.Grouping.{IsEvents, group, IsGrouping, ByPosition}
use Rattle.bursts.specs.Spread.{bursts_in}
use Rattle.tally.specs.declared.Tally.{Tally}
use Rattle.tally.specs.Tally.{open_of, counted, take_each, close_of}
use Rattle.tally.specs.Laws.{ClosesRight}
use Rattle.figures.specs.Figures.{figures_in, summary_of}
use Rattle.figures.specs.Laws.{TraceRight, TraceSummary, TallySummary}
use Rattle.batch.specs.declared.EffectiveLoss.{EffectiveLoss}
use Rattle.batch.specs.Laws.{FirstMeans}
use Rattle.batch.specs.Loss.{loss_answer}
use Rattle.figures.specs.declared.Summary.TheVariants.{Loss, Discard}

-- "duration of a burst: integer part of its packets × spacing / 1000", as in crate bursts, spelled out
abbrev pub lasts : ℕ → Group → ℕ
lasts spacing b = packets_of b * spacing / 1000

-- the sums of a trace: its groups are the paper's, packets and events are counted by position, durations are added over the
-- groups of two events or more
pub record SumsFormulas (event : Event) (gmin spacing : ℕ) (s : List ℕ) (r : Sums) : Type 0 where
  pub positions : List ℕ
  pub groups : List Group
  pub events : IsEvents (counts_as event) s positions
  pub grouping : IsGrouping gmin positions groups
  pub counts : ByPosition (counts_as event) s groups r
  pub bursts : r.bursts ≡ length (bursts_of groups)
  pub durations : r.durations ≡ total (lasts spacing) (bursts_of groups)
  pub squares : r.squares ≡ total (λ b. lasts spacing b * lasts spacing b) (bursts_of groups)
  -- n × Q − S × S is not cut off at 0
  pub spread : r.durations * r.durations ≤ r.bursts * r.squares

-- rates, where they can be measured
pub record Rates (r : Sums) (burst-rate gap-rate : ℕ) : Type 0 where
  pub burst : (r.burst_packets ≡ 0 → ⊥) → burst-rate ≡ r.burst_events * 32768 / r.burst_packets
  pub gap : (r.packets ≡ r.burst_packets → ⊥) → gap-rate ≡ (r.events - r.burst_events) * 32768 / (r.packets - r.burst_packets)

-- "above 65,533 sent as over range"
abbrev pub Capped : ℕ → ℕ → Type 0
Capped figure measure = (measure ≤ 65533 → figure ≡ measure) × (65533 < measure → figure ≡ 65534)

-- mean and variance, where they can be measured
pub record MeanAndVariance (r : Sums) (burst-mean burst-variance : ℕ) : Type 0 where
  pub mean : (r.bursts ≡ 0 → ⊥) → Capped burst-mean (r.durations / r.bursts)
  pub variance : (r.bursts ≡ 0 → ⊥) → Capped burst-variance ((r.bursts * r.squares - r.durations * r.durations) / (r.bursts * r.bursts))

abbrev pub FiguresFormulas : Sums → Figures → Type 0
FiguresFormulas r f = Rates r f.burst_rate f.gap_rate × MeanAndVariance r f.burst_mean f.burst_variance

-- "For block 17 the events are the lost packets, for block 18 the discarded"
abbrev pub Block17 : Event → Sums → LossSummary → Type 0
Block17 event r l = (event ≡ Lost) × Rates r l.burst_rate l.gap_rate × MeanAndVariance r l.burst_mean l.burst_variance

abbrev pub Block18 : Event → Sums → DiscardSummary → Type 0
Block18 event r d = (event ≡ Discarded) × Rates r d.burst_rate d.gap_rate

-- K, N, the index and the first batch over the threshold
pub record EffectiveLossFormulas (lost : ℕ → Bool) (e b t : ℕ) (l : EffectiveLoss) : Type 0 where
  pub batches : l.batches ≡ e - b + 1
  pub over : l.over ≡ count (λ k. ltb t (count lost k b)) 0 (e - b + 1)
  pub index : l.index ≡ l.over * 65535 / l.batches
  pub first : FirstMeans lost e b t l.first

pub record AsPublished : Type 0 where
  pub sums : (event : Event) (gmin spacing : ℕ) (s : List ℕ) → SumsFormulas event gmin spacing s (sums_of (counts_as event) gmin spacing s)
  -- of a trace: figures, and the blocks that carry them
  pub trace_figures : (event : Event) (gmin spacing : ℕ) (s : List ℕ) (f : Figures) → figures_in gmin spacing event s ≡ Ok f →
      FiguresFormulas (sums_of (counts_as event) gmin spacing s) f
  -- bursts of one duration have variance 0
  pub one_duration : (event : Event) (gmin spacing d : ℕ) (s : List ℕ) (f : Figures) → figures_in gmin spacing event s ≡ Ok f →
      0 < length (bursts_in (counts_as event) gmin s) →
      ((k : ℕ) → k < length (bursts_in (counts_as event) gmin s) → lasts spacing (group (bursts_in (counts_as event) gmin s) k) ≡ d) →
      f.burst_variance ≡ 0
  pub trace_17 : (event : Event) (gmin spacing : ℕ) (s : List ℕ) (source flag : ℕ) (l : LossSummary) →
      summary_of event source flag (figures_in gmin spacing event s) ≡ Ok (Loss l) → Block17 event (sums_of (counts_as event) gmin spacing s) l
  pub trace_18 : (event : Event) (gmin spacing : ℕ) (s : List ℕ) (source flag : ℕ) (d : DiscardSummary) →
      summary_of event source flag (figures_in gmin spacing event s) ≡ Ok (Discard d) → Block18 event (sums_of (counts_as event) gmin spacing s) d
  -- of any tally, and of one that took a trace
  pub tally_figures : (t : Tally) (f : Figures) → close_of t ≡ Ok f → FiguresFormulas (counted t) f
  pub tally_17 : (t : Tally) (source flag : ℕ) (l : LossSummary) → summary_of t.event source flag (close_of t) ≡ Ok (Loss l) → Block17 t.event (counted t) l
  pub tally_18 : (t : Tally) (source flag : ℕ) (d : DiscardSummary) → summary_of t.event source flag (close_of t) ≡ Ok (Discard d) → Block18 t.event (counted t) d
  pub tallied : (gmin spacing : ℕ) (event : Event) (t : Tally) (s : List ℕ) → open_of gmin spacing event ≡ Ok t → judged s ≡ (Ok tt) →
      close_of (take_each t s) ≡ figures_in gmin spacing event s
  pub effective_loss : (event : Event) (s : List ℕ) (b t : ℕ) (l : EffectiveLoss) →
      loss_answer (judged s) (counted_at event s) (length s) b t ≡ Ok l → EffectiveLossFormulas (counted_at event s) (length s) b t l

-- Of a trace's figures and of any tally's, and of the blocks made from them: a figure is unavailable exactly where its
-- denominator is 0. Figures from elsewhere (figures::loss_block, discard_block) are laid out as given, whatever they say.
pub record NeverUnavailable : Type 0 where
  pub trace_figures : TraceRight
  pub trace_blocks : TraceSummary
  pub tally_figures : ClosesRight
  pub tally_blocks : TallySummary
