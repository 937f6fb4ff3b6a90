-- Figures are right, and so are the blocks made from them: the laws of specs/Laws.antt. Assumes nothing.
use Prim.Native.Nat.{ℕ, ◌<◌, ◌≤◌}
use mathlib.Core.Path.{◌≡◌, refl, sym, ◌∙◌}
use mathlib.Core.Bool.{Bool, true, false}
use mathlib.Core.Logic.{◌⊎◌, ⊎_elim}
use native.Mathlib.Omega.{arith}
use borrow.Author.Tests.{le-leb}
use Rattle.refusal.specs.Table.{setting}
use Rattle.refusal.specs.Answer.{unless, if_accepted}
use Rattle.settings.specs.Ranges.{burst_in_range}
use Rattle.block.specs.Reading.{rate_max, unavailable, rate_good, summary_good}
use Rattle.block.specs.declared.LossSummary.{LossSummary}
use Rattle.block.specs.declared.DiscardSummary.{DiscardSummary}
use Rattle.block.specs.declared.Block.TheVariants.{Loss as Block-as-Loss, Discard as Block-as-Discard}
use Rattle.trace.specs.declared.Event.{Event}
use Rattle.trace.specs.declared.Event.TheVariants.{Lost, Discarded, Either}
use Rattle.trace.specs.Trace.{counts_as, judged}
use Rattle.bursts.specs.declared.Sums.{Sums}
use Rattle.bursts.specs.declared.Figures.{Figures}
use Rattle.bursts.specs.Sums.{sums_of}
use Rattle.encode.specs.Laws.{Half}
use Rattle.encode.proofs.ReadBack.{read_back}
use Rattle.bursts.specs.Figures.{over_range, figures_of}
use Rattle.bursts.specs.Laws.{Right, Uncut}
use Rattle.bursts.proofs.Availability.{figures_right, sound_uncut}
use Rattle.bursts.proofs.Cases.{accepted}
use Rattle.tally.specs.Tally.{counted, close_of}
use Rattle.trace.proofs.Judging.{accepted_trace}
use Rattle.bursts.proofs.TraceSums.{sums_sound_lem}
use Rattle.tally.proofs.Reached.{closes_right}
use Rattle.figures.specs.declared.Summary.TheVariants.{Loss, Discard}
use Rattle.figures.specs.Figures.{figures_in, loss_block, discard_block, summary_of}
use Rattle.figures.specs.Laws.{TraceRight, KindRight, BlocksWrite, TraceWrites, TallyWrites, SummaryRight, TraceSummary, TallySummary}
use Rattle.std.specs.Prelude.{Result, Ok, Err}
use Rattle.refusal.specs.Answer.{Judged}
use Rattle.refusal.specs.declared.Refusal.{Refusal}

-- rates that are right are good, and every figure fits 16 bits
good : (r : ℕ) → (r ≤ rate_max) ⊎ (r ≡ unavailable) → rate_good r ≡ true
unfolding rate_good
good r h = ⊎_elim (λ (l : r ≤ rate_max). rw (le-leb r rate_max l)) (λ (e : r ≡ unavailable). rw e) h

small : (n most : ℕ) → most < unavailable → (n ≤ most) ⊎ (n ≡ unavailable) → Half n
small n most m h = ⊎_elim (λ (l : n ≤ most). omega arith) (λ (e : n ≡ unavailable). omega arith) h

writes : (s : Sums) (f : Figures) → Right s f → BlocksWrite f
unfolding summary_good
writes s f r source flag word good-flag =
    let b = r.rates.burst.at_most in
    let g = r.rates.gap.at_most in
    let through : summary_good flag f.burst_rate f.gap_rate ≡ true = rw (good-flag, good f.burst_rate b, good f.gap_rate g) in
    let burst = small f.burst_rate rate_max (omega arith) b in
    let gap = small f.gap_rate rate_max (omega arith) g in
    let mean = small f.burst_mean over_range (omega arith) r.durations.mean.at_most in
    let variance = small f.burst_variance over_range (omega arith) r.durations.variance.at_most in (
      record { let_through = through; reads_back = read_back (Block-as-Loss (loss_block f source flag)) (word, burst, gap, mean, variance) through },
      record { let_through = through; reads_back = read_back (Block-as-Discard (discard_block f source flag)) (word, burst, gap) through },
    )

-- figures of a trace: the settings and the trace were accepted, and its sums are sound
pub trace_right : TraceRight
unfolding figures_in
trace_right gmin spacing event s f h = go (burst_in_range gmin spacing) (judged s) refl refl h
  where
    r : Sums
    r = sums_of (counts_as event) gmin spacing s

    go : (b : Bool) (j : Judged) → burst_in_range gmin spacing ≡ b → judged s ≡ j →
        unless b (Err setting) (if_accepted j Err (Ok (figures_of r))) ≡ Ok f → Right r f × Uncut r
    go true (Ok _) range j e =
        let sound = sums_sound_lem (counts_as event) gmin spacing s range (accepted_trace s j).most in
        (figures_right r f (sym (accepted r (figures_of r) sound refl) ∙ e), sound_uncut r sound)
    go true (Err why) range j e = let z : ◌≡◌ {A = ℕ} 0 1 = cc in absurd (omega arith)
    go false j range e a = let z : ◌≡◌ {A = ℕ} 0 1 = cc in absurd (omega arith)

pub trace_writes : TraceWrites
trace_writes gmin spacing event s f h = writes (sums_of (counts_as event) gmin spacing s) f (trace_right gmin spacing event s f h).0

pub tally_writes : TallyWrites
tally_writes t f h = writes (counted t) f (closes_right t f h).0

-- what a measured block was made from
record From {B : Type 0} (m : Result Figures Refusal) (make : Figures → B) (b : B) : Type 0 where
  pub figures : Figures
  pub measured : m ≡ Ok figures
  pub block : make figures ≡ b

module _ (source flag : ℕ) where
  from_lost : (event : Event) (m : Result Figures Refusal) (l : LossSummary) → summary_of event source flag m ≡ Ok (Loss l) → (event ≡ Lost) × From m (λ f. loss_block f source flag) l
  from_lost Lost (Ok f) l e = (refl, record { figures = f; measured = refl; block = cc })
  from_lost Lost (Err r) l e = let z : ◌≡◌ {A = ℕ} 0 1 = cc in absurd (omega arith)
  from_lost Discarded (Ok f) l e = let z : ◌≡◌ {A = ℕ} 0 1 = cc in absurd (omega arith)
  from_lost Discarded (Err r) l e = let z : ◌≡◌ {A = ℕ} 0 1 = cc in absurd (omega arith)
  from_lost Either m l e = let z : ◌≡◌ {A = ℕ} 0 1 = cc in absurd (omega arith)

  from_discarded : (event : Event) (m : Result Figures Refusal) (d : DiscardSummary) → summary_of event source flag m ≡ Ok (Discard d) → (event ≡ Discarded) × From m (λ f. discard_block f source flag) d
  from_discarded Discarded (Ok f) d e = (refl, record { figures = f; measured = refl; block = cc })
  from_discarded Discarded (Err r) d e = let z : ◌≡◌ {A = ℕ} 0 1 = cc in absurd (omega arith)
  from_discarded Lost (Ok f) d e = let z : ◌≡◌ {A = ℕ} 0 1 = cc in absurd (omega arith)
  from_discarded Lost (Err r) d e = let z : ◌≡◌ {A = ℕ} 0 1 = cc in absurd (omega arith)
  from_discarded Either m d e = let z : ◌≡◌ {A = ℕ} 0 1 = cc in absurd (omega arith)

pub kind_right : KindRight
kind_right event source flag m = (
  λ l e. let k = from_lost source flag event m l e in
      rw (← k.1.block) (record { lost = k.0; figures = k.1.figures; measured = k.1.measured; as_given = (refl, refl); rates = (refl, refl); durations = (refl, refl) }),
  λ d e. let k = from_discarded source flag event m d e in
      rw (← k.1.block) (record { discarded = k.0; figures = k.1.figures; measured = k.1.measured; as_given = (refl, refl); rates = (refl, refl) }),
)

summary_right : (r : Sums) (event : Event) (source flag : ℕ) (m : Result Figures Refusal) → ((f : Figures) → m ≡ Ok f → Right r f) → SummaryRight r source flag (summary_of event source flag m)
summary_right r event source flag m right =
    record {
      loss_rates = λ l e. let k = (from_lost source flag event m l e).1 in rw (← k.block) (right k.figures k.measured).rates;
      loss_durations = λ l e. let k = (from_lost source flag event m l e).1 in rw (← k.block) (right k.figures k.measured).durations;
      discard_rates = λ d e. let k = (from_discarded source flag event m d e).1 in rw (← k.block) (right k.figures k.measured).rates;
      loss_writes = λ l e w g. let k = (from_lost source flag event m l e).1 in rw (← k.block) (writes r k.figures (right k.figures k.measured) source flag w g).0;
      discard_writes = λ d e w g. let k = (from_discarded source flag event m d e).1 in rw (← k.block) (writes r k.figures (right k.figures k.measured) source flag w g).1;
    }

pub trace_summary : TraceSummary
trace_summary gmin spacing event s source flag =
    summary_right (sums_of (counts_as event) gmin spacing s) event source flag (figures_in gmin spacing event s) (λ f h. (trace_right gmin spacing event s f h).0)

pub tally_summary : TallySummary
tally_summary t source flag = summary_right (counted t) t.event source flag (close_of t) (λ f h. (closes_right t f h).0)
