-- The choices of what counts: `ChoicesKept` of specs/Choices.antt. Assumes nothing.
use Prim.Native.Nat.{ℕ, suc, ◌<◌}
use mathlib.Core.Path.{◌≡◌, refl, sym, ap, ◌∙◌}
use mathlib.Core.Bool.{Bool, true, false, ◌||◌}
use mathlib.Core.List.{List, [], ◌∷◌}
use mathlib.Core.Logic.{◌⊎◌, ⊎_elim, inl, inr}
use native.Mathlib.Omega.{arith}
use borrow.Author.Tests.{eqb-true, eq-eqb}
use lib.Dec.{eqb}
use lib.ListN.{length}
use Rattle.trace.specs.declared.Event.{Event}
use Rattle.trace.specs.declared.Event.TheVariants.{Lost}
use Rattle.trace.specs.Trace.{counts_as, counted_at, judged, flagged}
use Rattle.trace.specs.Laws.{IsTrace}
use Rattle.trace.proofs.Events.{length_flagged, flag_counted, flagged_counted, flagged_trace}
use Rattle.trace.proofs.Judging.{trace_accepted}
use Rattle.bursts.specs.Groups.{events_from}
use Rattle.figures.specs.Figures.{figures_in}
use Rattle.batch.proofs.Same.{same_loss}
use Rattle.batch.specs.Loss.{loss_answer}
use Rattle.resend.specs.Answer.{plan_answer, buffer_after}
use Rattle.resend.proofs.Same.{same_plan}
use Rattle.packing.proofs.BothWays.{pack_as_before}
use Rattle.demands.specs.Choices.{AsLost, ChoicesKept}
use Rattle.refusal.specs.Answer.{Judged}

-- the events of a trace are the lost of its flags
events_same : (event : Event) (at : ℕ) (s : List ℕ) → events_from (counts_as event) at s ≡ events_from (counts_as Lost) at (flagged event s)
unfolding events_from
events_same event at [] = refl
events_same event at (packet ∷ s) = rw (flag_counted event packet, events_same event (suc at) s)

as_lost : (event : Event) (s : List ℕ) → IsTrace s → AsLost event s (flagged event s)
unfolding figures_in
as_lost event s t =
    let flags : List ℕ = flagged event s in
    let verdict : judged s ≡ judged flags = trace_accepted s t ∙ sym (trace_accepted flags (flagged_trace event s t)) in
    let long : length s ≡ length flags = sym (length_flagged event s) in
    let same : (i : ℕ) → i < length s → counted_at event s i ≡ counted_at Lost flags i = λ i h. sym (flagged_counted event s i) in
    record {
      figures = λ gmin spacing. rw (verdict, long, events_same event 0 s);
      loss =
          λ b t. same_loss (judged s) (counted_at event s) (counted_at Lost flags) (length s) b t same
          ∙ ap (λ (j : Judged). loss_answer j (counted_at Lost flags) (length s) b t) verdict ∙ ap (λ (e : ℕ). loss_answer (judged flags) (counted_at Lost flags) e b t) long;
      plan =
          λ b t out. (same_plan (judged s) (counted_at event s) (counted_at Lost flags) (length s) b t out same).0
          ∙ ap (λ (j : Judged). plan_answer j (counted_at Lost flags) (length s) b t out) verdict ∙ ap (λ (e : ℕ). plan_answer (judged flags) (counted_at Lost flags) e b t out) long;
      bytes =
          λ b t out. (same_plan (judged s) (counted_at event s) (counted_at Lost flags) (length s) b t out same).1
          ∙ ap (λ (j : Judged). buffer_after j (counted_at Lost flags) (length s) b t out) verdict ∙ ap (λ (e : ℕ). buffer_after (judged flags) (counted_at Lost flags) e b t out) long;
    }

-- one of two tests
either_is : (packet : ℕ) (a b : Bool) → eqb packet 1 ≡ a → eqb packet 2 ≡ b → (a || b) ≡ true → (packet ≡ 1) ⊎ (packet ≡ 2)
either_is packet true b is-1 is-2 h = inl (eqb-true packet 1 is-1)
either_is packet false true is-1 is-2 h = inr (eqb-true packet 2 is-2)
either_is packet false false is-1 is-2 h = let z : ◌≡◌ {A = ℕ} 0 1 = cc in absurd (omega arith)

pub choices_kept : ChoicesKept
unfolding counts_as
choices_kept =
    record {
      lost_only = λ packet. (eqb-true packet 1, eq-eqb packet 1);
      discarded_only = λ packet. (eqb-true packet 2, eq-eqb packet 2);
      either =
          λ packet. (
            either_is packet (eqb packet 1) (eqb packet 2) refl refl,
            ⊎_elim (λ (e : packet ≡ 1). rw e) (λ (e : packet ≡ 2). rw e),
          );
      as_lost = as_lost;
      pack_before = pack_as_before;
      no_block = λ source flag m. refl;
    }
