-- A tally handed out and in as numbers: `TallyAsFigures` of specs/Laws.antt. Assumes nothing.
use Prim.Native.Nat.{ℕ}
use mathlib.Core.Path.{◌≡◌, refl, ap, ◌∙◌}
use mathlib.Core.Bool.{Bool, true, false}
use mathlib.Core.List.{List, [], ◌∷◌}
use native.Mathlib.Omega.{arith}
use Rattle.refusal.specs.Table.{setting, refusal_number}
use Rattle.refusal.specs.Answer.{unless}
use Rattle.refusal.specs.declared.Refusal.{Refusal}
use Rattle.settings.specs.Ranges.{burst_in_range}
use Rattle.trace.specs.declared.Event.{Event}
use Rattle.trace.specs.Trace.{judged}
use Rattle.tally.specs.declared.Tally.{Tally}
use Rattle.tally.specs.Tally.{fresh, open_of, take_one, close_of, take_each}
use Rattle.tally.proofs.Reached.{closes_with_figures}
use Rattle.figures.specs.Figures.{figures_in}
use Rattle.ffi_answer.specs.Answers.{none, refusal_out}
use Rattle.ffi_answer.specs.declared.RefusalFields.{RefusalFields}
use Rattle.trace.specs.Events.{event_in}
use Rattle.ffi_figures.specs.Answers.{figures_out, figures_by}
use Rattle.ffi_tally.specs.Answers.{tally_in, tally_out, opened_out}
use Rattle.ffi_tally.proofs.Back.{tally_back}
use Rattle.ffi_tally.specs.Calls.{open_by, take_by, close_by}
use Rattle.ffi_tally.specs.Laws.{take_each_by, TallyAsFigures}
use Rattle.std.specs.Prelude.{Result, Ok, Err, Option, Some, None}

-- packets taken as numbers are packets taken
taken : (t : Tally) (s : List ℕ) → take_each_by (tally_out t) s ≡ tally_out (take_each t s)
unfolding take_each_by take_each
taken t [] = refl
taken t (packet ∷ s) =
    ap (λ (r : Option Tally). take_each_by (take_by (tally_out t) packet r).tally s) (tally_back t) ∙ taken (take_one t packet).tally s

module _ (gmin spacing : ℕ) (event : Event) (s : List ℕ) (accepted : judged s ≡ (Ok (tt {0}))) where
  -- an accepted trace has the figures of what it closes with
  figures_of_lem : (t : Tally) → open_of gmin spacing event ≡ Ok t → close_of (take_each t s) ≡ figures_in gmin spacing event s
  unfolding open_of figures_in
  figures_of_lem t o = go (burst_in_range gmin spacing) refl o
    where
      go : (b : Bool) → burst_in_range gmin spacing ≡ b → unless b (Err setting) (Ok (fresh gmin spacing event)) ≡ Ok t →
          close_of (take_each t s) ≡ figures_in gmin spacing event s
      go true r e = rw (r, accepted) (closes_with_figures gmin spacing event t s (record { opened = o; accepted = accepted }))
      go false r e = let z : ◌≡◌ {A = ℕ} 0 1 = cc in absurd (omega arith)

  opened_as : (o : Result Tally Refusal) → open_of gmin spacing event ≡ o → (opened_out o).refusal ≡ none →
      close_by (tally_in (take_each_by (opened_out o).tally s)) ≡ figures_out (figures_in gmin spacing event s)
  unfolding open_of
  opened_as (Ok t) o h =
      ap (λ x. close_by (tally_in x)) (taken t s) ∙ ap close_by (tally_back (take_each t s)) ∙ ap figures_out (figures_of_lem t o)
  opened_as (Err r) o h = go (burst_in_range gmin spacing) o
    where
      go : (b : Bool) → unless b (Err setting) (Ok (fresh gmin spacing event)) ≡ Err r →
          close_by (tally_in (take_each_by (opened_out (Err r)).tally s)) ≡ figures_out (figures_in gmin spacing event s)
      go true e = let z : ◌≡◌ {A = ℕ} 0 1 = cc in absurd (omega arith)
      go false e =
          let same : setting ≡ r = cc in
          let number : refusal_number setting ≡ 0 = ap (λ (x : RefusalFields). x.number) (ap refusal_out same ∙ h) in
          absurd (omega arith)

pub tally_as_figures : TallyAsFigures
tally_as_figures gmin spacing event s h accepted = go (event_in event) h
  where
    go : (e : Option Event) → (open_by gmin spacing e).refusal ≡ none →
        close_by (tally_in (take_each_by (open_by gmin spacing e).tally s)) ≡ figures_by gmin spacing s e
    go (Some kind) h = opened_as gmin spacing kind s accepted (open_of gmin spacing kind) refl h
    go None h =
        let number : refusal_number setting ≡ 0 = ap (λ (x : RefusalFields). x.number) h in
        absurd (omega arith)
