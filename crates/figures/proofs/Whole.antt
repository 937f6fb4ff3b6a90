-- The figures of a whole trace are what its tally closes with. Assumes nothing.
use Prim.Native.Nat.{ℕ}
use mathlib.Core.Path.{◌≡◌, refl, sym, ap, ◌∙◌}
use mathlib.Core.Bool.{Bool, true, false}
use mathlib.Core.List.{List}
use Rattle.settings.specs.Ranges.{burst_in_range}
use Rattle.trace.specs.declared.Event.{Event}
use Rattle.trace.specs.Trace.{judged}
use Rattle.tally.specs.Tally.{fresh, close_of, of_trace}
use Rattle.tally.proofs.Turns.{opened}
use Rattle.tally.proofs.Reached.{closes_with_figures}
use Rattle.figures.specs.Figures.{figures_in}
use Rattle.std.specs.Prelude.{Result, Ok, Err}
use Rattle.bursts.specs.declared.Figures.{Figures}
use Rattle.refusal.specs.Answer.{Judged}
use Rattle.refusal.specs.declared.Refusal.{Refusal}
use Rattle.tally.specs.declared.Tally.{Tally}

-- an opened tally closed
abbrev closed : Result Tally Refusal → Result Figures Refusal
closed (Ok t) = close_of t
closed (Err r) = Err r

of_tally : (gmin spacing : ℕ) (event : Event) (s : List ℕ) → closed (of_trace gmin spacing event s) ≡ figures_in gmin spacing event s
unfolding of_trace figures_in
of_tally gmin spacing event s = go (burst_in_range gmin spacing) (judged s) refl refl
  where
    go : (b : Bool) (j : Judged) → burst_in_range gmin spacing ≡ b → judged s ≡ j → closed (of_trace gmin spacing event s) ≡ figures_in gmin spacing event s
    go true (Ok _) r j =
        rw (r, j)
        (closes_with_figures gmin spacing event (fresh gmin spacing event) s
        (record { opened = sym (opened gmin spacing event (fresh gmin spacing event) r refl); accepted = j }))
    go true (Err why) r j = rw (r, j)
    go false j r e = rw r

-- the two cases of the call
module _ (gmin spacing : ℕ) (event : Event) (s : List ℕ) where
  pub of_closed : (t : Tally) → of_trace gmin spacing event s ≡ Ok t → close_of t ≡ figures_in gmin spacing event s
  of_closed t h = ap closed (sym h) ∙ of_tally gmin spacing event s

  pub of_refused : (r : Refusal) → of_trace gmin spacing event s ≡ Err r → Err r ≡ figures_in gmin spacing event s
  of_refused r h = ap closed (sym h) ∙ of_tally gmin spacing event s
