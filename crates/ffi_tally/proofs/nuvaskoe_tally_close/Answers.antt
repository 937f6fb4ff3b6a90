-- `ffi_tally::nuvaskoe_tally_close` meets its contract: the library's call, put into the struct. Assumes nothing.
use mathlib.Core.Path.{◌≡◌, refl, ap, ◌∙◌}
use Rattle.std.proofs.Common.{arith}
use Rattle.std.proofs.lemmas.Grind.{common_steps}
use Rattle.std.specs.Prelude.{Result, Err, Option, Some, None}
use Rattle.refusal.specs.Table.{setting}
use Rattle.refusal.specs.declared.Refusal.{Refusal}
use Rattle.bursts.specs.declared.Figures.{Figures}
use Rattle.tally.specs.declared.Tally.{Tally}
use Rattle.tally.specs.Tally.{close_of}
use Rattle.ffi_figures.specs.Answers.{figures_out}
use Rattle.ffi_tally.specs.Answers.{tally_in}
use Rattle.ffi_tally.specs.Calls.{close_by}
use Rattle.ffi_tally.proofs.nuvaskoe_tally_close.Goals as goal

closed : (t : Option Tally) (m : Result Figures Refusal) → (t ≡ None → m ≡ Err setting) →
    ((tally : Tally) → t ≡ Some tally → m ≡ close_of tally) → figures_out m ≡ close_by t
closed None m none some = ap figures_out (none refl)
closed (Some tally) m none some = ap figures_out (some tally refl)

pub returns : goal.returns
returns c =
    c.into.ensures
    ∙ closed (tally_in c.args.tally) c.and_then.result (λ e. grind (arith, common_steps, c.and_then.ensures)) (λ tally e. grind (arith, common_steps, c.and_then.ensures))
