-- `ffi_summary::nuvaskoe_tally_block` meets its contract: the library's call, put into the struct. Assumes nothing.
use Prim.Native.Nat.{ℕ}
use mathlib.Core.Path.{◌≡◌, refl, ap, ◌∙◌}
use Rattle.std.proofs.Common.{arith}
use Rattle.std.proofs.lemmas.Grind.{common_steps}
use Rattle.std.specs.Prelude.{Result, Err, Option, Some, None}
use Rattle.refusal.specs.Table.{setting}
use Rattle.refusal.specs.declared.Refusal.{Refusal}
use Rattle.tally.specs.declared.Tally.{Tally}
use Rattle.tally.specs.Tally.{close_of}
use Rattle.figures.specs.Figures.{summary_of}
use Rattle.figures.specs.declared.Summary.{Summary}
use Rattle.ffi_tally.specs.Answers.{tally_in}
use Rattle.ffi_summary.specs.Answers.{summary_out, block_by}
use Rattle.ffi_summary.proofs.nuvaskoe_tally_block.Goals as goal

made : (source flag : ℕ) (t : Option Tally) (s : Result Summary Refusal) → (t ≡ None → s ≡ Err setting) →
    ((tally : Tally) → t ≡ Some tally → s ≡ summary_of tally.event source flag (close_of tally)) → summary_out s ≡ block_by source flag t
made source flag None s none some = ap summary_out (none refl)
made source flag (Some tally) s none some = ap summary_out (some tally refl)

pub returns : goal.returns
returns c =
    c.into.ensures
    ∙ made _ _ (tally_in c.args.tally) c.and_then.result (λ e. grind (arith, common_steps, c.and_then.ensures)) (λ tally e. grind (arith, common_steps, c.and_then.ensures))
