-- `ffi_tally::nuvaskoe_tally_open` meets its contract: the library's call, put into the struct. Assumes nothing.
use Prim.Native.Nat.{ℕ}
use mathlib.Core.Path.{◌≡◌, refl, ap, ◌∙◌}
use Rattle.std.proofs.Common.{arith}
use Rattle.std.proofs.lemmas.Grind.{common_steps}
use Rattle.std.specs.Prelude.{Result, Err, Option, Some, None}
use Rattle.refusal.specs.Table.{setting}
use Rattle.refusal.specs.declared.Refusal.{Refusal}
use Rattle.trace.specs.Events.{event_in}
use Rattle.trace.specs.declared.Event.{Event}
use Rattle.tally.specs.declared.Tally.{Tally}
use Rattle.tally.specs.Tally.{open_of}
use Rattle.ffi_tally.specs.Answers.{opened_out}
use Rattle.ffi_tally.specs.Calls.{open_by}
use Rattle.ffi_tally.proofs.nuvaskoe_tally_open.Goals as goal

opened : (gmin spacing : ℕ) (e : Option Event) (o : Result Tally Refusal) → (e ≡ None → o ≡ Err setting) →
    ((kind : Event) → e ≡ Some kind → o ≡ open_of gmin spacing kind) → opened_out o ≡ open_by gmin spacing e
opened gmin spacing None o none some = ap opened_out (none refl)
opened gmin spacing (Some kind) o none some = ap opened_out (some kind refl)

pub returns : goal.returns
returns c =
    c.into.ensures
    ∙ opened _ _ (event_in c.args.event) c.and_then.result (λ e. grind (arith, common_steps, c.and_then.ensures)) (λ kind e. grind (arith, common_steps, c.and_then.ensures))
