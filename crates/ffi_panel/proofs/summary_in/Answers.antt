-- `ffi_panel::summary_in` meets its contract: what no block can hold is no flag and no rate. Assumes nothing.
use mathlib.Core.Path.{sym}
use native.Mathlib.Omega.{arith}
use Rattle.ffi_panel.proofs.Panels.{wide}
use Rattle.ffi_panel.proofs.summary_in.Goals as goal

pub returns-in_default : goal.returns-in_default
returns-in_default c = sym (wide _ _ _ (λ fits. omega (arith, c.in_default.ensures)))

pub returns-in_default-try_from : goal.returns-in_default-try_from
returns-in_default-try_from c = sym (wide _ _ _ (λ fits. omega (arith, c.in_default-try_from.ensures)))

pub returns-in_default-try_from-2 : goal.returns-in_default-try_from-2
returns-in_default-try_from-2 c = sym (wide _ _ _ (λ fits. omega (arith, c.in_default-try_from-2.ensures)))
