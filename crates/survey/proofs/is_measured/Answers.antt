-- `survey::is_measured` meets its contract: a search in the table of the packet's sources. Assumes nothing.
use Prim.Native.Nat.{ℕ, ◌%◌}
use mathlib.Core.Path.{ap, ◌∙◌}
use borrow.Author.Tests.{eq-eqb}
use Rattle.block.specs.Types.{unmeasured}
use Rattle.packet.specs.Blocks.{measured}
use Rattle.packet.specs.Steps.{blocks_of}
use Rattle.survey.specs.Packed.{verdicts}
use Rattle.survey.proofs.is_measured.Goals as goal

pub returns : goal.returns
returns c =
    rw (eq-eqb (c.args.packed % verdicts) unmeasured c.if-packed.false)
    (c.has.ensures c.requires.sorted ∙ c.requires.same c.u32_at.result ∙ ap (λ (source : ℕ). measured source (blocks_of c.args.s.now)) c.u32_at.ensures)
