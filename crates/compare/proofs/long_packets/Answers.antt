-- `compare::long_packets` meets its contract: no packet has more sources than its table has room for. Assumes nothing.
use native.Mathlib.Omega.{arith}
use Rattle.frame.proofs.Numbering.{packet_short_lem}
use Rattle.compare.proofs.long_packets.Goals as goal

pub with_tables-requires : goal.with_tables-requires
with_tables-requires c =
    let first = c.type_inv.first in
    let second = c.type_inv.second in (
      λ sender es p. let short = packet_short_lem _ sender es p (omega (arith, first 2)) (omega (arith, first 3)) in (short, short),
      λ sender es p. let short = packet_short_lem _ sender es p (omega (arith, second 2)) (omega (arith, second 3)) in (short, short),
    )
