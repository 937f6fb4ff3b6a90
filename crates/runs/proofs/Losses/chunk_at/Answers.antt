-- `runs::Losses::chunk_at` meets its contract: as many packets as are left, or a whole vector. Assumes nothing.
use Rattle.std.proofs.Common.{arith, drop_of_length-le}
use Rattle.runs.specs.Writing.{chunk_from}
use Rattle.runs.proofs.Losses.chunk_at.Goals as goal

pub returns-then-packets-first : goal.returns-then-packets-first
unfolding chunk_from
returns-then-packets-first c = rw (drop_of_length-le c.args.self.trace.now {i = c.args.first} (omega arith))

pub vector-requires : goal.vector-requires
vector-requires c = record { some = omega arith; is = omega arith }
