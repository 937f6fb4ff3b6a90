-- `encode::write_words` meets its contract. The loop's invariant is `Stored`. Assumes nothing.
use native.Mathlib.Omega.{arith}
use Rattle.encode.proofs.Storing.{no_room, stored_start, stored_more}
use Rattle.encode.proofs.write_words.Goals as goal

pub returns-then-out-size : goal.returns-then-out-size
returns-then-out-size c = no_room _ _ _ (grind arith)

pub loop-i-init : goal.loop-i-init
loop-i-init c = stored_start _ _ _ _ (omega arith) (omega arith)

pub loop-i-preserved : goal.loop-i-preserved
loop-i-preserved c = stored_more _ _ _ _ _ _ c.loop-i.invariant _ (omega arith) c.put_u32.ensures
