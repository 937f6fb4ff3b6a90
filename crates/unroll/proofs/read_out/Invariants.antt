-- `unroll::read_out` meets its contract. The loop's invariant is `ReadingOut`. Assumes nothing.
use mathlib.Core.Path.{◌≡◌}
use Rattle.unroll.proofs.ReadingOut.{ReadingOut}
use Rattle.unroll.proofs.read_out.Given as goal

abbrev pub invariant-loop-pair : goal.invariant-loop-pair
invariant-loop-pair l = (l.pair-iterator.size ≡ 2) × ReadingOut l.chunks l.initial.out l.out l.pair-iterator.rest.now l.end l.at
