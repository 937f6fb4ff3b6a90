-- `encode::write_words` meets its contract. The loop's invariant is `Stored`. Assumes nothing.
use lib.ListN.{length}
use Rattle.encode.proofs.Storing.{Stored}
use Rattle.encode.proofs.write_words.Given as goal

abbrev pub invariant-loop-i : goal.invariant-loop-i
invariant-loop-i l = Stored l.initial.out l.at (length l.words) l.words l.out l.i
