-- `runs::Losses::write_chunks` meets its contract. The loop's invariant is `Stored`. Assumes nothing.
use Rattle.encode.proofs.Storing.{Stored}
use Rattle.runs.specs.Writing.{words_from}
use Rattle.runs.proofs.Losses.write_chunks.Given as goal

abbrev pub invariant-loop-i : goal.invariant-loop-i
invariant-loop-i l = Stored l.initial.out l.at l.words (words_from l.words l.self.trace.now) l.out l.i
