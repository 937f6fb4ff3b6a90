-- `sources::finish` meets its contract. The loop's invariant is `Standing`, and that the walk stands at its place. Assumes nothing.
use mathlib.Core.Path.{◌≡◌}
use lib.ListN.{length}
use Rattle.frame.specs.Parts.{parts_in, parts_left}
use Rattle.sources.specs.Steps.{Standing}
use Rattle.sources.proofs.finish.Given as goal

abbrev pub invariant-loop-bytes : goal.invariant-loop-bytes
invariant-loop-bytes l =
    record {
      standing : Standing l.s l.table l.place.at l.place.count;
      ahead : parts_left l.bytes-iterator ≡ parts_in l.s l.place.at;
      long : length l.table ≡ length l.initial.table;
    }
