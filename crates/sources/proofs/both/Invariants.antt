-- `sources::both` meets its contract. The loop's invariant is a `Standing` for each packet, and that its walk stands at its
-- place. Assumes nothing.
use mathlib.Core.Path.{◌≡◌}
use Rattle.std.specs.Iterator.Adapters.{zip_first, zip_second}
use Rattle.frame.specs.Parts.{parts_in, parts_left}
use Rattle.sources.specs.Steps.{Standing}
use Rattle.sources.proofs.both.Given as goal

abbrev pub invariant-loop-x : goal.invariant-loop-x
invariant-loop-x l =
    record {
      first_stands : Standing l.first l.table l.one.at l.one.count;
      second_stands : Standing l.second l.other l.two.at l.two.count;
      first_ahead : parts_left (zip_first l.x-iterator) ≡ parts_in l.first l.one.at;
      second_ahead : parts_left (zip_second l.x-iterator) ≡ parts_in l.second l.two.at;
      can : (goal.iterator-loop-x).can_next l.x-iterator;
      finite : (goal.iterator-loop-x).is_finite l.x-iterator;
    }
