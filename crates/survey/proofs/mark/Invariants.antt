-- `survey::mark` meets its contract. The loop's invariant is `Mark`. Assumes nothing.
use mathlib.Core.Path.{◌≡◌}
use Rattle.frame.specs.Parts.{parts_in, parts_left}
use Rattle.survey.proofs.Marking.{Mark}
use Rattle.survey.proofs.mark.Given as goal

abbrev pub invariant-loop-bytes : goal.invariant-loop-bytes
invariant-loop-bytes l =
    record {
      marked : Mark l.s l.initial.out l.count l.out l.at l.i l.k;
      ahead : parts_left l.bytes-iterator ≡ parts_in l.s l.at;
    }
