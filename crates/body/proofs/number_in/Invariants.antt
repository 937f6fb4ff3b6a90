-- The loop of `body::number_in`: what is left of the text goes on from the number so far. Assumes nothing.
use Rattle.std.proofs.Common.{◌≡◌, ◌^◌, ◌<◌, drop}
use Rattle.body.specs.Number.{number_from, number_of}
use Rattle.body.proofs.number_in.Given as goal

abbrev pub invariant-loop-c : goal.invariant-loop-c
invariant-loop-c l = (l.n < 10 ^ l.c-index) × (number_of l.text ≡ number_from l.n (drop l.c-index l.text))
