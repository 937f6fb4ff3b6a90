-- What counting the lost packets of chunks answers.
use Rattle.std.specs.Prelude.{ℕ, List, Option, Some, None}
use Rattle.refusal.specs.Answer.{unless}
use Rattle.chunk.specs.Chunks.{covers, trace_in, lost_in}

-- n packets as these chunks describe them: how many are lost, where they are covered
unfoldable pub count_of : ℕ → List ℕ → Option ℕ
count_of n cs = unless (covers n cs) None (Some (lost_in (trace_in n cs)))
