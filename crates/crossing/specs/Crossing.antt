-- Batches behind a batch that holds h losses, one packet further on at each step: bit j of `entering` is the packet that enters at
-- step j, bit j of `leaving` the one that leaves, as with the running count of document 02, ticket 2.
use Rattle.std.specs.Prelude.{ℕ, suc, ◌+◌, Bool, ltb}
use Rattle.trace.specs.Sum.{count}
use Rattle.packed.specs.Words.{one_at}

-- after step j the batch holds more than t: h and what has entered are more than t and what has left
unfoldable pub over_after : ℕ → ℕ → ℕ → ℕ → ℕ → Bool
over_after t h entering leaving j = ltb (t + count (one_at leaving) 0 (suc j)) (h + count (one_at entering) 0 (suc j))

-- how many of n batches in a row are over
abbrev pub over_among : ℕ → ℕ → ℕ → ℕ → ℕ → ℕ
over_among t h entering leaving n = count (over_after t h entering leaving) 0 n
