-- `verdict::has` meets its contract: by quarters, and then the numbers that are left. Assumes nothing.
use native.Mathlib.Omega.{arith}
use Rattle.verdict.proofs.Searching.{search_end, none_held}
use Rattle.verdict.proofs.has.Goals as goal

pub returns-then-is_empty : goal.returns-then-is_empty
returns-then-is_empty c sorted = none_held _ _ (grind arith)

pub returns : goal.returns
returns c sorted = let q = c.quarter-part in search_end _ _ q.result.low q.result.size q.ensures.0 q.ensures.1 sorted
