-- `compare::put_block` meets its contract: each return is a case of Pairing.antt. Assumes nothing.
use native.Mathlib.Omega.{arith}
use Rattle.compare.proofs.Pairing.{none_second, none_first, in_both}
use Rattle.compare.proofs.put_block.Goals as goal

pub returns-then-is_empty : goal.returns-then-is_empty
returns-then-is_empty c =
    let a = c.args in
    rw (none_second a.k a.x.now a.y.now a.sources.first.now a.sources.second.now (grind arith)) c.put_whole.ensures

pub returns-then-is_empty-2 : goal.returns-then-is_empty-2
returns-then-is_empty-2 c =
    let a = c.args in
    rw (none_first a.k a.x.now a.y.now a.sources.first.now a.sources.second.now (grind arith) (grind arith)) c.put_whole-then-is_empty-2.ensures

pub put_pair-requires : goal.put_pair-requires
put_pair-requires c =
    let p = c.requires in
    (p.first (grind arith), p.second (grind arith))

pub returns : goal.returns
returns c =
    let a = c.args in
    rw (in_both a.k a.x.now a.y.now a.sources.first.now a.sources.second.now (grind arith) (grind arith)) c.put_pair.ensures
