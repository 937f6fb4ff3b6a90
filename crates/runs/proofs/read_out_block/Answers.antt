-- `runs::read_out_block` meets its contract: a good type 1 is read out where there is room for its packets, and any other block has
-- no trace. Assumes nothing.
use Rattle.std.proofs.Common.{sym, refl, ◌∙◌, arith}
use Rattle.runs.proofs.ReadOut.{known, no_room, has_room, no_rle}
use Rattle.runs.proofs.read_out_block.Goals as goal

pub returns-then-out-packets : goal.returns-then-out-packets
returns-then-out-packets c = let told = no_room _ _ _ (sym c.read_bytes.ensures ∙ c.in-Rle.is) (omega arith) in record { answer = told.0; buffer = told.1 }

pub slice_bounds-read_out-count : goal.slice_bounds-read_out-count
slice_bounds-read_out-count c = let g = known _ _ (sym c.read_bytes.ensures ∙ c.in-Rle.is) in let some = g.some in omega arith

pub slice_bounds-read_out-start : goal.slice_bounds-read_out-start
slice_bounds-read_out-start c = let g = known _ _ (sym c.read_bytes.ensures ∙ c.in-Rle.is) in let some = g.some in omega arith

pub returns : goal.returns
returns c = let told = has_room _ _ _ (sym c.read_bytes.ensures ∙ c.in-Rle.is) (omega arith) _ c.packets_covered-packets.ensures _ _ _ refl c.read_out.ensures.answer c.read_out.ensures.buffer in record { answer = told.0; buffer = told.1 }

pub returns-in_default : goal.returns-in_default
returns-in_default c = let told = no_rle _ c.args.out.now _ c.read_bytes.ensures c.in_default.not-Rle in record { answer = told.0; buffer = told.1 }
