-- `runs::write` meets its contract: three words, then the chunks. Assumes nothing.
use Rattle.std.proofs.Common.{refl, arith}
use Rattle.runs.proofs.Storing.{rle_long, rle_stored}
use Rattle.runs.proofs.write.Goals as goal

pub write_chunks-requires : goal.write_chunks-requires
write_chunks-requires c =
    let most = c.requires.1.most in
    let room = c.requires.0 in
    let long = rle_long c.args.source c.args.begin c.args.trace.now in
    (omega arith, omega arith)

pub returns : goal.returns
returns c = rle_stored _ _ _ _ _ _ _ _ _ _ _ _ _ c.requires.0 c.word_count-words.ensures c.wrapping_add_u16-end.ensures.value refl c.halves.ensures c.put_u32.ensures c.put_u32-2.ensures c.put_u32-3.ensures c.write_chunks.ensures
