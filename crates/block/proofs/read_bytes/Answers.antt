-- `block::read_bytes` meets its contract: each return is a line of the definition. Assumes nothing.
use Rattle.std.proofs.Common.{◌-◌, length, get_or, drop, ap, ◌∙◌, arith, length-drop, take_all, le-leb}
use borrow.Author.Tests.{lt-leb}
use Rattle.block.specs.Reading.{read_block, read_bytes}
use Rattle.block.proofs.read_bytes.Goals as goal

pub returns-then-bytes-lt4 : goal.returns-then-bytes-lt4
unfolding read_bytes
returns-then-bytes-lt4 c = rw (lt-leb 4 _ c.if-bytes-lt4.true)

pub returns : goal.returns
unfolding read_bytes
returns c =
    let bytes = c.args.bytes.now in
    rw (le-leb 4 _ c.if-bytes-lt4.false)
    (c.read.ensures ∙ ap (read_block (get_or bytes 0 0) (get_or bytes 1 0)) (take_all (length bytes - 4) (drop 4 bytes) (rw (length-drop 4 bytes) (omega arith))))
