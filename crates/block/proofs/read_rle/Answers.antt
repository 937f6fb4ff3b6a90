-- `block::read_rle` meets its contract: a reason for each test that fails, in the order of the definition, and behind the last the
-- block, whose lost are those that were counted. Assumes nothing.
use Rattle.std.proofs.Common.{sym, ◌∙◌, arith}
use Rattle.block.proofs.Rle.{interval, counted_behind, fits_half, short, ragged, thinned, too_long, uncovered, counted}
use Rattle.block.proofs.read_rle.Goals as goal

pub returns-then-body-lt-RLE_HEAD : goal.returns-then-body-lt-RLE_HEAD
returns-then-body-lt-RLE_HEAD c = short _ _ (omega arith)

pub returns-then-body-ne0 : goal.returns-then-body-ne0
returns-then-body-ne0 c = ragged _ _ (omega arith) c.if-body-ne0.true

pub returns-then-specific-ne0 : goal.returns-then-specific-ne0
returns-then-specific-ne0 c = thinned _ _ (omega arith) (omega arith) c.if-specific-ne0.true

pub returns-then-interval-gt-INTERVAL_MAX : goal.returns-then-interval-gt-INTERVAL_MAX
returns-then-interval-gt-INTERVAL_MAX c =
    let n = interval _ (omega arith) _ _ _ c.u16_at-begin.ensures c.u16_at-end.ensures c.packets_covered-interval.ensures in
    too_long _ _ (omega arith) (omega arith) (omega arith) (omega arith)

pub overflow_cast-result : goal.overflow_cast-result
overflow_cast-result c =
    let few = fits_half _ _ _ (omega arith) (sym c.count.ensures ∙ c.in-Some.is) in
    omega arith

pub returns : goal.returns
returns c =
    let n = interval _ (omega arith) _ _ _ c.u16_at-begin.ensures c.u16_at-end.ensures c.packets_covered-interval.ensures in
    counted _ _ (omega arith) (omega arith) (omega arith) (omega arith) _ _ _ _ c.u32_at.ensures c.u16_at-begin.ensures c.u16_at-end.ensures
    (sym (counted_behind _ _ _ n c.count.ensures) ∙ c.in-Some.is)

pub returns-in_default : goal.returns-in_default
returns-in_default c =
    let n = interval _ (omega arith) _ _ _ c.u16_at-begin.ensures c.u16_at-end.ensures c.packets_covered-interval.ensures in
    uncovered _ _ (omega arith) (omega arith) (omega arith) (omega arith)
    (sym (counted_behind _ _ _ n c.count.ensures) ∙ c.in_default.is)
