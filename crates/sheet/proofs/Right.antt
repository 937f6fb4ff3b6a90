-- `SheetRight` of specs/Sheet.antt, by computation: every definition that the examples touch is opened. Assumes nothing.
use mathlib.Core.Path.{refl}
use Rattle.settings.specs.Ranges.{burst_in_range, batch_in_range, in_range}
use Rattle.wire.specs.BigEndian.{be16, be32, u16_at}
use Rattle.block.specs.Layouts.{measurement_in, loss_in, discard_in, effective_in, streams_in}
use Rattle.block.specs.Reading.{rate_good, flag_good, summary_read, read_measurement, read_loss, read_discard, read_effective, read_streams, read_block}
use Rattle.frame.specs.Frames.{entry_at, frames_from}
use Rattle.frame.specs.Packet.{header_of, packet_in, numbered}
use Rattle.packet.specs.Blocks.{read_alone, measured}
use Rattle.trace.specs.Trace.{counts_as, packets_within, first_above, judged_within}
use Rattle.trace.specs.Sum.{sum, bit}
use Rattle.bursts.specs.Groups.{events_from, first_of, last_of, meet, join, groups, bursts_of, duration, total}
use Rattle.bursts.specs.Sums.{sums_over}
use Rattle.bursts.specs.Figures.{rate_of, ranged, mean_of, variance_of, figures_of}
use Rattle.figures.specs.Figures.{figures_in}
use Rattle.batch.specs.Batches.{over_count, first_from, first_over}
use Rattle.batch.specs.Judging.{judged_for}
use Rattle.batch.specs.Loss.{loss_of, loss_answer}
use Rattle.resend.specs.Greedy.{recent, plan_of}
use Rattle.resend.specs.Answer.{plan_answer, buffer_after}
use Rattle.card.specs.Decimal.{all_digits, decimal, digits}
use Rattle.card.specs.Card.{field, settings_on, twenty_digits, check_right, read_card, check_of}
use Rattle.sheet.specs.Sheet.{SheetRight}

pub sheet_right : SheetRight
unfolding burst_in_range batch_in_range in_range be16 be32 u16_at measurement_in loss_in discard_in effective_in streams_in rate_good flag_good summary_read read_measurement read_loss read_discard read_effective read_streams read_block entry_at frames_from header_of packet_in numbered read_alone measured counts_as packets_within first_above judged_within sum bit events_from first_of last_of meet join groups bursts_of duration total sums_over rate_of ranged mean_of variance_of figures_of figures_in over_count first_from first_over judged_for loss_of loss_answer recent plan_of plan_answer buffer_after all_digits decimal digits field settings_on twenty_digits check_right read_card check_of
sheet_right = refl
