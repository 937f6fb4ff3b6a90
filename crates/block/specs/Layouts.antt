-- The fields of the five kinds by their position in the body, the words after the block's first: document
-- 01's table; RFC 6776, section 4; RFC 7004, sections 3.1 and 3.2; documents 002 and 004. 16-bit numbers are
-- held as they stand; reserved bits are not read. And of a type 1: RFC 3611, section 4.1.
use Rattle.std.specs.Prelude.{ℕ, ◌+◌, ◌-◌, ◌/◌, ◌%◌, List, drop}
use Rattle.wire.specs.BigEndian.{be16, be32}
use Rattle.chunk.specs.Chunks.{trace_in, lost_in, chunks_in}
use Rattle.block.specs.declared.Measurement.{Measurement}
use Rattle.block.specs.declared.LossSummary.{LossSummary}
use Rattle.block.specs.declared.DiscardSummary.{DiscardSummary}
use Rattle.block.specs.declared.EffectiveSummary.{EffectiveSummary}
use Rattle.block.specs.declared.StreamCounts.{StreamCounts}
use Rattle.block.specs.declared.LossRle.{LossRle}
use Rattle.block.specs.Types.{rle_head}

-- 14: source; 16 reserved bits and first sequence number; extended first; extended last; interval duration;
-- cumulative seconds; cumulative fraction
unfoldable pub measurement_in : List ℕ → Measurement
measurement_in body =
    record {
      source = be32 body 0;
      first = be16 body 6;
      extended_first = be32 body 8;
      extended_last = be32 body 12;
      interval = be32 body 16;
      seconds = be32 body 20;
      fraction = be32 body 24;
    }

-- the interval flag: the top two bits of the type-specific byte
abbrev pub flag_in : ℕ → ℕ
flag_in specific = specific / 64

-- 17: source; burst rate, gap rate; burst mean, burst variance
unfoldable pub loss_in : ℕ → List ℕ → LossSummary
loss_in specific body =
    record {
      flag = flag_in specific;
      source = be32 body 0;
      burst_rate = be16 body 4;
      gap_rate = be16 body 6;
      burst_mean = be16 body 8;
      burst_variance = be16 body 10;
    }

-- 18: source; burst rate, gap rate
unfoldable pub discard_in : ℕ → List ℕ → DiscardSummary
discard_in specific body =
    record { flag = flag_in specific; source = be32 body 0; burst_rate = be16 body 4; gap_rate = be16 body 6 }

-- 240: source; effective loss index, 16 reserved bits
unfoldable pub effective_in : List ℕ → EffectiveSummary
effective_in body = record { source = be32 body 0; index = be16 body 4 }

-- 241: source; begin, end; streams; eight counts in document 004's order
unfoldable pub streams_in : List ℕ → StreamCounts
streams_in body =
    record {
      source = be32 body 0;
      begin = be16 body 4;
      end = be16 body 6;
      streams = be32 body 8;
      sync_losses = be32 body 12;
      sync_byte_errors = be32 body 16;
      continuity_errors = be32 body 20;
      transport_errors = be32 body 24;
      pcr_errors = be32 body 28;
      pcr_repetition_errors = be32 body 32;
      pcr_discontinuity_errors = be32 body 36;
      pts_errors = be32 body 40;
    }

-- "In 241 the packets covered are end minus begin modulo 65,536"; and the interval of a type 1
abbrev pub covered : ℕ → ℕ → ℕ
covered begin end = (end + 65536 - begin) % 65536

-- the thinning of a type 1: the low four bits of the type-specific byte
abbrev pub thinning_in : ℕ → ℕ
thinning_in specific = specific % 16

-- 1: source; begin, end; then chunks. "The interval is end minus begin modulo 65,536", and the trace its packets as the
-- chunks describe them.
abbrev pub interval_in : List ℕ → ℕ
interval_in body = covered (be16 body 4) (be16 body 6)

abbrev pub chunks_of : List ℕ → List ℕ
chunks_of body = chunks_in (drop rle_head body)

abbrev pub trace_of : List ℕ → List ℕ
trace_of body = trace_in (interval_in body) (chunks_of body)

unfoldable pub rle_in : List ℕ → LossRle
rle_in body =
    record { source = be32 body 0; begin = be16 body 4; end = be16 body 6; lost = lost_in (trace_of body) }
