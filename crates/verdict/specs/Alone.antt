-- The verdict of a block in a packet that measures nothing, from its own bytes: for the contracts of the private
-- functions, which make no struct.
use Rattle.std.specs.Prelude.{ℕ, List, eqb, length}
use Rattle.refusal.specs.Answer.{unless}
use Rattle.wire.specs.BigEndian.{u16_at}
use Rattle.block.specs.Types.{bad_size, bad_flag, bad_rate, unmeasured}
use Rattle.block.specs.Reading.{flag_good, rates_good}

abbrev pub size_verdict : ℕ → ℕ → ℕ
size_verdict size wanted = unless (eqb size wanted) bad_size 0

abbrev pub summary_verdict : List ℕ → ℕ → ℕ → ℕ
summary_verdict bytes wanted flag =
    unless (eqb (length bytes) wanted) bad_size
    (unless (flag_good flag) bad_flag
    (unless (rates_good (u16_at bytes 8) (u16_at bytes 10)) bad_rate
    unmeasured))
