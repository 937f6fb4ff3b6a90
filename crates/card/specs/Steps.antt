-- What the steps of reading and writing a card compute, for the contracts of the private functions.
use Rattle.std.specs.Prelude.{ℕ, ◌+◌, ◌*◌, ◌^◌, ◌<◌, List, Option, Some, None}
use Rattle.refusal.specs.Answer.{unless}
use Rattle.settings.specs.declared.Settings.{Settings}
use Rattle.card.specs.Decimal.{all_digits, decimal}

-- bytes as a decimal number
unfoldable pub number_in : List ℕ → Option ℕ
number_in s = unless (all_digits s) None (Some (decimal s))

-- settings that have room in their digits
pub record Fits (s : Settings) : Type 0 where
  pub gmin : s.gmin < 10 ^ 3
  pub batch : s.batch < 10 ^ 5
  pub threshold : s.threshold < 10 ^ 5
  pub spacing : s.spacing < 10 ^ 5

-- the digits before the check, as one number
abbrev pub number_of : Settings → ℕ
number_of s = ((s.gmin * 10 ^ 5 + s.batch) * 10 ^ 5 + s.threshold) * 10 ^ 5 + s.spacing
