-- What the boundary's struct holds for each answer of reading a card: the paper's number and place beside no settings
-- where the call refused, 0 and 0 beside the settings where it answered.
use Rattle.settings.specs.declared.Settings.{Settings}
use Rattle.ffi_answer.specs.Answers.{none, refusal_out}
use Rattle.ffi_card.specs.declared.Card.{Card}
use Rattle.std.specs.Prelude.{Result, Ok, Err}
use Rattle.refusal.specs.declared.Refusal.{Refusal}

abbrev pub no_settings : Settings
no_settings = record { gmin = 0; batch = 0; threshold = 0; spacing = 0 }

abbrev pub card_out : Result Settings Refusal → Card
card_out (Ok s) = record { refusal = none; settings = s }
card_out (Err r) = record { refusal = refusal_out r; settings = no_settings }
