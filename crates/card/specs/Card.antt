-- The settings card: document 01, "The settings card". "Twenty ASCII digits: Gmin (3), B (5), T (5),
-- spacing (5), check (2). The check is ISO/IEC 7064 MOD 97-10: the twenty digits as one number leave 1
-- when divided by 97. Check digits 00, 01 and 99 are refused with 12, so each setting has one card."
use Rattle.std.specs.Prelude.{ℕ, ◌-◌, ◌*◌, ◌%◌, Bool, ◌&&◌, List, ◌++◌, eqb, leb, length, take, drop, Result, Ok, Err}
use Rattle.refusal.specs.Table.{card_digits, card_check, card_field, setting, buffer_short}
use Rattle.refusal.specs.Answer.{unless}
use Rattle.settings.specs.Ranges.{Limits, within, in_range}
use Rattle.settings.specs.declared.Settings.{Settings}
use Rattle.card.specs.Decimal.{all_digits, decimal, digits}
use Rattle.refusal.specs.Answer.{Written}
use Rattle.refusal.specs.declared.Refusal.{Refusal}

abbrev pub card_length : ℕ
card_length = 20

-- the number that stands in `width` digits from position `at`
unfoldable pub field : ℕ → ℕ → List ℕ → ℕ
field at width s = decimal (take width (drop at s))

unfoldable pub settings_on : List ℕ → Settings
settings_on s =
    record { gmin = field 0 3 s; batch = field 3 5 s; threshold = field 8 5 s; spacing = field 13 5 s }

unfoldable pub twenty_digits : List ℕ → Bool
twenty_digits s = eqb (length s) card_length && all_digits s

-- the check digits that are taken: all but 00, 01 and 99
abbrev pub check_min : ℕ
check_min = 2

abbrev pub check_max : ℕ
check_max = 98

unfoldable pub check_right : List ℕ → Bool
check_right s = eqb (decimal s % 97) 1 && within check_min (field 18 2 s) check_max

-- Reading, with the order line "Cards: 11, 12, 13".
unfoldable pub read_card : Limits → List ℕ → Result Settings Refusal
read_card l s =
    unless (twenty_digits s) (Err card_digits)
    (unless (check_right s) (Err card_check)
    (unless (in_range l (settings_on s)) (Err card_field)
    (Ok (settings_on s))))

-- the digits before the check
unfoldable pub payload : Settings → List ℕ
payload s = digits 3 s.gmin ++ digits 5 s.batch ++ digits 5 s.threshold ++ digits 5 s.spacing

-- the check digits with which the number p and these two digits leave 1
unfoldable pub check_of : ℕ → ℕ
check_of p = 98 - p * 100 % 97

unfoldable pub card_of : Settings → List ℕ
card_of s = payload s ++ digits 2 (check_of (decimal (payload s)))

-- Writing, with the order line "writing a card: 15, then 8".
unfoldable pub write_card : Limits → Settings → List ℕ → Written
write_card l s buffer =
    unless (in_range l s) (Err setting)
    (unless (leb card_length (length buffer)) (Err buffer_short)
    (Ok card_length))
