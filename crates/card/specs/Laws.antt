-- What makes a card worth having, as statements about the definitions that the two calls promise. Each is
-- proved for all limits and all cards at once in proofs/.
use Rattle.std.specs.Prelude.{ℕ, ◌^◌, ◌<◌, ◌≡◌, true, false, List, get_or, set, Ok, Err}
use Rattle.refusal.specs.Table.{card_check, card_field}
use Rattle.settings.specs.Ranges.{Limits, Wider, in_range}
use Rattle.settings.specs.declared.Settings.{Settings}
use Rattle.card.specs.Decimal.{is_digit}
use Rattle.card.specs.Card.{card_length, read_card, card_of}

-- limits that have room in a card's five digits, as today's have
pub record FiveDigits (l : Limits) : Type 0 where
  pub batch : l.batch < 10 ^ 5
  pub threshold : l.threshold < 10 ^ 5

-- Reading what was written gives the settings.
abbrev pub ReadWritten : Type 0
ReadWritten = (l : Limits) → FiveDigits l → (s : Settings) → in_range l s ≡ true → read_card l (card_of s) ≡ Ok s

-- Writing what was read gives the same twenty digits: each setting has one card.
abbrev pub WrittenRead : Type 0
WrittenRead = (l : Limits) (c : List ℕ) (s : Settings) → read_card l c ≡ Ok s → card_of s ≡ c

-- An accepted card with one digit changed to another digit is refused with 12.
abbrev pub ChangedRefused : Type 0
ChangedRefused =
    (l : Limits) (c : List ℕ) (s : Settings) → read_card l c ≡ Ok s →
    (i d : ℕ) → i < card_length → is_digit d ≡ true → (d ≡ get_or c i 0 → ⊥) →
    read_card l (set c i d) ≡ Err card_check

-- the list with the elements at i and j exchanged
abbrev pub exchange : List ℕ → ℕ → ℕ → List ℕ
exchange c i j = set (set c i (get_or c j 0)) j (get_or c i 0)

-- An accepted card with two unequal digits exchanged, wherever they stand, is refused with 12.
abbrev pub ExchangedRefused : Type 0
ExchangedRefused =
    (l : Limits) (c : List ℕ) (s : Settings) → read_card l c ≡ Ok s →
    (i j : ℕ) → i < card_length → j < card_length → (get_or c i 0 ≡ get_or c j 0 → ⊥) →
    read_card l (exchange c i j) ≡ Err card_check

-- For a later edition with higher limits: every old card reads the same under wider limits.
abbrev pub WiderSame : Type 0
WiderSame =
    (l l' : Limits) → Wider l l' → (c : List ℕ) (s : Settings) → read_card l c ≡ Ok s → read_card l' c ≡ Ok s

-- For a card of that edition whose settings the earlier limits do not allow: a set with the narrower limits
-- refuses such a card with 13.
abbrev pub Narrower13 : Type 0
Narrower13 =
    (l l' : Limits) (c : List ℕ) (s : Settings) → read_card l' c ≡ Ok s → in_range l s ≡ false →
    read_card l c ≡ Err card_field
