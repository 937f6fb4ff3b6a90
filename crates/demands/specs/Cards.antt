-- The settings card: it is read as it was written, each setting has one card, and a slip of the pen is seen.
use Rattle.std.specs.Prelude.{ℕ, ◌<◌, ◌≡◌, true, List, get_or, set, Ok, Err}
use Rattle.refusal.specs.Table.{card_check}
use Rattle.settings.specs.Ranges.{limits, in_range}
use Rattle.settings.specs.declared.Settings.{Settings}
use Rattle.card.specs.Decimal.{is_digit}
use Rattle.card.specs.Card.{card_length, read_card, card_of}
use Rattle.card.specs.Laws.{exchange}

pub record CardsGuarded : Type 0 where
  pub read_written : (s : Settings) → in_range limits s ≡ true → read_card limits (card_of s) ≡ Ok s
  pub one_card : (c : List ℕ) (s : Settings) → read_card limits c ≡ Ok s → card_of s ≡ c
  -- refusal 12 for one digit that is another
  pub changed : (c : List ℕ) (s : Settings) → read_card limits c ≡ Ok s →
      (i d : ℕ) → i < card_length → is_digit d ≡ true → (d ≡ get_or c i 0 → ⊥) → read_card limits (set c i d) ≡ Err card_check
  -- and for two unequal digits exchanged, wherever they stand
  pub exchanged : (c : List ℕ) (s : Settings) → read_card limits c ≡ Ok s →
      (i j : ℕ) → i < card_length → j < card_length → (get_or c i 0 ≡ get_or c j 0 → ⊥) → read_card limits (exchange c i j) ≡ Err card_check
