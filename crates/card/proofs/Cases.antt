-- The cases of reading a card: what an accepted card has, and that twenty digits with a wrong check are
-- refused with 12. Assumes nothing.
use Prim.Native.Nat.{ℕ, ◌%◌}
use mathlib.Core.Path.{◌≡◌}
use mathlib.Core.Bool.{true}
use mathlib.Core.List.{List}
use native.Mathlib.Omega.{arith}
use borrow.Author.Tests.{eqb-true, ne_eqb, eq-eqb}
use lib.Dec.{eqb}
use lib.ListN.{length}
use Rattle.refusal.specs.declared.Refusal.{Refusal}
use Rattle.refusal.specs.Table.{card_digits, card_check, card_field}
use Rattle.refusal.proofs.Tests.{and_left, and_right, both, passed}
use Rattle.settings.specs.declared.Settings.{Settings}
use Rattle.settings.specs.Ranges.{Limits, limits, in_range, within}
use Rattle.settings.proofs.Bounds.{Between, between, all}
use Rattle.card.specs.Decimal.{all_digits, decimal}
use Rattle.card.specs.Card.{check_min, check_max, card_length, field, settings_on, twenty_digits, check_right, read_card}
use Rattle.card.specs.Steps.{Fits}
use Rattle.card.specs.Laws.{FiveDigits}
use Rattle.std.specs.Prelude.{Ok, Err}

-- settings in range have room on a card, where the limits have
pub in_range_fits : (l : Limits) → FiveDigits l → (s : Settings) → in_range l s ≡ true → Fits s
in_range_fits l f s h = let r = all l s h in omega arith

-- today's have
pub limits_fit : FiveDigits limits
limits_fit = omega arith

pub settings_fit : (s : Settings) → in_range limits s ≡ true → Fits s
settings_fit s h = in_range_fits limits limits_fit s h

-- what twenty digits are
pub record Twenty (c : List ℕ) : Type 0 where
  pub count : length c ≡ card_length
  pub each : all_digits c ≡ true

pub twenty : (c : List ℕ) → twenty_digits c ≡ true → Twenty c
unfolding twenty_digits
twenty c h =
    record { count = eqb-true (length c) card_length (and_left (eqb (length c) card_length) (all_digits c) h); each = and_right (eqb (length c) card_length) (all_digits c) h }

pub is_twenty : (c : List ℕ) → Twenty c → twenty_digits c ≡ true
unfolding twenty_digits
is_twenty c t = both (eqb (length c) card_length) (all_digits c) (eq-eqb (length c) card_length t.count) t.each

-- what a card that is accepted under the limits has
pub record Good (l : Limits) (c : List ℕ) (s : Settings) : Type 0 where
  pub digits : Twenty c
  pub right : check_right c ≡ true
  pub leaves : decimal c % 97 ≡ 1
  pub check : Between check_min (field 18 2 c) check_max
  pub range : in_range l s ≡ true
  pub same : settings_on c ≡ s

refused : (r : Refusal) (s : Settings) → Err r ≡ Ok s → ⊥
refused r s e = let z : ◌≡◌ {A = ℕ} 0 1 = cc in omega arith

pub good : (l : Limits) (c : List ℕ) (s : Settings) → read_card l c ≡ Ok s → Good l c s
unfolding read_card check_right
good l c s h =
    let d = passed (twenty_digits c) (Err card_digits) _ (Ok s) (refused card_digits s) h in
    let k = passed (check_right c) (Err card_check) _ (Ok s) (refused card_check s) d.1 in
    let r = passed (in_range l (settings_on c)) (Err card_field) _ (Ok s) (refused card_field s) k.1 in
    let same : settings_on c ≡ s = cc in
    record {
      digits = twenty c d.0;
      right = k.0;
      leaves = eqb-true (decimal c % 97) 1 (and_left (eqb (decimal c % 97) 1) (within check_min (field 18 2 c) check_max) k.0);
      check = between check_min (field 18 2 c) check_max (and_right (eqb (decimal c % 97) 1) (within check_min (field 18 2 c) check_max) k.0);
      range = rw (← same) r.0;
      same = same;
    }

-- twenty digits that do not leave 1 are refused with 12
pub wrong_check : (l : Limits) (c : List ℕ) → Twenty c → (decimal c % 97 ≡ 1 → ⊥) → read_card l c ≡ Err card_check
unfolding read_card check_right
wrong_check l c t h = rw (is_twenty c t, ne_eqb (decimal c % 97) 1 h)
