-- Reading and writing cards are inverse to each other: `ReadWritten` and `WrittenRead` of specs/Laws.antt.
-- Assumes nothing.
use Prim.Native.Nat.{ℕ, ◌+◌, ◌*◌, ◌%◌, ◌^◌, ◌<◌}
use mathlib.Core.Path.{◌≡◌, refl, ◌∙◌}
use mathlib.Core.Bool.{true}
use mathlib.Core.List.{List, ◌++◌}
use native.Mathlib.Omega.{arith}
use native.Mathlib.Nat.{mod-eq_of_lt}
use borrow.Author.Tests.{eq-eqb, le-leb}
use lib.Dec.{eqb, leb}
use lib.ListN.{length, take}
use lib.Seq.{take-add, take_all}
use Rattle.refusal.proofs.Tests.{both}
use Rattle.settings.specs.declared.Settings.{Settings}
use Rattle.settings.specs.Ranges.{within}
use Rattle.card.specs.Decimal.{all_digits, decimal, digits}
use Rattle.card.specs.Card.{check_min, check_max, card_length, field, settings_on, check_right, read_card, payload, check_of, card_of}
use Rattle.card.specs.Steps.{Fits}
use Rattle.card.specs.Laws.{ReadWritten, WrittenRead}
use Rattle.card.proofs.Decimal.{all_append, all_digits_lem, decimal_append, decimal_digits, length_digits}
use Rattle.card.proofs.Check.{check_range, check_right_lem, check_only}
use Rattle.card.proofs.Fields.{field_digits, up_to}
use Rattle.card.proofs.Cases.{Twenty, good, is_twenty, in_range_fits}

pub settings_eq : (a b : Settings) → a.gmin ≡ b.gmin → a.batch ≡ b.batch → a.threshold ≡ b.threshold → a.spacing ≡ b.spacing → a ≡ b
settings_eq a b g e t s = λ i. record { gmin = g i; batch = e i; threshold = t i; spacing = s i }

-- digits of a number that fits write that number
back : (w n : ℕ) → n < 10 ^ w → decimal (digits w n) ≡ n
back w n h = decimal_digits w n ∙ mod-eq_of_lt h

settings_back : (s : Settings) → Fits s → settings_on (card_of s) ≡ s
unfolding settings_on card_of payload field digits
settings_back s f =
    settings_eq (settings_on (card_of s)) s
    (back 3 s.gmin f.gmin) (back 5 s.batch f.batch) (back 5 s.threshold f.threshold) (back 5 s.spacing f.spacing)

check_field : (s : Settings) → field 18 2 (card_of s) ≡ decimal (digits 2 (check_of (decimal (payload s))))
unfolding card_of payload field digits
check_field s = refl

card_length_lem : (s : Settings) → length (card_of s) ≡ card_length
unfolding card_of payload digits
card_length_lem s = refl

check_back : (s : Settings) → field 18 2 (card_of s) ≡ check_of (decimal (payload s))
check_back s =
    let r = check_range (decimal (payload s)) in
    check_field s ∙ back 2 (check_of (decimal (payload s))) (omega arith)

all_both : (s t : List ℕ) → all_digits s ≡ true → all_digits t ≡ true → all_digits (s ++ t) ≡ true
all_both s t p q = all_append s t ∙ both (all_digits s) (all_digits t) p q

card_digits_lem : (s : Settings) → all_digits (card_of s) ≡ true
unfolding card_of payload
card_digits_lem s =
    all_both _ _ (all_both _ _ (all_both _ _ (all_both _ _ (all_digits_lem 3 s.gmin) (all_digits_lem 5 s.batch)) (all_digits_lem 5 s.threshold)) (all_digits_lem 5 s.spacing)) (all_digits_lem 2 (check_of (decimal (payload s))))

card_twenty : (s : Settings) → Twenty (card_of s)
card_twenty s = record { count = card_length_lem s; each = card_digits_lem s }

card_decimal : (s : Settings) → decimal (card_of s) ≡ decimal (payload s) * 100 + check_of (decimal (payload s))
unfolding card_of
card_decimal s =
    let r = check_range (decimal (payload s)) in
    decimal_append (payload s) (digits 2 (check_of (decimal (payload s))))
    ∙ rw (length_digits 2 (check_of (decimal (payload s))), back 2 (check_of (decimal (payload s))) (omega arith))

card_check_lem : (s : Settings) → check_right (card_of s) ≡ true
unfolding check_right
card_check_lem s =
    let c = check_of (decimal (payload s)) in
    let r = check_range (decimal (payload s)) in
    both (eqb (decimal (card_of s) % 97) 1) (within check_min (field 18 2 (card_of s)) check_max)
    (eq-eqb (decimal (card_of s) % 97) 1 (rw card_decimal (check_right_lem (decimal (payload s)))))
    (rw check_back (both (leb check_min c) (leb c check_max) (le-leb check_min c r.0) (le-leb c check_max r.1)))

pub read_written : ReadWritten
unfolding read_card
read_written l f s h = rw (is_twenty (card_of s) (card_twenty s), card_check_lem s, settings_back s (in_range_fits l f s h), h)

-- an accepted card's payload and check, back from the settings
module _ (c : List ℕ) (t : Twenty c) where
  payload_back : payload (settings_on c) ≡ take 18 c
  unfolding payload settings_on
  payload_back =
      let a = field_digits 0 3 c t.each (omega arith) in
      let b = field_digits 3 5 c t.each (omega arith) in
      let h = field_digits 8 5 c t.each (omega arith) in
      let s = field_digits 13 5 c t.each (omega arith) in
      rw (a, b, ← take-add 3 5 c, h, ← take-add 8 5 c, s, ← take-add 13 5 c)

  whole : take 20 c ≡ c
  whole = take_all 20 c (omega arith)

  pub whole_decimal : decimal c ≡ decimal (take 18 c) * 100 + field 18 2 c
  whole_decimal = let e = up_to 18 2 c (omega arith) in rw whole at e

pub written_read : WrittenRead
unfolding card_of
written_read l c s h =
    let g = good l c s h in
    let t = g.digits in
    let e = whole_decimal c t in
    let leaves = g.leaves in
    let k : field 18 2 c ≡ check_of (decimal (take 18 c)) = check_only (decimal (take 18 c)) (field 18 2 c) g.check.least g.check.most (omega arith) in
    rw (← g.same, payload_back c t, ← k, field_digits 18 2 c t.each (omega arith), ← take-add 18 2 c) (whole c t)
