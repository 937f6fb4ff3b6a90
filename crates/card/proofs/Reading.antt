-- The cases of reading a card in the order of the code: each return's answer is what `read_card` says,
-- from the two numbers that the card's parts are. Assumes nothing.
use Prim.Native.Nat.{ℕ, ◌+◌, ◌-◌, ◌*◌, ◌/◌, ◌%◌, ◌^◌}
use mathlib.Core.Path.{◌≡◌, refl, sym, ap, ◌∙◌}
use mathlib.Core.Bool.{Bool, true, false, and-false}
use mathlib.Core.List.{List}
use native.Mathlib.Omega.{arith}
use native.Mathlib.Nat.{le_refl}
use borrow.Author.Tests.{eq-eqb, ne_eqb, eqb-true, le-leb}
use lib.Dec.{eqb, leb}
use lib.ListN.{length, take, drop, take-append-drop, length-drop}
use lib.Seq.{take_all}
use Rattle.refusal.specs.Answer.{unless}
use Rattle.refusal.specs.Table.{card_digits, card_check, card_field}
use Rattle.refusal.proofs.Tests.{and_left, and_right, both}
use Rattle.settings.specs.declared.Settings.{Settings}
use Rattle.settings.specs.Ranges.{Limits, in_range, within}
use Rattle.settings.proofs.Bounds.{between}
use Rattle.card.specs.Decimal.{all_digits, decimal}
use Rattle.card.specs.Card.{check_min, check_max, card_length, field, settings_on, twenty_digits, check_right, check_of, read_card}
use Rattle.card.specs.Steps.{number_in}
use Rattle.card.proofs.Decimal.{all_append, all_take, all_drop}
use Rattle.card.proofs.Check.{check_range, check_right_lem, check_only}
use Rattle.card.proofs.Fields.{payload_parts}
use Rattle.card.proofs.Cases.{Twenty, is_twenty}
use Rattle.card.proofs.RoundTrip.{settings_eq, whole_decimal}
use Rattle.refusal.specs.declared.Refusal.{Refusal}
use Rattle.std.specs.Option.{ok_or}
use Rattle.std.specs.Prelude.{Ok, Err, Option, Some, None}

-- a part that goes to the end
tail : (s : List ℕ) (n : ℕ) → take (length s - n) (drop n s) ≡ drop n s
tail s n = take_all (length s - n) (drop n s) (rw length-drop (le_refl (length s - n)))

-- what a part's number says of its bytes
pub record Digits (s : List ℕ) (n : ℕ) : Type 0 where
  pub each : all_digits s ≡ true
  pub value : n ≡ decimal s

pub is_number : (s : List ℕ) (n : ℕ) → number_in s ≡ Some n → Digits s n
unfolding number_in
is_number s n h = go (all_digits s) refl h
  where
    go : (b : Bool) → all_digits s ≡ b → unless b None (Some (decimal s)) ≡ Some n → Digits s n
    go true e h = record { each = e; value = cc }
    go false e h = let z : ◌≡◌ {A = ℕ} 0 1 = cc in absurd (omega arith)

pub is_other : (s : List ℕ) → number_in s ≡ None → all_digits s ≡ false
unfolding number_in
is_other s h = go (all_digits s) refl h
  where
    go : (b : Bool) → all_digits s ≡ b → unless b None (Some (decimal s)) ≡ None → all_digits s ≡ false
    go true e h = let z : ◌≡◌ {A = ℕ} 0 1 = cc in absurd (omega arith)
    go false e h = e

pub wrong_length : (l : Limits) (c : List ℕ) → (length c ≡ card_length → ⊥) → Err card_digits ≡ read_card l c
unfolding read_card twenty_digits
wrong_length l c h = rw (ne_eqb (length c) card_length h)

-- one part with another byte is enough
not_digits : (l : Limits) (c : List ℕ) → all_digits c ≡ false → Err card_digits ≡ read_card l c
unfolding read_card twenty_digits
not_digits l c h = rw (h, and-false (eqb (length c) card_length))

part_other : (l : Limits) (c part : List ℕ) → (all_digits c ≡ true → all_digits part ≡ true) → number_in part ≡ None → Err card_digits ≡ read_card l c
part_other l c part each h = not_digits l c (go (all_digits c) refl)
  where
    go : (b : Bool) → all_digits c ≡ b → all_digits c ≡ false
    go true e = let t = each e in let f = is_other part h in cc
    go false e = e

pub front_other : (l : Limits) (c : List ℕ) → number_in (take 18 c) ≡ None → Err card_digits ≡ read_card l c
front_other l c h = part_other l c (take 18 c) (all_take 18 c) h

pub back_other : (l : Limits) (c : List ℕ) → number_in (take (length c - 18) (drop 18 c)) ≡ None → Err card_digits ≡ read_card l c
back_other l c h = part_other l c (drop 18 c) (all_drop 18 c) (rw (tail c 18) at h)

-- twenty digits by their payload and check
pub record Split (c : List ℕ) (p k : ℕ) : Type 0 where
  pub digits : Twenty c
  pub payload : p ≡ decimal (take 18 c)
  pub check : k ≡ field 18 2 c

number_of_ok : (o : Option ℕ) (r : Refusal) (n : ℕ) → ok_or o r ≡ Ok n → o ≡ Some n
number_of_ok (Some m) r n h = cc
number_of_ok None r n h = let z : ◌≡◌ {A = ℕ} 0 1 = cc in absurd (omega arith)

pub split : (c : List ℕ) (p k : ℕ) → length c ≡ card_length → ok_or (number_in (take 18 c)) card_digits ≡ Ok p →
    ok_or (number_in (take (length c - 18) (drop 18 c))) card_digits ≡ Ok k → Split c p k
unfolding field
split c p k l front back =
    let f = is_number (take 18 c) p (number_of_ok _ _ _ front) in
    let b = is_number (drop 18 c) k (rw (tail c 18) at (number_of_ok _ _ _ back)) in
    record {
      digits = record { count = l; each = ap all_digits (sym (take-append-drop 18 c)) ∙ all_append (take 18 c) (drop 18 c) ∙ both (all_digits (take 18 c)) (all_digits (drop 18 c)) f.each b.each };
      payload = f.value;
      check = b.value ∙ ap decimal (sym (take_all 2 (drop 18 c) (rw (length-drop, l) (omega arith))));
    }

-- the settings that a payload holds
abbrev settings_in : ℕ → Settings
settings_in p =
    record { gmin = p / 10 ^ 15; batch = p / 10 ^ 10 % 10 ^ 5; threshold = p / 10 ^ 5 % 10 ^ 5; spacing = p % 10 ^ 5 }

module _ (l : Limits) (c : List ℕ) (p k : ℕ) (s : Split c p k) where
  settings_in_lem : settings_in p ≡ settings_on c
  settings_in_lem =
      let e = rw (← s.payload) at (payload_parts c s.digits.each (let n = s.digits.count in omega arith)) in
      settings_eq (settings_in p) (settings_on c) e.gmin e.batch e.threshold e.spacing

  sum : decimal c ≡ p * 100 + k
  sum = rw (s.payload, s.check) (whole_decimal c s.digits)

  right : k ≡ check_of p → check_right c ≡ true
  unfolding check_right
  right h =
      let r = check_range p in
      both (eqb (decimal c % 97) 1) (within check_min (field 18 2 c) check_max)
      (eq-eqb (decimal c % 97) 1 (rw (sum, h) (check_right_lem p)))
      (rw (← s.check, h) (both (leb check_min (check_of p)) (leb (check_of p) check_max) (le-leb _ _ r.0) (le-leb _ _ r.1)))

  wrong : (k ≡ check_of p → ⊥) → check_right c ≡ false
  unfolding check_right
  wrong h = go (check_right c) refl
    where
      go : (b : Bool) → check_right c ≡ b → check_right c ≡ false
      go true e =
          let one = eqb-true (decimal c % 97) 1 (and_left (eqb (decimal c % 97) 1) (within check_min (field 18 2 c) check_max) e) in
          let r = between check_min (field 18 2 c) check_max (and_right (eqb (decimal c % 97) 1) (within check_min (field 18 2 c) check_max) e) in
          let m = sum in
          let k-is = s.check in
          absurd (h (check_only p k (omega arith) (omega arith) (rw (← sum) one)))
      go false e = e

  pub check_wrong : (k ≡ check_of p → ⊥) → Err card_check ≡ read_card l c
  unfolding read_card
  check_wrong h = rw (is_twenty c s.digits, wrong h)

  pub out_of_range : k ≡ check_of p → in_range l (settings_in p) ≡ false → Err card_field ≡ read_card l c
  unfolding read_card
  out_of_range h r = rw (is_twenty c s.digits, right h, ← settings_in_lem, r)

  pub accepted : k ≡ check_of p → in_range l (settings_in p) ≡ true → Ok (settings_in p) ≡ read_card l c
  unfolding read_card
  accepted h r = rw (is_twenty c s.digits, right h, ← settings_in_lem, r)
