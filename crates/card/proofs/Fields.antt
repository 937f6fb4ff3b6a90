-- The fields of twenty digits: the number of the digits up to a field's end is made of the number before
-- it and the field, a field has as many digits as its width, and the settings are the payload's parts.
-- Assumes nothing.
use Prim.Native.Nat.{ℕ, ◌+◌, ◌*◌, ◌/◌, ◌%◌, ◌^◌, ◌<◌, ◌≤◌}
use mathlib.Core.Path.{◌≡◌, refl, sym, ap, ◌∙◌}
use mathlib.Core.Bool.{true}
use mathlib.Core.List.{List, ◌++◌}
use native.Mathlib.Omega.{arith}
use native.Mathlib.Nat.{mod-eq_of_lt}
use lib.ListN.{length, take, drop, length-take, length-drop}
use lib.Seq.{take-add}
use Rattle.settings.specs.declared.Settings.{Settings}
use Rattle.card.specs.Decimal.{all_digits, decimal, digits}
use Rattle.card.specs.Card.{field, settings_on, payload}
use Rattle.card.specs.Steps.{Fits, number_of}
use Rattle.card.proofs.Decimal.{all_take, all_drop, decimal_append, decimal_lt, decimal_digits, digits_append, digits_decimal}

pub length_part : (at w : ℕ) (s : List ℕ) → at + w ≤ length s → length (take w (drop at s)) ≡ w
length_part at w s h = simp (length-take, length-drop) (omega arith)

pub field_lt : (at w : ℕ) (s : List ℕ) → all_digits s ≡ true → at + w ≤ length s → field at w s < 10 ^ w
unfolding field
field_lt at w s d h =
    let lt = decimal_lt (take w (drop at s)) (all_take w (drop at s) (all_drop at s d)) in
    rw (length_part at w s h) at lt

pub field_digits : (at w : ℕ) (s : List ℕ) → all_digits s ≡ true → at + w ≤ length s → digits w (field at w s) ≡ take w (drop at s)
unfolding field
field_digits at w s d h =
    let e = digits_decimal (take w (drop at s)) (all_take w (drop at s) (all_drop at s d)) in
    rw (length_part at w s h) at e

pub up_to : (at w : ℕ) (s : List ℕ) → at + w ≤ length s → decimal (take (at + w) s) ≡ decimal (take at s) * 10 ^ w + field at w s
unfolding field
up_to at w s h = rw (take-add at w s, decimal_append (take at s) (take w (drop at s)), length_part at w s h)

nothing : (s : List ℕ) → decimal (take 0 s) ≡ 0
unfolding decimal
nothing s = refl

-- the payload as one number, and each setting as a part of it
pub record Payload (p : ℕ) (s : Settings) : Type 0 where
  pub gmin : p / 10 ^ 15 ≡ s.gmin
  pub batch : p / 10 ^ 10 % 10 ^ 5 ≡ s.batch
  pub threshold : p / 10 ^ 5 % 10 ^ 5 ≡ s.threshold
  pub spacing : p % 10 ^ 5 ≡ s.spacing

pub payload_parts : (c : List ℕ) → all_digits c ≡ true → 18 ≤ length c → Payload (decimal (take 18 c)) (settings_on c)
unfolding settings_on
payload_parts c d h =
    let a = up_to 0 3 c (omega arith) in
    let b = up_to 3 5 c (omega arith) in
    let t = up_to 8 5 c (omega arith) in
    let s = up_to 13 5 c (omega arith) in
    let al = field_lt 0 3 c d (omega arith) in
    let bl = field_lt 3 5 c d (omega arith) in
    let tl = field_lt 8 5 c d (omega arith) in
    let sl = field_lt 13 5 c d (omega arith) in
    let z = nothing c in
    omega arith

pub payload_digits : (s : Settings) → Fits s → digits 18 (number_of s) ≡ payload s
unfolding payload
payload_digits s f =
    digits_append 13 5 ((s.gmin * 10 ^ 5 + s.batch) * 10 ^ 5 + s.threshold) s.spacing f.spacing
    ∙ ap (λ (l : List ℕ). l ++ digits 5 s.spacing)
    (digits_append 8 5 (s.gmin * 10 ^ 5 + s.batch) s.threshold f.threshold
    ∙ ap (λ (l : List ℕ). l ++ digits 5 s.threshold) (digits_append 3 5 s.gmin s.batch f.batch))

pub payload_decimal : (s : Settings) → Fits s → decimal (payload s) ≡ number_of s
payload_decimal s f =
    let small : number_of s < 10 ^ 18 = omega arith in
    ap decimal (sym (payload_digits s f)) ∙ decimal_digits 18 (number_of s) ∙ mod-eq_of_lt small
