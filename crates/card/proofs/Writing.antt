-- The cases of writing a card, in the order of the code: the answer, and the buffer afterwards. Assumes
-- nothing.
use Prim.Native.Nat.{ℕ, ◌≤◌}
use mathlib.Core.Path.{◌≡◌, sym, ap, ◌∙◌}
use mathlib.Core.Bool.{true}
use mathlib.Core.List.{List, ◌++◌, append_assoc}
use borrow.Author.Tests.{le-leb}
use borrow.Rule.Slice.PartMut.{put_mid}
use native.Mathlib.Omega.{arith}
use lib.ListN.{length, take, drop, length-append, length-drop}
use lib.Seq.{take_at, drop_at, drop-drop, length-take-le}
use Rattle.refusal.specs.Answer.{after}
use Rattle.settings.specs.declared.Settings.{Settings}
use Rattle.settings.specs.Ranges.{Limits, in_range}
use Rattle.card.specs.Decimal.{digits}
use Rattle.card.specs.Card.{card_length, check_of, card_of, write_card}
use Rattle.card.specs.Steps.{Fits, number_of}
use Rattle.card.proofs.Decimal.{length_digits}
use Rattle.card.proofs.Fields.{payload_digits, payload_decimal}
use Rattle.std.specs.Prelude.{Ok}
use Rattle.refusal.specs.Answer.{Written}

-- a call's answer and buffer are what the promise says
abbrev Promised : Limits → Settings → List ℕ → Written → List ℕ → Type 0
Promised l s buffer answer out = (answer ≡ write_card l s buffer) × (out ≡ after (write_card l s buffer) (card_of s) buffer)

-- the digits of the payload, then those of the check
module _ (l : Limits) (s : Settings) (buffer part part' : List ℕ) (p k : ℕ) (h : in_range l s ≡ true) (fits : Fits s) (room : card_length ≤ length buffer)
    (n : p ≡ number_of s) (m : k ≡ check_of p)
    (front : part ≡ digits (length (take 18 buffer)) p) (back : part' ≡ digits (length (take 2 (drop 18 (part ++ drop 18 buffer)))) k) where
  payload_lem : part ≡ digits 18 p
  payload_lem = rw front (ap (λ (w : ℕ). digits w p) (length-take-le 18 buffer (omega arith)))

  check_lem : part' ≡ digits 2 k
  check_lem =
      let long : length part ≡ 18 = ap length payload_lem ∙ length_digits 18 p in
      let rest : 2 ≤ length (drop 18 (part ++ drop 18 buffer)) = simp (length-drop, length-append) (omega arith) in
      rw back (ap (λ (w : ℕ). digits w k) (length-take-le 2 (drop 18 (part ++ drop 18 buffer)) rest))

  pub wrote : Promised l s buffer (Ok card_length) (put_mid 18 2 (part ++ drop 18 buffer) part')
  unfolding write_card card_of
  wrote =
      let answer : Ok card_length ≡ write_card l s buffer = rw (h, le-leb card_length (length buffer) room) in
      let card : digits 18 p ++ digits 2 k ≡ card_of s = rw (m, n, payload_digits s fits, payload_decimal s fits) in
      let long : length part ≡ 18 = ap length payload_lem ∙ length_digits 18 p in
      let first : take 18 (part ++ drop 18 buffer) ≡ part = take_at part (drop 18 buffer) 18 long in
      let rest : drop 2 (drop 18 (part ++ drop 18 buffer)) ≡ drop 20 buffer = ap (drop 2) (drop_at part (drop 18 buffer) 18 long) ∙ drop-drop 2 18 buffer in
      (answer, rw (← answer, ← card) (rw (first, rest, payload_lem, check_lem) (sym (append_assoc (digits 18 p) (digits 2 k) (drop 20 buffer)))))
