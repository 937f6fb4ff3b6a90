-- `card::read` meets its contract. Each return is one of the cases of Reading.antt: what the two parts of the
-- card are as numbers, then the check, then the ranges. Assumes nothing.
use mathlib.Core.Path.{sym, ap, ◌∙◌}
use Rattle.std.specs.Option.{ok_or}
use Rattle.refusal.specs.Table.{card_digits}
use Rattle.card.proofs.Reading.{Split, split, check_wrong, out_of_range, accepted}
use Rattle.card.proofs.read.Goals as goal

pub returns-then-check-check_of : goal.returns-then-check-check_of
returns-then-check-check_of c =
    let parts : Split c.args.card.now c.in_ok-payload.payload c.in_ok-check.check = split _ _ _ c.if-card-ne-CARD_LENGTH.false
    (ap (λ n. ok_or n card_digits) (sym c.number.ensures) ∙ sym c.ok_or.ensures.value ∙ c.in_ok-payload.was)
    (ap (λ n. ok_or n card_digits) (sym c.number-2.ensures) ∙ sym c.ok_or-2.ensures.value ∙ c.in_ok-check.was) in
    check_wrong _ _ _ _ parts (λ e. c.if-check-check_of.true (e ∙ sym c.check_of.ensures))

pub returns-then-not-in_range : goal.returns-then-not-in_range
returns-then-not-in_range c =
    let parts : Split c.args.card.now c.in_ok-payload.payload c.in_ok-check.check = split _ _ _ c.if-card-ne-CARD_LENGTH.false
    (ap (λ n. ok_or n card_digits) (sym c.number.ensures) ∙ sym c.ok_or.ensures.value ∙ c.in_ok-payload.was)
    (ap (λ n. ok_or n card_digits) (sym c.number-2.ensures) ∙ sym c.ok_or-2.ensures.value ∙ c.in_ok-check.was) in
    out_of_range _ _ _ _ parts (c.if-check-check_of.false ∙ c.check_of.ensures) (sym c.in_range.ensures ∙ c.if-not-in_range.true)

pub returns : goal.returns
returns c =
    let parts : Split c.args.card.now c.in_ok-payload.payload c.in_ok-check.check = split _ _ _ c.if-card-ne-CARD_LENGTH.false
    (ap (λ n. ok_or n card_digits) (sym c.number.ensures) ∙ sym c.ok_or.ensures.value ∙ c.in_ok-payload.was)
    (ap (λ n. ok_or n card_digits) (sym c.number-2.ensures) ∙ sym c.ok_or-2.ensures.value ∙ c.in_ok-check.was) in
    accepted _ _ _ _ parts (c.if-check-check_of.false ∙ c.check_of.ensures) (sym c.in_range.ensures ∙ c.if-not-in_range.false)
