-- `card::write` meets its contract: the digits of the payload and of the check, as Writing.antt has them. Assumes nothing.
use mathlib.Core.Path.{sym, ◌∙◌}
use Rattle.card.proofs.Cases.{settings_fit}
use Rattle.card.proofs.Writing.{wrote}
use Rattle.card.proofs.write.Goals as goal

pub returns-clause-buffer : goal.returns-clause-buffer
returns-clause-buffer c =
    let good = sym c.in_range.ensures ∙ c.if-not-in_range.false in
    (wrote _ _ _ _ _ _ _ good (settings_fit _ good) c.if-out-lt-CARD_LENGTH.false c.payload_of-payload.ensures c.check_of.ensures c.put_digits.ensures c.put_digits-2.ensures).1
