-- `difference::put_fields` meets its contract: each arm is of one type, and no other way adds anything. Assumes nothing.
use Rattle.block.specs.Types.{measurement_type, loss_type, discard_type, effective_type, streams_type}
use Rattle.difference.proofs.Comparing.{other_length, empty, other_type, of_type_lem, unlisted}
use Rattle.difference.proofs.put_fields.Goals as goal

pub returns-then-x-y : goal.returns-then-x-y
returns-then-x-y c = other_length _ _ _ c.if-x-y.true

pub returns-then-x-eq0 : goal.returns-then-x-eq0
returns-then-x-eq0 c = empty _ _ _ c.if-x-eq0.true

pub returns-then-kind-y : goal.returns-then-kind-y
returns-then-kind-y c = other_type _ _ _ c.if-kind-y.true

pub returns-in-14 : goal.returns-in-14
returns-in-14 c = of_type_lem _ _ _ measurement_type c.in-14.is c.if-kind-y.false c.if-x-y.false c.measurement_fields.ensures

pub returns-in-17 : goal.returns-in-17
returns-in-17 c = of_type_lem _ _ _ loss_type c.in-17.is c.if-kind-y.false c.if-x-y.false c.loss_fields.ensures

pub returns-in-18 : goal.returns-in-18
returns-in-18 c = of_type_lem _ _ _ discard_type c.in-18.is c.if-kind-y.false c.if-x-y.false c.discard_fields.ensures

pub returns-in-240 : goal.returns-in-240
returns-in-240 c = of_type_lem _ _ _ effective_type c.in-240.is c.if-kind-y.false c.if-x-y.false c.effective_fields.ensures

pub returns-in-241 : goal.returns-in-241
returns-in-241 c = of_type_lem _ _ _ streams_type c.in-241.is c.if-kind-y.false c.if-x-y.false c.stream_fields.ensures

pub returns-in_default : goal.returns-in_default
returns-in_default c =
    let rest = c.in_default.in_default-own.rest in
    unlisted _ _ _ rest.0.0.0.0.1 rest.0.0.0.1 rest.0.0.1 rest.0.1 rest.1
