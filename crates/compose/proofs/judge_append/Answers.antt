-- `compose::judge_append` meets its contract: one of the cases of Adding.antt at each return. Assumes nothing.
use Rattle.std.proofs.Common.{rules, ◌≡◌, ◌+◌, ◌*◌, ℕ, Err}
use mathlib.Core.Path.{sym, ap, ◌∙◌}
use native.Mathlib.Omega.{arith}
use Rattle.std.specs.Prelude.{Ok}
use Rattle.wire.specs.BigEndian.{be16}
use Rattle.wire.proofs.Numbers.{u16_inside}
use Rattle.frame.specs.declared.Extent.TheVariants.{Front}
use Rattle.frame.proofs.Locating.{Here, located, located_bad}
use Rattle.compose.proofs.Adding.{front_bad, front_room, own_bad, full, no_room, has_room}
use Rattle.compose.proofs.judge_append.Goals as goal

pub returns-in_err-locate : goal.returns-in_err-locate
returns-in_err-locate c =
    let is : c.from_residual.result ≡ Err c.in_err-locate.field-0.0 = search rules in
    is ∙ front_bad _ _ _ _ (located_bad _ _ _ _ (sym c.locate.ensures ∙ c.in_err-locate.was))

pub returns-in_err-own : goal.returns-in_err-own
returns-in_err-own c =
    let here : Here Front c.args.s.now 0 c.in_ok-locate.field-0.sender c.in_ok-locate.field-0.count c.in_ok-locate.field-0.at = located _ _ _ _ _ _ (sym c.locate.ensures ∙ c.in_ok-locate.was) in
    let is : c.from_residual-in_err-own.result ≡ Err c.in_err-own.field-0.0 = search rules in
    is ∙ own_bad _ _ _ _ _ here.packet _ c.in_err-own.was

pub returns-then-length-words : goal.returns-then-length-words
returns-then-length-words c =
    let here : Here Front c.args.s.now 0 c.in_ok-locate.field-0.sender c.in_ok-locate.field-0.count c.in_ok-locate.field-0.at = located _ _ _ _ _ _ (sym c.locate.ensures ∙ c.in_ok-locate.was) in
    let field : c.u16_at-length.result ≡ be16 c.args.s.now 2 = c.u16_at-length.ensures ∙ u16_inside c.args.s.now 2 (omega (arith, front_room _ _ _ here.packet)) in
    full _ _ _ _ _ here.packet c.in_ok-own.was (omega (arith, field))

pub returns-then-s-size : goal.returns-then-s-size
returns-then-s-size c =
    let here : Here Front c.args.s.now 0 c.in_ok-locate.field-0.sender c.in_ok-locate.field-0.count c.in_ok-locate.field-0.at = located _ _ _ _ _ _ (sym c.locate.ensures ∙ c.in_ok-locate.was) in
    let field : c.u16_at-length.result ≡ be16 c.args.s.now 2 = c.u16_at-length.ensures ∙ u16_inside c.args.s.now 2 (omega (arith, front_room _ _ _ here.packet)) in
    no_room _ _ _ _ _ here.packet c.in_ok-own.was (omega (arith, field)) (omega (arith, field))

pub returns : goal.returns
returns c =
    let here : Here Front c.args.s.now 0 c.in_ok-locate.field-0.sender c.in_ok-locate.field-0.count c.in_ok-locate.field-0.at = located _ _ _ _ _ _ (sym c.locate.ensures ∙ c.in_ok-locate.was) in
    let field : c.u16_at-length.result ≡ be16 c.args.s.now 2 = c.u16_at-length.ensures ∙ u16_inside c.args.s.now 2 (omega (arith, front_room _ _ _ here.packet)) in
    let e = field in
    ap (λ (n : ℕ). Ok (4 * (n + c.args.words + 1))) e
    ∙ has_room _ _ _ _ _ here.packet c.in_ok-own.was (omega arith) (omega arith)
