-- `compare::Pair::both_typed` meets its contract: each return is a case of Both.antt. Assumes nothing.
use mathlib.Core.Path.{◌≡◌, refl, sym, ◌∙◌}
use mathlib.Core.Bool.{true, false}
use Rattle.block.specs.Reading.{read_bytes}
use Rattle.verdict.specs.Sources.{typed_by}
use Rattle.compare.proofs.Both.{other_type, both}
use Rattle.compare.proofs.Pair.both_typed.Goals as goal

pub both_measured-requires : goal.both_measured-requires
both_measured-requires c = c.both_wait.ensures c.if-both_wait.true

pub returns-then-x-y : goal.returns-then-x-y
returns-then-x-y c =
    let a = c.args in
    other_type a.self.x.now a.self.y.now a.sources.first.now a.sources.second.now c.if-x-y.true

pub returns-then-not-is_typed : goal.returns-then-not-is_typed
returns-then-not-is_typed c =
    let here : c.is_typed.result ≡ typed_by c.args.sources.first.now (read_bytes c.args.self.x.now) = c.is_typed.ensures c.args.sources.sorted in
    let a = c.args in
    both a.self.x.now a.self.y.now a.sources.first.now a.sources.second.now c.if-x-y.false false (typed_by a.sources.second.now (read_bytes a.self.y.now)) false (sym (c.if-not-is_typed.true) ∙ here) refl refl

pub returns : goal.returns
returns c =
    let here : c.is_typed.result ≡ typed_by c.args.sources.first.now (read_bytes c.args.self.x.now) = c.is_typed.ensures c.args.sources.sorted in
    let a = c.args in
    both a.self.x.now a.self.y.now a.sources.first.now a.sources.second.now c.if-x-y.false true c.is_typed-2.result c.is_typed-2.result (sym (c.if-not-is_typed.false) ∙ here) (c.is_typed-2.ensures c.args.sources.second_sorted) refl
