-- `compare::put_same` meets its contract: each return is a case of Pairing.antt. Assumes nothing.
use mathlib.Core.Path.{◌≡◌, sym, ◌∙◌}
use Rattle.block.specs.Reading.{read_bytes}
use Rattle.verdict.specs.Sources.{typed_by}
use Rattle.difference.proofs.Writing.{adds_none}
use Rattle.compare.proofs.Pairing.{pair_same, pair_apart}
use Rattle.compare.proofs.Same.{beq_same, beq_apart}
use Rattle.compare.proofs.put_same.Goals as goal

pub returns-then-typed-is_typed : goal.returns-then-typed-is_typed
returns-then-typed-is_typed c =
    let a = c.args in
    let here : c.is_typed-typed.result ≡ typed_by a.sources.first.now (read_bytes a.x.now) = c.is_typed-typed.ensures c.args.sources.sorted in
    let there : c.is_typed.result ≡ typed_by a.sources.second.now (read_bytes a.y.now) = c.is_typed.ensures c.args.sources.second_sorted in
    rw (pair_same a.k a.x.now a.y.now a.sources.first.now a.sources.second.now c.requires (sym here ∙ beq_same _ _ c.if-typed-is_typed.true ∙ there)) (adds_none _ _)

pub returns : goal.returns
returns c =
    let a = c.args in
    let here : c.is_typed-typed.result ≡ typed_by a.sources.first.now (read_bytes a.x.now) = c.is_typed-typed.ensures c.args.sources.sorted in
    let there : c.is_typed.result ≡ typed_by a.sources.second.now (read_bytes a.y.now) = c.is_typed.ensures c.args.sources.second_sorted in
    rw (pair_apart a.k a.x.now a.y.now a.sources.first.now a.sources.second.now (λ same. beq_apart _ _ c.if-typed-is_typed.false (here ∙ same ∙ sym there)))
    c.put_whole.ensures
