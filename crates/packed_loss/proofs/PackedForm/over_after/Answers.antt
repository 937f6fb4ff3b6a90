-- `packed_loss::Packed::over_after` meets its contract. Assumes nothing.
use Prim.Native.Nat.{ℕ, ◌+◌, ◌-◌, ◌≤◌}
use mathlib.Core.Path.{◌≡◌, refl, ap₂, ◌∙◌}
use native.Mathlib.Omega.{arith}
use Rattle.trace.specs.Sum.{count}
use Rattle.trace.proofs.Sums.{count_most}
use Rattle.batch.specs.Batches.{is_over}
use Rattle.packed.specs.Words.{one_in}
use Rattle.crossing.specs.Crossing.{over_among}
use Rattle.packed_loss.proofs.Settling.{settled, walked_rest}
use Rattle.packed_loss.proofs.PackedForm.over_after.Goals as goal

pub overflow_cast-steps-2 : goal.overflow_cast-steps-2
overflow_cast-steps-2 c =
    let small : c.go_on-walked.result.losses ≤ c.args.batches.size = let a = c.args in omega (arith, c.go_on-walked.ensures.held, count_most (one_in a.self.now.words.now) c.go_on-walked.result.start a.batches.size) in
    omega (arith, small, c.requires.0.within, c.requires.0.most)

pub overflow_add-result : goal.overflow_add-result
overflow_add-result c =
    let whole : c.go_on-walked.result.over + c.one_by_one.result ≡ count (is_over (one_in c.args.self.now.words.now) c.args.batches.size c.args.batches.threshold) (c.args.from.start + 1) (c.args.self.now.packets - c.args.batches.size - c.args.from.start) = let a = c.args in
    let k = c.go_on-walked.result.start in
    let n : ℕ = a.self.now.packets - a.batches.size - k in
    let all = c.go_on-walked.ensures.all refl in
    let within = c.go_on-walked.ensures.within in
    walked_rest (one_in a.self.now.words.now) a.self.now.packets a.batches.size a.batches.threshold a.from.start _ _ _ _ c.go_on-walked.ensures
    (c.one_by_one.ensures ∙ ap₂ (λ (x y : ℕ). over_among a.batches.threshold c.go_on-walked.result.losses x y n) c.window.ensures c.window-2.ensures
    ∙ settled (one_in a.self.now.words.now) a.batches.size a.batches.threshold k _ c.go_on-walked.ensures.held n (omega arith)) in
    let a = c.args in omega (arith, whole, count_most (is_over (one_in a.self.now.words.now) a.batches.size a.batches.threshold) (a.from.start + 1) (a.self.now.packets - a.batches.size - a.from.start), c.requires.0.most)

pub returns : goal.returns
returns c =
    let whole : c.go_on-walked.result.over + c.one_by_one.result ≡ count (is_over (one_in c.args.self.now.words.now) c.args.batches.size c.args.batches.threshold) (c.args.from.start + 1) (c.args.self.now.packets - c.args.batches.size - c.args.from.start) = let a = c.args in
    let k = c.go_on-walked.result.start in
    let n : ℕ = a.self.now.packets - a.batches.size - k in
    let all = c.go_on-walked.ensures.all refl in
    let within = c.go_on-walked.ensures.within in
    walked_rest (one_in a.self.now.words.now) a.self.now.packets a.batches.size a.batches.threshold a.from.start _ _ _ _ c.go_on-walked.ensures
    (c.one_by_one.ensures ∙ ap₂ (λ (x y : ℕ). over_among a.batches.threshold c.go_on-walked.result.losses x y n) c.window.ensures c.window-2.ensures
    ∙ settled (one_in a.self.now.words.now) a.batches.size a.batches.threshold k _ c.go_on-walked.ensures.held n (omega arith)) in
    whole
