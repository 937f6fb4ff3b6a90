-- `ffi_block::padded` meets its contract: what is left of the zeros is the rest of thirteen. Assumes nothing.
use Rattle.std.proofs.Common.{◌≡◌, ◌++◌, ◌+◌, ◌-◌, ◌≤◌, length, take, drop, replicate, List, ℕ}
use mathlib.Core.Path.{sym, ap, ◌∙◌}
use native.Mathlib.Omega.{arith}
use Rattle.std.proofs.Math.Seq.{take-append-add}
use Rattle.std.proofs.lemmas.List.{take-replicate, drop-replicate}
use Rattle.ffi_block.specs.Answers.{no_fields}
use Rattle.ffi_block.proofs.padded.Goals as goal

zeros_behind : (fields : List ℕ) → length fields ≤ 13 → fields ++ drop (length fields) no_fields ≡ take 13 (fields ++ no_fields)
zeros_behind fields few =
    let room : ℕ = 13 - length fields in
    let all : 13 ≡ length fields + room = omega arith in
    ap (λ (rest : List ℕ). fields ++ rest) (drop-replicate (length fields) 13 0 ∙ sym (take-replicate room 13 0 (omega arith)))
    ∙ sym (take-append-add fields no_fields room)
    ∙ ap (λ (n : ℕ). take n (fields ++ no_fields)) (sym all)

pub returns : goal.returns
returns c = ap (λ (front : List ℕ). front ++ drop (length c.args.fields.now) no_fields) c.copy_from_slice.ensures.after ∙ zeros_behind c.args.fields.now c.requires
