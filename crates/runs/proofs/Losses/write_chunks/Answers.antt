-- `runs::Losses::write_chunks` meets its contract. The loop's invariant is `Stored`. Assumes nothing.
use Rattle.wire.specs.BigEndian.{bytes32, placed}
use Rattle.encode.specs.Words.{halves, in_bytes}
use Rattle.std.proofs.Common.{ℕ, ◌+◌, ◌*◌, List, sym, ap, ◌∙◌, ap₂, arith, take_all}
use Rattle.encode.proofs.Storing.{stored_start, stored_length, stored_more, stored_end}
use Rattle.runs.specs.Writing.{words_from}
use Rattle.runs.proofs.ReadBack.{length_words, get_d_words}
use Rattle.runs.proofs.Losses.write_chunks.Goals as goal

pub loop-i-init : goal.loop-i-init
loop-i-init c =
    let args = c.args in
    let long = length_words args.words args.self.trace.now in
    stored_start _ _ _ _ c.requires.0 (omega arith)

pub overflow_mul-first : goal.overflow_mul-first
overflow_mul-first c = omega (arith, c.requires.1)

pub overflow_add-first : goal.overflow_add-first
overflow_add-first c = omega (arith, c.requires.1)

pub overflow_mul-i : goal.overflow_mul-i
overflow_mul-i c = omega (arith, c.requires.1)

pub overflow_add-at : goal.overflow_add-at
overflow_add-at c = omega (arith, c.loop-i.invariant.room)

pub loop-i-preserved : goal.loop-i-preserved
loop-i-preserved c =
    let inv = c.loop-i.invariant in
    let args = c.args in
    let i : ℕ = c.loop-i.i in
    let word = c.halves-word.ensures ∙ ap₂ halves c.chunk_at.ensures c.chunk_at-in-loop-i.ensures ∙ sym (get_d_words args.words i args.self.trace.now (omega arith)) in
    let stored = c.put_u32.ensures ∙ ap (λ (w : ℕ). placed c.loop-i.out (args.at + 4 * i) (bytes32 w)) word in
    stored_more _ _ _ _ _ _ inv _ (omega arith) stored

pub shape_of-out : goal.shape_of-out
shape_of-out c = stored_length _ _ _ _ _ _ c.loop-i.invariant

pub returns : goal.returns
returns c =
    let args = c.args in
    let all = take_all args.words (words_from args.words args.self.trace.now) (omega (arith, length_words args.words args.self.trace.now)) in
    stored_end _ _ _ _ _ _ c.loop-i.invariant (omega arith) ∙ ap (λ (ws : List ℕ). placed args.out.now args.at (in_bytes ws)) all
