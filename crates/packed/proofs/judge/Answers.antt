-- `packed::judge` meets its contract. Each return is one of the cases of Judging.antt. Assumes nothing.
use Prim.Native.Nat.{◌/◌, ◌%◌, ◌^◌, ◌≤◌, ◌<◌}
use mathlib.Core.Path.{◌≡◌, sym, ◌∙◌}
use mathlib.Core.Bool.{true}
use native.Mathlib.Omega.{arith}
use lib.Count.{count_trailing_zeros, trailing_le}
use lib.ListN.{length, get_or}
use Rattle.trace.specs.Trace.{trace_max, packets_within}
use Rattle.trace.proofs.Judging.{ranged}
use Rattle.packed.specs.Words.{word_bits, words_for}
use Rattle.packed.proofs.Judging.{out_of_range, too_few, filled, zeros, some_one}
use Rattle.packed.proofs.judge.Goals as goal

pub returns-then-not-in_range : goal.returns-then-not-in_range
returns-then-not-in_range c = out_of_range _ _ (sym c.in_range.ensures ∙ c.if-not-in_range.true)

pub returns-then-words-words_for : goal.returns-then-words-words_for
returns-then-words-words_for c =
    let range : packets_within trace_max c.args.packets ≡ true = sym c.in_range.ensures ∙ c.if-not-in_range.false in
    too_few _ _ range (omega (arith, c.words_for.ensures))

pub returns-then-packets-eq0 : goal.returns-then-packets-eq0
returns-then-packets-eq0 c =
    let range : packets_within trace_max c.args.packets ≡ true = sym c.in_range.ensures ∙ c.if-not-in_range.false in
    let enough : words_for c.args.packets ≤ length c.args.words.now = omega (arith, c.words_for.ensures) in
    filled _ _ range enough (omega arith)

pub returns-then-past-eq0 : goal.returns-then-past-eq0
returns-then-past-eq0 c =
    let range : packets_within trace_max c.args.packets ≡ true = sym c.in_range.ensures ∙ c.if-not-in_range.false in
    let enough : words_for c.args.packets ≤ length c.args.words.now = omega (arith, c.words_for.ensures) in
    let word_fits : get_or c.args.words.now (c.args.packets / word_bits) 0 < 2 ^ 64 = let a = c.args in omega (arith, c.type_inv.words (a.packets / word_bits)) in
    let a = c.args in zeros a.words.now a.packets range enough (omega arith) word_fits (omega arith)

pub overflow_add-result : goal.overflow_add-result
overflow_add-result c =
    let range : packets_within trace_max c.args.packets ≡ true = sym c.in_range.ensures ∙ c.if-not-in_range.false in
    let few : count_trailing_zeros 64 (get_or c.args.words.now (c.args.packets / word_bits) 0 / 2 ^ (c.args.packets % word_bits)) ≤ 64 = trailing_le 64 _ in
    omega (arith, few, ranged trace_max _ range)

pub returns : goal.returns
returns c =
    let range : packets_within trace_max c.args.packets ≡ true = sym c.in_range.ensures ∙ c.if-not-in_range.false in
    let enough : words_for c.args.packets ≤ length c.args.words.now = omega (arith, c.words_for.ensures) in
    let word_fits : get_or c.args.words.now (c.args.packets / word_bits) 0 < 2 ^ 64 = let a = c.args in omega (arith, c.type_inv.words (a.packets / word_bits)) in
    let a = c.args in some_one a.words.now a.packets range enough (omega arith) word_fits (omega arith)
