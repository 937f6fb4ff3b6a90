-- `packed_plan::Packed::fill_word` meets its contract: packet by packet, or in one step where no packet is marked. Assumes nothing.
use Prim.Native.Nat.{ℕ, ◌+◌, ◌-◌, ◌≤◌, min}
use mathlib.Core.Path.{◌≡◌, ap, ◌∙◌}
use native.Mathlib.Omega.{arith}
use lib.ListN.{length}
use Rattle.trace.specs.Sum.{count}
use Rattle.trace.proofs.Sums.{count_most}
use Rattle.resend.specs.Plans.{marked, left}
use Rattle.resend.specs.Greedy.{plan_of}
use Rattle.packed.specs.Words.{word_bits, one_in}
use Rattle.packed_plan.proofs.Strides.{length_cleared, passed_few, passed_none, Left, passed_left}
use Rattle.packed_plan.proofs.Packed.fill_word.Goals as goal

pub overflow_add-left : goal.overflow_add-left
overflow_add-left c =
    let small : c.args.left ≤ c.args.i = let a = c.args in omega (arith, c.requires.0.window, count_most (left (one_in a.self.now.words.now) (plan_of (one_in a.self.now.words.now) a.self.now.batches.size a.self.now.batches.threshold a.self.now.packets)) 0 a.i) in
    let enters : c.ones_among-enters.result ≡ count (one_in c.args.self.now.words.now) c.args.i word_bits = c.ones_among-enters.ensures in
    omega (arith, small, enters, count_most (one_in c.args.self.now.words.now) c.args.i word_bits, c.args.self.now.most)

pub returns-then-left-enters-eq0 : goal.returns-then-left-enters-eq0
returns-then-left-enters-eq0 c =
    let enters : c.ones_among-enters.result ≡ count (one_in c.args.self.now.words.now) c.args.i word_bits = c.ones_among-enters.ensures in
    passed_none _ _ _ _ _ _ _ _ _ _ _ c.requires.0 c.requires.1 enters (omega arith) c.clear.ensures (omega arith)

pub marks_among-requires : goal.marks_among-requires
marks_among-requires c =
    let enters : c.ones_among-enters.result ≡ count (one_in c.args.self.now.words.now) c.args.i word_bits = c.ones_among-enters.ensures in
    let where_from : (c.saturating_sub-from.result ≡ c.args.i - c.args.self.now.batches.size) × (c.saturating_sub.result ≡ c.args.i + word_bits - c.args.self.now.batches.size) = (c.saturating_sub-from.ensures, c.saturating_sub.ensures) in
    let marks_room : length c.clear.new.out ≡ length c.args.out.now = ap length c.clear.ensures ∙ length_cleared _ _ _ in
    let from = where_from in
    let room = c.requires.0.room in
    (omega (arith, from), omega (arith, from, marks_room, room), λ p l h. passed_few _ _ _ _ _ _ _ _ _ _ _ c.requires.0 c.requires.1 enters (omega arith) c.clear.ensures p (omega (arith, from)))

pub overflow_sub-leaves : goal.overflow_sub-leaves
overflow_sub-leaves c =
    let enters : c.ones_among-enters.result ≡ count (one_in c.args.self.now.words.now) c.args.i word_bits = c.ones_among-enters.ensures in
    let where_from : (c.saturating_sub-from.result ≡ c.args.i - c.args.self.now.batches.size) × (c.saturating_sub.result ≡ c.args.i + word_bits - c.args.self.now.batches.size) = (c.saturating_sub-from.ensures, c.saturating_sub.ensures) in
    let behind_left : (c.marks_among.result ≤ c.ones_among.result) × Left (one_in c.args.self.now.words.now) c.args.self.now.batches.size c.args.self.now.batches.threshold c.args.self.now.packets c.args.out.now c.clear.new.out c.args.left (count (marked (plan_of (one_in c.args.self.now.words.now) c.args.self.now.batches.size c.args.self.now.batches.threshold c.args.self.now.packets)) 0 c.args.i) c.ones_among-enters.result (c.args.i + word_bits) (c.ones_among.result - c.marks_among.result) = let from = where_from in
    let m : ℕ = c.saturating_sub.result - c.saturating_sub-from.result in
    let few : min m word_bits ≡ m = omega (arith, from) in
    passed_left _ _ _ _ _ _ _ _ _ _ _ c.requires.0 c.requires.1 enters (omega arith) c.clear.ensures c.saturating_sub-from.result m _ _ from.0 (omega (arith, from))
    (c.ones_among.ensures ∙ ap (count (one_in c.args.self.now.words.now) c.saturating_sub-from.result) few) c.marks_among.ensures in
    behind_left.0

pub overflow_sub-result : goal.overflow_sub-result
overflow_sub-result c =
    let enters : c.ones_among-enters.result ≡ count (one_in c.args.self.now.words.now) c.args.i word_bits = c.ones_among-enters.ensures in
    let where_from : (c.saturating_sub-from.result ≡ c.args.i - c.args.self.now.batches.size) × (c.saturating_sub.result ≡ c.args.i + word_bits - c.args.self.now.batches.size) = (c.saturating_sub-from.ensures, c.saturating_sub.ensures) in
    let behind_left : (c.marks_among.result ≤ c.ones_among.result) × Left (one_in c.args.self.now.words.now) c.args.self.now.batches.size c.args.self.now.batches.threshold c.args.self.now.packets c.args.out.now c.clear.new.out c.args.left (count (marked (plan_of (one_in c.args.self.now.words.now) c.args.self.now.batches.size c.args.self.now.batches.threshold c.args.self.now.packets)) 0 c.args.i) c.ones_among-enters.result (c.args.i + word_bits) (c.ones_among.result - c.marks_among.result) = let from = where_from in
    let m : ℕ = c.saturating_sub.result - c.saturating_sub-from.result in
    let few : min m word_bits ≡ m = omega (arith, from) in
    passed_left _ _ _ _ _ _ _ _ _ _ _ c.requires.0 c.requires.1 enters (omega arith) c.clear.ensures c.saturating_sub-from.result m _ _ from.0 (omega (arith, from))
    (c.ones_among.ensures ∙ ap (count (one_in c.args.self.now.words.now) c.saturating_sub-from.result) few) c.marks_among.ensures in
    behind_left.1.enough

pub returns : goal.returns
returns c =
    let enters : c.ones_among-enters.result ≡ count (one_in c.args.self.now.words.now) c.args.i word_bits = c.ones_among-enters.ensures in
    let where_from : (c.saturating_sub-from.result ≡ c.args.i - c.args.self.now.batches.size) × (c.saturating_sub.result ≡ c.args.i + word_bits - c.args.self.now.batches.size) = (c.saturating_sub-from.ensures, c.saturating_sub.ensures) in
    let behind_left : (c.marks_among.result ≤ c.ones_among.result) × Left (one_in c.args.self.now.words.now) c.args.self.now.batches.size c.args.self.now.batches.threshold c.args.self.now.packets c.args.out.now c.clear.new.out c.args.left (count (marked (plan_of (one_in c.args.self.now.words.now) c.args.self.now.batches.size c.args.self.now.batches.threshold c.args.self.now.packets)) 0 c.args.i) c.ones_among-enters.result (c.args.i + word_bits) (c.ones_among.result - c.marks_among.result) = let from = where_from in
    let m : ℕ = c.saturating_sub.result - c.saturating_sub-from.result in
    let few : min m word_bits ≡ m = omega (arith, from) in
    passed_left _ _ _ _ _ _ _ _ _ _ _ c.requires.0 c.requires.1 enters (omega arith) c.clear.ensures c.saturating_sub-from.result m _ _ from.0 (omega (arith, from))
    (c.ones_among.ensures ∙ ap (count (one_in c.args.self.now.words.now) c.saturating_sub-from.result) few) c.marks_among.ensures in
    behind_left.1.filling
