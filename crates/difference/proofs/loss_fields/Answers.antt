-- `difference::loss_fields` meets its contract: six places. Assumes nothing.
use Prim.Native.Nat.{◌+◌, ◌≤◌}
use mathlib.Core.Path.{refl}
use native.Mathlib.Omega.{arith}
use Rattle.block.specs.Types.{loss_type}
use Rattle.difference.proofs.Writing.{adds_length}
use Rattle.difference.proofs.Comparing.{places_both, sized, other_size}
use Rattle.difference.proofs.loss_fields.Goals as goal

pub returns-then-x-ne-LOSS_SIZE : goal.returns-then-x-ne-LOSS_SIZE
returns-then-x-ne-LOSS_SIZE c = other_size _ _ _ loss_type c.if-x-ne-LOSS_SIZE.true

pub add_word-n-requires : goal.add_word-n-requires
add_word-n-requires c =
    let few_1 : c.add_flag-n.result ≤ 4294967295 + 1 = omega (arith, c.add_flag-n.ensures.few, c.ranges) in
    omega (arith, few_1)

pub add_half-n-requires : goal.add_half-n-requires
add_half-n-requires c =
    let few_1 : c.add_flag-n.result ≤ 4294967295 + 1 = omega (arith, c.add_flag-n.ensures.few, c.ranges) in
    let few_2 : c.add_word-n.result ≤ 4294967295 + 2 = omega (arith, c.add_word-n.ensures.few, few_1) in
    omega (arith, few_2)

pub add_half-n-requires-2 : goal.add_half-n-requires-2
add_half-n-requires-2 c =
    let few_1 : c.add_flag-n.result ≤ 4294967295 + 1 = omega (arith, c.add_flag-n.ensures.few, c.ranges) in
    let few_2 : c.add_word-n.result ≤ 4294967295 + 2 = omega (arith, c.add_word-n.ensures.few, few_1) in
    let few_3 : c.add_half-n.result ≤ 4294967295 + 3 = omega (arith, c.add_half-n.ensures.few, few_2) in
    omega (arith, few_3)

pub add_half-n-requires-3 : goal.add_half-n-requires-3
add_half-n-requires-3 c =
    let few_1 : c.add_flag-n.result ≤ 4294967295 + 1 = omega (arith, c.add_flag-n.ensures.few, c.ranges) in
    let few_2 : c.add_word-n.result ≤ 4294967295 + 2 = omega (arith, c.add_word-n.ensures.few, few_1) in
    let few_3 : c.add_half-n.result ≤ 4294967295 + 3 = omega (arith, c.add_half-n.ensures.few, few_2) in
    let few_4 : c.add_half-n-2.result ≤ 4294967295 + 4 = omega (arith, c.add_half-n-2.ensures.few, few_3) in
    omega (arith, few_4)

pub add_half-requires : goal.add_half-requires
add_half-requires c =
    let few_1 : c.add_flag-n.result ≤ 4294967295 + 1 = omega (arith, c.add_flag-n.ensures.few, c.ranges) in
    let few_2 : c.add_word-n.result ≤ 4294967295 + 2 = omega (arith, c.add_word-n.ensures.few, few_1) in
    let few_3 : c.add_half-n.result ≤ 4294967295 + 3 = omega (arith, c.add_half-n.ensures.few, few_2) in
    let few_4 : c.add_half-n-2.result ≤ 4294967295 + 4 = omega (arith, c.add_half-n-2.ensures.few, few_3) in
    let few_5 : c.add_half-n-3.result ≤ 4294967295 + 5 = omega (arith, c.add_half-n-3.ensures.few, few_4) in
    omega (arith, few_5)

pub returns : goal.returns
returns c =
    sized _ _ _ loss_type c.if-x-ne-LOSS_SIZE.false
    (places_both refl
    (places_both refl
    (places_both refl
    (places_both refl
    (places_both refl c.add_flag-n.ensures c.add_word-n.ensures)
    c.add_half-n.ensures)
    c.add_half-n-2.ensures)
    c.add_half-n-3.ensures)
    c.add_half.ensures)

pub shape_of-out : goal.shape_of-out
shape_of-out c = adds_length _ _ _ _ _ (returns c)
