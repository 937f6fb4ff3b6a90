-- Every line fits into its room: the laws of specs/Laws.antt. Assumes nothing.
use Prim.Native.Nat.{◌≤◌}
use mathlib.Core.Path.{refl}
use native.Mathlib.Omega.{arith}
use lib.ListN.{length, length-append}
use Rattle.refusal.specs.Table.{refusal_number, refusal_place}
use Rattle.block.specs.declared.LossRle.{LossRle}
use Rattle.block.specs.declared.BlockRead.TheVariants.{Typed, Rle, Unknown, Dropped}
use Rattle.block.specs.Types.{reason_number}
use Rattle.text.specs.Text.{decimal_most}
use Rattle.text.proofs.Digits.{length_decimal}
use Rattle.labels.specs.Words as words
use Rattle.labels.proofs.Lengths.{number_most, source_most}
use Rattle.fields.proofs.Lengths.{typed_most}
use Rattle.lines.specs.Lines.{rle_text}
use Rattle.lines.specs.Laws.{BlockFits, HeadFits, RefusalFits}

rle_most : (r : LossRle) → length (rle_text r) ≤ 400
unfolding rle_text
rle_most r =
    simp length-append (omega (
      arith,
      source_most words.rle_source 12 refl r.source,
      number_most words.begin 7 refl r.begin,
      number_most words.end 5 refl r.end,
      number_most words.lost 6 refl r.lost,
    ))

pub block_fits : BlockFits
block_fits k kind size (Typed b) = simp length-append (omega (arith, length_decimal decimal_most k, typed_most b))
block_fits k kind size (Rle r) = simp length-append (omega (arith, length_decimal decimal_most k, rle_most r))
block_fits k kind size Unknown =
    simp length-append (omega (
      arith,
      length_decimal decimal_most k,
      number_most words.unknown_type 14 refl kind,
      number_most words.bytes 7 refl size,
    ))
block_fits k kind size (Dropped d) =
    simp length-append (omega (
      arith,
      length_decimal decimal_most k,
      number_most words.dropped_type 14 refl kind,
      number_most words.reason 8 refl (reason_number d),
    ))

pub head_fits : HeadFits
head_fits sender count = simp length-append (omega (arith, source_most words.ssrc 5 refl sender, number_most words.blocks 8 refl count))

pub refusal_fits : RefusalFits
refusal_fits r = simp length-append (omega (arith, number_most words.refused 8 refl (refusal_number r), number_most words.place 4 refl (refusal_place r)))
