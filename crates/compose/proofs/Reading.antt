-- A typed block that was added, read again: `AddedRead`, `AddedUnmeasured` and `MeasuredLater` of specs/Laws.antt. Assumes nothing.
use Prim.Native.Nat.{ℕ, ◌<◌}
use mathlib.Core.Path.{◌≡◌, refl, sym, ap, ◌∙◌}
use mathlib.Core.Bool.{Bool, true, false}
use mathlib.Core.List.{List, [], ◌∷◌, ◌++◌}
use native.Mathlib.Omega.{arith}
use borrow.Author.Tests.{eq-eqb}
use lib.ListN.{length, length-append}
use Rattle.refusal.specs.Table.{block_value}
use Rattle.refusal.specs.Answer.{unless}
use Rattle.refusal.proofs.Tests.{fails}
use Rattle.block.specs.Reading.{read_bytes, needs_of, measures_of}
use Rattle.block.specs.declared.Block.{Block}
use Rattle.block.specs.declared.Block.TheVariants.{Measured, Loss, Discard, Effective, Streams}
use Rattle.block.specs.declared.BlockRead.TheVariants.{Typed}
use Rattle.block.proofs.Cases.{bytes_read}
use Rattle.encode.specs.Words.{type_of, specific_of, body_words, words_of, in_bytes, bytes_of, writable}
use Rattle.encode.specs.Laws.{Fits}
use Rattle.encode.proofs.Framing.{type_small, specific_small, framed_bytes}
use Rattle.encode.proofs.ReadBack.{read_back}
use Rattle.frame.specs.Frames.{Entry}
use Rattle.frame.specs.Packet.{numbered, size_in}
use Rattle.frame.proofs.Numbering.{number_last, number_front}
use Rattle.packet.specs.Blocks.{read_alone, names, measured, read_among}
use Rattle.packet.specs.Answers.{found, answered}
use Rattle.packet.proofs.Judging.{has_measurement, lacks_measurement, measured_anywhere}
use Rattle.packet.proofs.Named.{measured_exactly}
use Rattle.compose.specs.Writing.{own_of, add_answer}
use Rattle.compose.specs.Laws.{after_add, Append, Appended, Add, block_entry, AddedRead, AddedUnmeasured, MeasuredLater}
use Rattle.compose.proofs.Adding.{fit}
use Rattle.compose.proofs.Growing.{added_good}
use Rattle.compose.proofs.Earlier.{measured_behind}
use Rattle.std.specs.Prelude.{Ok, Err, Some}

-- a good add is a good append, of a block that may be written
pub append : (s : List ℕ) (b : Block) (sender : ℕ) (es : List Entry) (n : ℕ) → Add s b sender es n → Append s (own_of b) (type_of b) (specific_of b) (body_words b) sender es n
append s b sender es n a = record { type_fits = type_small b; specific_fits = specific_small b; packet = a.packet; answer = a.answer }

may : (s : List ℕ) (b : Block) (n : ℕ) → add_answer s b ≡ Ok n → writable b ≡ true
may s b n h = go (writable b) (fit s (own_of b) (length (words_of b)) n h).accepted
  where
    go : (t : Bool) → unless t (Err block_value) (Ok (tt {0})) ≡ Ok (tt {0}) → t ≡ true
    go true e = refl
    go false e = let z : ◌≡◌ {A = ℕ} 0 1 = cc in absurd (omega arith)

-- the new block by itself, in a packet's list
entry_alone : (b : Block) (at : ℕ) → Fits b → writable b ≡ true → read_alone (block_entry b at) ≡ Typed b
unfolding read_alone
entry_alone b at fits w =
    sym (bytes_read (type_of b) (specific_of b) _ _ (in_bytes (body_words b))) ∙ ap read_bytes (sym (framed_bytes b)) ∙ read_back b fits w

module _ (s : List ℕ) (b : Block) (sender : ℕ) (es : List Entry) (n : ℕ) (a : Add s b sender es n) where
  abbrev new : Entry
  new = block_entry b (size_in s)

  pub behind : Appended s (after_add s b) (type_of b) (specific_of b) (body_words b) sender es n
  behind = added_good s (own_of b) (type_of b) (specific_of b) (body_words b) sender es n (append s b sender es n a)

  alone : read_alone new ≡ Typed b
  alone = entry_alone b (size_in s) a.fits (may s b n a.answer)

  -- in any packet in which it has its number
  in_packet : (all : List Entry) → numbered all (length es) ≡ Some new → found all (numbered all (length es)) ≡ answered (type_of b) (read_among all (Typed b))
  in_packet all n = rw (n, alone)

pub added_read : AddedRead
unfolding bytes_of
added_read s b sender es n a =
    let g = behind s b sender es n a in (
      ap read_bytes g.bytes ∙ read_back b a.fits (may s b n a.answer),
      rw g.packet (in_packet s b sender es n a (es ++ block_entry b (size_in s) ∷ []) (number_last es (block_entry b (size_in s)))),
    )

-- a block that needs a measurement measures nothing
needs_measures : (b : Block) (source : ℕ) → needs_of b ≡ Some source → (x : ℕ) → names (measures_of (Typed b)) x ≡ false
needs_measures (Measured m) source n x = let z : ◌≡◌ {A = ℕ} 0 1 = cc in absurd (omega arith)
needs_measures (Loss l) source n x = refl
needs_measures (Discard d) source n x = refl
needs_measures (Effective e) source n x = refl
needs_measures (Streams t) source n x = refl

pub added_unmeasured : AddedUnmeasured
added_unmeasured s b source sender es n a needs nowhere =
    let first = behind s b sender es n a in
    let e : Entry = block_entry b (size_in s) in
    let before : measured source es ≡ false = fails (measured source es) (λ h. nowhere (rw a.packet ((measured_exactly sender es source).0 h))) in
    let not_yet : measured source (es ++ e ∷ []) ≡ false = measured_behind source es e ∙ rw (before, alone s b sender es n a) (needs_measures b source needs source) in
    rw first.packet (in_packet s b sender es n a (es ++ e ∷ []) (number_last es e) ∙ ap (answered (type_of b)) (sym (lacks_measurement (es ++ e ∷ []) (Typed b) b source refl needs not_yet)))

pub measured_later : MeasuredLater
measured_later s b source sender es n a needs m n' fits same answer =
    let first = behind s b sender es n a in
    let e : Entry = block_entry b (size_in s) in
    let one_more : List Entry = es ++ e ∷ [] in
    let out : List ℕ = after_add s b in
    let a' : Add out (Measured m) sender one_more n' = record { fits = fits; packet = first.front; answer = answer } in
    let e' : Entry = block_entry (Measured m) (size_in out) in
    let second = behind out (Measured m) sender one_more n' a' in
    let now : measured source (one_more ++ e' ∷ []) ≡ true =
    measured_anywhere source one_more [] e' (rw (alone out (Measured m) sender one_more n' a') (eq-eqb m.source source same)) in
    let short : length es < length one_more = rw (length-append es (e ∷ [])) (omega arith) in
    rw second.packet
    (in_packet s b sender es n a (one_more ++ e' ∷ []) (number_front one_more (e' ∷ []) (length es) short ∙ number_last es e)
    ∙ ap (answered (type_of b)) (sym (has_measurement (one_more ++ e' ∷ []) (Typed b) b source refl needs now)))
