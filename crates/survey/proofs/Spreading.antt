-- Packed blocks taken apart from the front: the loop, and that the result is the list of blocks. Assumes nothing.
use Prim.Native.Nat.{ℕ, suc, ◌+◌, ◌*◌, ◌/◌, ◌%◌, ◌<◌, ◌≤◌}
use mathlib.Core.Path.{◌≡◌, refl, sym, ap, ◌∙◌}
use mathlib.Core.List.{List, [], ◌∷◌, ◌++◌}
use native.Mathlib.Omega.{arith}
use native.Mathlib.Numerals.{add-one}
use lib.ListN.{length, get_or, take, drop, set, length-set, length-drop, take-append-drop}
use lib.Seq.{take-suc, take-suc-set, drop-set-lt, get_or-drop, append_snoc}
use Rattle.frame.specs.Frames.{Entry}
use Rattle.packet.specs.Blocks.{read_in}
use Rattle.verdict.specs.Verdict.{verdict_of}
use Rattle.verdict.proofs.Members.{later}
use Rattle.verdict.proofs.Verdict.{verdict_small}
use Rattle.survey.specs.Survey.{listing}
use Rattle.survey.specs.Packed.{verdicts, packing, spread_of}

-- packed blocks taken apart are the list of blocks
pub spread_packing : (all es : List Entry) → spread_of (packing all es) ≡ listing all es
unfolding spread_of packing listing
spread_packing all [] = refl
spread_packing all (e ∷ es) =
    let small = verdict_small all e in
    let place : (e.place * verdicts + verdict_of (read_in all e)) / verdicts ≡ e.place = omega arith in
    let verdict : (e.place * verdicts + verdict_of (read_in all e)) % verdicts ≡ verdict_of (read_in all e) = omega arith in
    rw (place, verdict, spread_packing all es)

spread_append : (ps qs : List ℕ) → spread_of (ps ++ qs) ≡ spread_of ps ++ spread_of qs
unfolding spread_of
spread_append [] qs = refl
spread_append (p ∷ ps) qs = rw (spread_append ps qs)

-- The loop: the first i packed blocks stand apart, and those from count + i on are as they were.
pub record Spread (old : List ℕ) (count : ℕ) (out : List ℕ) (i : ℕ) : Type 0 where
  pub within : i ≤ count
  pub front : take (2 * i) out ≡ spread_of (take i (drop count old))
  pub back : drop (count + i) out ≡ drop (count + i) old
  pub long : length out ≡ length old

module _ (old : List ℕ) (count : ℕ) (room : 2 * count ≤ length old) where
  pub spread_start : Spread old count old 0
  unfolding spread_of
  spread_start = record { within = omega arith; front = refl; back = refl; long = refl }

  pub spread_read : (out : List ℕ) (i : ℕ) → Spread old count out i → get_or out (count + i) 0 ≡ get_or old (count + i) 0
  spread_read out i p =
      let none : count + i + 0 ≡ count + i = omega arith in
      rw none at (sym (get_or-drop (count + i) out 0 0) ∙ ap (λ (l : List ℕ). get_or l 0 0) p.back ∙ get_or-drop (count + i) old 0 0)

  pub spread_on : (out : List ℕ) (i : ℕ) → Spread old count out i → i < count →
      Spread old count (set (set out (2 * i) (get_or out (count + i) 0 / verdicts)) (2 * i + 1) (get_or out (count + i) 0 % verdicts)) (i + 1)
  unfolding spread_of
  spread_on out i p l =
      record {
        within = omega arith;
        front = ap (λ (n : ℕ). take n new) twice ∙ taken ∙ sym (rw (add-one i, grown, spread_append (take i (drop count old)) (packed ∷ []), ← p.front));
        back =
            drop-set-lt (count + (i + 1)) first (2 * i + 1) (packed % verdicts) (omega arith)
            ∙ drop-set-lt (count + (i + 1)) out (2 * i) (packed / verdicts) (omega arith)
            ∙ later (count + i) (count + (i + 1)) out old (omega arith) p.back;
        long = length-set first (2 * i + 1) (packed % verdicts) ∙ length-set out (2 * i) (packed / verdicts) ∙ p.long;
      }
    where
      packed : ℕ
      packed = get_or out (count + i) 0

      first : List ℕ
      first = set out (2 * i) (packed / verdicts)

      new : List ℕ
      new = set first (2 * i + 1) (packed % verdicts)

      twice : 2 * (i + 1) ≡ suc (suc (2 * i))
      twice = omega arith

      taken : take (suc (suc (2 * i))) new ≡ take (2 * i) out ++ (packed / verdicts ∷ packed % verdicts ∷ [])
      taken =
          let long = p.long in
          ap (λ (n : ℕ). take (suc (suc (2 * i))) (set first n (packed % verdicts))) (add-one (2 * i))
          ∙ take-suc-set first (suc (2 * i)) (packed % verdicts) (rw length-set (omega arith))
          ∙ ap (λ (l : List ℕ). l ++ (packed % verdicts ∷ [])) (take-suc-set out (2 * i) (packed / verdicts) (omega arith))
          ∙ append_snoc (take (2 * i) out) (packed / verdicts) (packed % verdicts ∷ [])

      grown : take (suc i) (drop count old) ≡ take i (drop count old) ++ (packed ∷ [])
      grown =
          take-suc (drop count old) i 0 (rw length-drop (omega arith))
          ∙ ap (λ (n : ℕ). take i (drop count old) ++ (n ∷ [])) (get_or-drop count old i 0 ∙ sym (spread_read out i p))

  pub spread_end : (out : List ℕ) (i : ℕ) → Spread old count out i → count ≤ i → out ≡ spread_of (take count (drop count old)) ++ drop (2 * count) old
  spread_end out i p h =
      let within = p.within in
      let all : i ≡ count = omega arith in
      let twice : count + i ≡ 2 * count = omega arith in
      sym (take-append-drop (2 * count) out)
      ∙ ap (λ (l : List ℕ). l ++ drop (2 * count) out) (rw all at p.front)
      ∙ ap (λ (l : List ℕ). spread_of (take count (drop count old)) ++ l) (rw twice at p.back)
