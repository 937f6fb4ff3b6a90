-- Two blocks by their bytes: the cases of comparing them. Assumes nothing.
use Prim.Native.Nat.{ℕ, ◌+◌, ◌*◌, ◌<◌, ◌≤◌}
use mathlib.Core.Path.{◌≡◌, refl, sym, ap, ap₂, ◌∙◌}
use mathlib.Core.Bool.{Bool, true, false, cond, ◌&&◌}
use mathlib.Core.List.{List, [], ◌∷◌}
use native.Mathlib.Omega.{arith}
use borrow.Author.Tests.{eq-eqb, ne_eqb}
use lib.Dec.{eqb}
use lib.ListN.{length, get_or, drop, length-drop}
use Rattle.refusal.proofs.Tests.{and_left, and_right}
use Rattle.wire.specs.BigEndian.{be16}
use Rattle.wire.proofs.Numbers.{u16_inside}
use Rattle.block.specs.Reading.{read_bytes}
use Rattle.verdict.specs.Sources.{typed_by}
use Rattle.difference.specs.declared.Difference.{Difference}
use Rattle.difference.specs.Differences.{whole_block, only_first, only_second, fields_from}
use Rattle.difference.specs.Places.{values_in, field_differences}
use Rattle.compare.specs.Differences.{same_numbers, between}
use Rattle.compare.specs.Steps.{Whole, content_by, content_in, block_differences}
use Rattle.compare.proofs.Nothing.{same_bytes, between_self}

-- a list of at least four numbers by them
four_more : (x : List ℕ) → 4 ≤ length x → x ≡ get_or x 0 0 ∷ get_or x 1 0 ∷ get_or x 2 0 ∷ get_or x 3 0 ∷ drop 4 x
four_more [] h = absurd (omega arith)
four_more (a ∷ []) h = absurd (omega arith)
four_more (a ∷ b ∷ []) h = absurd (omega arith)
four_more (a ∷ b ∷ c ∷ []) h = absurd (omega arith)
four_more (a ∷ b ∷ c ∷ d ∷ x) h = refl

-- a block's length stands in its first word, so type, type-specific byte and body make the block
module _ (x y : List ℕ) (p : Whole x) (q : Whole y) (low : (j : ℕ) → get_or x j 0 < 256) (low' : (j : ℕ) → get_or y j 0 < 256) where
  size_is : (z : List ℕ) → Whole z → length z ≡ 4 + 4 * (get_or z 2 0 * 256 + get_or z 3 0)
  unfolding be16
  size_is z w = w.size ∙ ap (λ (n : ℕ). 4 + 4 * n) (let some = w.some in u16_inside z 2 (omega arith))

  pub same_block : get_or x 0 0 ∷ get_or x 1 0 ∷ drop 4 x ≡ get_or y 0 0 ∷ get_or y 1 0 ∷ drop 4 y → x ≡ y
  same_block e =
      let kind : get_or x 0 0 ≡ get_or y 0 0 = cc in
      let specific : get_or x 1 0 ≡ get_or y 1 0 = cc in
      let body : drop 4 x ≡ drop 4 y = cc in
      let long = ap length body in
      let a = length-drop 4 x in
      let b = length-drop 4 y in
      let c = p.some in
      let d = q.some in
      let f = size_is x p in
      let g = size_is y q in
      let i = low 2 in
      let j = low 3 in
      let k = low' 2 in
      let l = low' 3 in
      let high : get_or x 2 0 ≡ get_or y 2 0 = omega arith in
      let rest : get_or x 3 0 ≡ get_or y 3 0 = omega arith in
      four_more x p.some ∙ rw (kind, specific, high, rest, body) (sym (four_more y q.some))

module _ (k : ℕ) (x y table other : List ℕ) where
  abbrev here : Bool
  here = typed_by table (read_bytes x)

  abbrev there : Bool
  there = typed_by other (read_bytes y)

  abbrev all : List Difference
  all = between k (content_in table x) (content_in other y)

  -- the same bytes, typed in both packets or in neither; or in one alone
  pub pair_same : same_numbers x y ≡ true → here ≡ there → all ≡ []
  pair_same s e =
      ap₂ (λ (t : Bool) (z : List ℕ). between k (content_by t z) (content_in other y)) e (same_bytes x y s) ∙ between_self k (content_in other y)

  pub pair_alike : same_numbers x y ≡ true → table ≡ other → all ≡ []
  pair_alike s e = pair_same s (ap₂ (λ (t z : List ℕ). typed_by t (read_bytes z)) e (same_bytes x y s))

  pub pair_apart : (here ≡ there → ⊥) → all ≡ whole_block k ∷ []
  pair_apart n = go here there refl refl
    where
      go : (p q : Bool) → here ≡ p → there ≡ q → between k (content_by p x) (content_by q y) ≡ whole_block k ∷ []
      go true true p q = absurd (n (p ∙ sym q))
      go true false p q = refl
      go false true p q = refl
      go false false p q = absurd (n (p ∙ sym q))

  -- typed in both and of one type; or not so, with other bytes
  pub pair_fields : (eqb (get_or x 0 0) (get_or y 0 0) && (here && there)) ≡ true → all ≡ field_differences k x y
  unfolding field_differences
  pair_fields h =
      let type = and_left (eqb (get_or x 0 0) (get_or y 0 0)) (here && there) h in
      let both = and_right (eqb (get_or x 0 0) (get_or y 0 0)) (here && there) h in
      rw (and_left here there both, and_right here there both, type)

  pub pair_whole : (get_or x 0 0 ∷ get_or x 1 0 ∷ drop 4 x ≡ get_or y 0 0 ∷ get_or y 1 0 ∷ drop 4 y → ⊥) → (eqb (get_or x 0 0) (get_or y 0 0) && (here && there)) ≡ false → all ≡ whole_block k ∷ []
  pair_whole n h = go here there h
    where
      by_bytes : (t : Bool) → same_numbers (get_or x 0 0 ∷ get_or x 1 0 ∷ drop 4 x) (get_or y 0 0 ∷ get_or y 1 0 ∷ drop 4 y) ≡ t → cond t [] (whole_block k ∷ []) ≡ whole_block k ∷ []
      by_bytes true e = absurd (n (same_bytes (get_or x 0 0 ∷ get_or x 1 0 ∷ drop 4 x) (get_or y 0 0 ∷ get_or y 1 0 ∷ drop 4 y) e))
      by_bytes false e = refl

      by_type : (t : Bool) → (t && true) ≡ false → cond t (fields_from k 0 (values_in x) (values_in y)) (whole_block k ∷ []) ≡ whole_block k ∷ []
      by_type true e = let z : ◌≡◌ {A = ℕ} 0 1 = cc in absurd (omega arith)
      by_type false e = refl

      go : (p q : Bool) → (eqb (get_or x 0 0) (get_or y 0 0) && (p && q)) ≡ false → between k (content_by p x) (content_by q y) ≡ whole_block k ∷ []
      go true true e = by_type (eqb (get_or x 0 0) (get_or y 0 0)) e
      go true false e = refl
      go false true e = refl
      go false false e = by_bytes (same_numbers (get_or x 0 0 ∷ get_or x 1 0 ∷ drop 4 x) (get_or y 0 0 ∷ get_or y 1 0 ∷ drop 4 y)) refl

  -- a block that one packet alone has
  pub none_second : length y ≡ 0 → block_differences k table other x y ≡ only_first k ∷ []
  none_second h = rw (eq-eqb (length y) 0 h)

  pub none_first : (length y ≡ 0 → ⊥) → length x ≡ 0 → block_differences k table other x y ≡ only_second k ∷ []
  none_first m h = rw (ne_eqb (length y) 0 m, eq-eqb (length x) 0 h)

  pub in_both : (length y ≡ 0 → ⊥) → (length x ≡ 0 → ⊥) → block_differences k table other x y ≡ all
  in_both m n = rw (ne_eqb (length y) 0 m, ne_eqb (length x) 0 n)
