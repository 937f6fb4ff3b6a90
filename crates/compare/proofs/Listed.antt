-- Each entry of the lent list is a difference, each difference has its entry, and they stand in order: `ListedExactly` of
-- specs/Laws.antt. Assumes nothing.
use Prim.Native.Nat.{ℕ, ◌+◌, ◌*◌}
use mathlib.Core.Path.{◌≡◌, refl, ap, ◌∙◌}
use mathlib.Core.Logic.{◌⊎◌, inl, inr}
use mathlib.Core.Bool.{Bool, true, false}
use mathlib.Core.List.{List, ◌++◌}
use native.Mathlib.Omega.{arith}
use lib.Dec.{leb}
use lib.ListN.{length, get_or, drop}
use Rattle.refusal.specs.Table.{buffer_short}
use Rattle.refusal.specs.Answer.{unless}
use Rattle.frame.specs.Frames.{Entry}
use Rattle.difference.specs.declared.Difference.{Difference}
use Rattle.difference.specs.Differences.{senders, whole_block, where_unequal}
use Rattle.compare.specs.Differences.{contents, blocks_from, differences}
use Rattle.difference.specs.Numbers.{numbers_of}
use Rattle.compare.specs.Answer.{with_differences}
use Rattle.compare.specs.Laws.{IsDifference, sender_differs, field_differs, block_differs, first_only, second_only, row_of, Listed, ListedExactly}
use Rattle.compare.proofs.Members.{In, in_either, in_front, in_back, entry_is, in_at, at_in, ordered_at}
use Rattle.compare.proofs.Sound.{Diff, field_at, block_at, first_at, second_at, in_unequal, blocks_in_lem, ordered_all}
use Rattle.compare.proofs.Complete.{unequal_in, blocks_has}
use Rattle.compare.proofs.Contents.{contents_length, field_count, all_sized}
use Rattle.std.specs.Prelude.{Ok, Err}

module _ (a : ℕ) (xs : List Entry) (b : ℕ) (ys : List Entry) where
  abbrev all : List Difference
  all = differences a (contents xs xs) b (contents ys ys)

  -- the contents' differences are the blocks'
  from_contents : (d : Difference) → Diff 0 (contents xs xs) (contents ys ys) d → IsDifference a xs b ys d
  from_contents d (field_at j f t us vs k l p q w n is) =
      let i : 0 + j ≡ j = omega arith in
      field_differs j f t us vs (omega (arith, contents_length xs xs)) (omega (arith, contents_length ys ys)) p q w n (rw i at is)
  from_contents d (block_at j k l n m is) =
      let i : 0 + j ≡ j = omega arith in
      block_differs j (omega (arith, contents_length xs xs)) (omega (arith, contents_length ys ys)) n m (rw i at is)
  from_contents d (first_at j k l is) =
      let i : 0 + j ≡ j = omega arith in first_only j (omega (arith, contents_length xs xs)) (omega (arith, contents_length ys ys)) (rw i at is)
  from_contents d (second_at j k l is) =
      let i : 0 + j ≡ j = omega arith in second_only j (omega (arith, contents_length xs xs)) (omega (arith, contents_length ys ys)) (rw i at is)

  is_difference : (d : Difference) → In d all → IsDifference a xs b ys d
  is_difference d h = go (in_either d (where_unequal a b (senders a b)) (blocks_from 0 (contents xs xs) (contents ys ys)) h)
    where
      go : In d (where_unequal a b (senders a b)) ⊎ In d (blocks_from 0 (contents xs xs) (contents ys ys)) → IsDifference a xs b ys d
      go (inl i) = let s = in_unequal a b (senders a b) d i in sender_differs s.0 s.1
      go (inr i) = from_contents d (blocks_in_lem 0 (contents xs xs) (contents ys ys) d i)

  of_contents : (d : Difference) → Diff 0 (contents xs xs) (contents ys ys) d → In d all
  of_contents d h = in_back d (where_unequal a b (senders a b)) (blocks_from 0 (contents xs xs) (contents ys ys)) (blocks_has field_count 0 (contents xs xs) (contents ys ys) d (all_sized xs xs) (all_sized ys ys) h)

  has_entry : (d : Difference) → IsDifference a xs b ys d → In d all
  has_entry d (sender_differs n is) =
      rw is (in_front (senders a b) (where_unequal a b (senders a b)) (blocks_from 0 (contents xs xs) (contents ys ys)) (unequal_in a b (senders a b) n))
  has_entry d (field_differs k f t us vs l m p q w n is) =
      let i : 0 + k ≡ k = omega arith in
      of_contents d (field_at k f t us vs (omega (arith, contents_length xs xs)) (omega (arith, contents_length ys ys)) p q w n (rw i is))
  has_entry d (block_differs k l m n o is) =
      let i : 0 + k ≡ k = omega arith in
      of_contents d (block_at k (omega (arith, contents_length xs xs)) (omega (arith, contents_length ys ys)) n o (rw i is))
  has_entry d (first_only k l m is) =
      let i : 0 + k ≡ k = omega arith in
      of_contents d (first_at k (omega (arith, contents_length xs xs)) (omega (arith, contents_length ys ys)) (rw i is))
  has_entry d (second_only k l m is) =
      let i : 0 + k ≡ k = omega arith in
      of_contents d (second_at k (omega (arith, contents_length xs xs)) (omega (arith, contents_length ys ys)) (rw i is))

  listed : (rest : List ℕ) → Listed a xs b ys (numbers_of all ++ rest) (length all)
  listed rest =
      record {
        each_true = λ i l. record { difference = get_or all i (whole_block 0); row_is = entry_is all rest i l; differs = is_difference (get_or all i (whole_block 0)) (at_in all i l) };
        each_listed = λ d h. let p = in_at all d (has_entry d h) in record { index = p.index; within = p.within; is = entry_is all rest p.index p.within ∙ ap row_of p.is };
        ordered = λ i j h l. rw (entry_is all rest i (omega arith), entry_is all rest j l) (ordered_at all (ordered_all a b (senders a b) (contents xs xs) (contents ys ys) refl) i j h l);
      }

pub listed_exactly : ListedExactly
listed_exactly a xs b ys out n h = go (leb (5 * length (all a xs b ys)) (length out)) h
  where
    go : (t : Bool) → unless t (Err buffer_short) (Ok (length (all a xs b ys))) ≡ Ok n →
        Listed a xs b ys (with_differences (unless t (Err buffer_short) (Ok (length (all a xs b ys)))) (all a xs b ys) out) n
    go true e = let s : length (all a xs b ys) ≡ n = cc in rw (← s) (listed a xs b ys (drop (5 * length (all a xs b ys)) out))
    go false e = let z : ◌≡◌ {A = ℕ} 0 1 = cc in absurd (omega arith)
