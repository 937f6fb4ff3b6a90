-- The part of a text that fits, put at its place, is the page of the definition, a page keeps its length, and text
-- that has room is put whole. Assumes nothing.
use Prim.Native.Nat.{ℕ, ◌+◌, ◌-◌, ◌≤◌}
use mathlib.Core.Path.{◌≡◌, sym}
use mathlib.Core.List.{List, [], ◌++◌, append_assoc}
use native.Mathlib.Omega.{arith}
use borrow.Rule.Slice.PartMut.{put_mid, Post-is}
use lib.ListN.{length, take, drop, length-append, length-take, length-drop}
use lib.Seq.{paste-zero, take_all}
use Rattle.text.specs.declared.Page.{Page}
use Rattle.text.specs.Page.{fitting, end_at, put_at, put_in}

module _ (page : List ℕ) (at : ℕ) (text : List ℕ) where
  put_part : (n : ℕ) (part : List ℕ) → n ≡ fitting page at text → part ≡ take n text → put_mid at (at + n - at) page part ≡ put_at page at text
  unfolding put_at end_at
  put_part n part h e = rw (Post-is at (at + n) page (omega arith), e, h) (sym (append_assoc (take at page) (take (fitting page at text) text) (drop (at + fitting page at text) page)))

  end_is : (n : ℕ) → n ≡ fitting page at text → at + n ≡ end_at page at text
  unfolding end_at
  end_is n h = rw h

  none_end : fitting page at text ≡ 0 → at ≡ end_at page at text
  unfolding end_at
  none_end none = omega arith

  none_put : fitting page at text ≡ 0 → page ≡ put_at page at text
  unfolding put_at end_at
  none_put none = rw none (paste-zero page at text)

  -- no byte fits past the end
  pub end_past : length page ≤ at → at ≡ end_at page at text
  end_past h = none_end (omega arith)

  pub put_past : length page ≤ at → page ≡ put_at page at text
  put_past h = none_put (omega arith)

  pub length_put : length (put_at page at text) ≡ length page
  unfolding put_at end_at
  length_put = simp (length-append, length-take, length-drop) (omega arith)

  pub end_inside : at ≤ length page → end_at page at text ≤ length page
  unfolding end_at
  end_inside h = omega arith

  -- text that has room is put whole
  pub end_room : at + length text ≤ length page → end_at page at text ≡ at + length text
  unfolding end_at
  end_room h = omega arith

  pub put_room : at + length text ≤ length page → put_at page at text ≡ take at page ++ text ++ drop (at + length text) page
  unfolding put_at end_at
  put_room h =
      let e : fitting page at text ≡ length text = omega arith in
      rw (e, take_all (length text) text (omega arith))

module _ (page : Page) (text : List ℕ) where
  whole : (now : List ℕ) (end : ℕ) → now ≡ put_at page.bytes.now page.at text → end ≡ end_at page.bytes.now page.at text →
      record { bytes = record page.bytes { now = now }; at = end } ≡ put_in page text
  unfolding put_in
  whole now end b e = rw (b, e)

  none : fitting page.bytes.now page.at text ≡ 0 → page ≡ put_in page text
  none h = whole page.bytes.now page.at (none_put _ _ _ h) (none_end _ _ _ h)

  pub put_none : length page.bytes.now ≤ page.at → page ≡ put_in page text
  put_none h = none (omega arith)

  pub put_some : (n : ℕ) (part : List ℕ) → n ≡ fitting page.bytes.now page.at text → part ≡ take n text →
      record { bytes = record page.bytes { now = put_mid page.at (page.at + n - page.at) page.bytes.now part }; at = page.at + n } ≡ put_in page text
  put_some n part h e = whole _ _ (put_part _ _ _ n part h e) (end_is _ _ _ n h)

pub put_nothing : (page : Page) → page ≡ put_in page []
put_nothing page = none page [] (omega arith)
