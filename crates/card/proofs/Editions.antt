-- Cards between editions of the set with different limits: `WiderSame` and `Narrower13` of specs/Laws.antt.
-- Assumes nothing.
use Prim.Native.Nat.{ℕ, ◌≤◌}
use mathlib.Core.Path.{◌≡◌}
use mathlib.Core.Bool.{true}
use native.Mathlib.Nat.{le_trans}
use borrow.Author.Tests.{le-leb}
use lib.Dec.{leb}
use Rattle.refusal.proofs.Tests.{and_left, both}
use Rattle.settings.specs.declared.Settings.{Settings}
use Rattle.settings.specs.Ranges.{batch_min, threshold_min, Limits, Wider, within, burst_in_range, batch_in_range, in_range}
use Rattle.settings.proofs.Bounds.{Between, all}
use Rattle.card.specs.Card.{read_card}
use Rattle.card.specs.Laws.{WiderSame, Narrower13}
use Rattle.card.proofs.Cases.{good, is_twenty}

-- settings in range stay so under wider limits
still_within : (low n high high' : ℕ) → Between low n high → high ≤ high' → within low n high' ≡ true
still_within low n high high' b h =
    both (leb low n) (leb n high') (le-leb low n b.least) (le-leb n high' (le_trans b.most h))

wider_range : (l l' : Limits) → Wider l l' → (s : Settings) → in_range l s ≡ true → in_range l' s ≡ true
unfolding in_range batch_in_range
wider_range l l' w s h =
    let r = (all l s h).batches in
    both (burst_in_range s.gmin s.spacing) (batch_in_range l' s.batch s.threshold)
    (and_left (burst_in_range s.gmin s.spacing) (batch_in_range l s.batch s.threshold) h)
    (both (within batch_min s.batch l'.batch) (within threshold_min s.threshold l'.threshold)
    (still_within _ _ _ _ r.first w.batch) (still_within _ _ _ _ r.second w.threshold))

pub wider_same : WiderSame
unfolding read_card
wider_same l l' w c s h =
    let g = good l c s h in
    rw (is_twenty c g.digits, g.right, g.same, wider_range l l' w s g.range)

pub narrower_13 : Narrower13
unfolding read_card
narrower_13 l l' c s h r = let g = good l' c s h in rw (is_twenty c g.digits, g.right, g.same, r)
