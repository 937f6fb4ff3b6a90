-- `frame::read_header` meets its contract: each return is one of the cases of FirstBytes.antt. Assumes nothing.
use Prim.Native.Nat.{ℕ, ◌+◌, ◌*◌}
use mathlib.Core.Path.{◌≡◌, sym, ap, ap₂, ◌∙◌}
use native.Mathlib.Omega.{arith}
use lib.ListN.{length}
use Rattle.wire.proofs.Numbers.{u16_inside, u32_inside}
use Rattle.frame.specs.Packet.{size_in, size_fits}
use Rattle.frame.proofs.FirstBytes.{read_as, short, other_version, other_type, other_length, padded, sent}
use Rattle.frame.proofs.read_header.Goals as goal

pub returns-then-s-lt-FIRST_BLOCK : goal.returns-then-s-lt-FIRST_BLOCK
returns-then-s-lt-FIRST_BLOCK c = short _ _ c.if-s-lt-FIRST_BLOCK.true

pub returns-then-first-ne2 : goal.returns-then-first-ne2
returns-then-first-ne2 c = other_version _ _ c.if-s-lt-FIRST_BLOCK.false c.if-first-ne2.true

pub returns-then-s : goal.returns-then-s
returns-then-s c = other_type _ _ c.if-s-lt-FIRST_BLOCK.false c.if-first-ne2.false c.if-s.true

pub returns-then-not-size_fits : goal.returns-then-not-size_fits
returns-then-not-size_fits c =
    let size : 4 * (c.u16_at.result + 1) ≡ size_in c.args.s.now = ap (λ (w : ℕ). 4 * (w + 1)) (c.u16_at.ensures ∙ u16_inside c.args.s.now 2 (omega arith)) in
    let fits : c.size_fits.result ≡ size_fits c.args.extent (size_in c.args.s.now) (length c.args.s.now) = c.size_fits.ensures ∙ ap (λ (n : ℕ). size_fits c.args.extent n (length c.args.s.now)) size in
    other_length _ _ c.if-s-lt-FIRST_BLOCK.false c.if-first-ne2.false c.if-s.false (sym fits ∙ c.if-not-size_fits.true)

pub returns-then-first-ne0 : goal.returns-then-first-ne0
returns-then-first-ne0 c =
    let size : 4 * (c.u16_at.result + 1) ≡ size_in c.args.s.now = ap (λ (w : ℕ). 4 * (w + 1)) (c.u16_at.ensures ∙ u16_inside c.args.s.now 2 (omega arith)) in
    let fits : c.size_fits.result ≡ size_fits c.args.extent (size_in c.args.s.now) (length c.args.s.now) = c.size_fits.ensures ∙ ap (λ (n : ℕ). size_fits c.args.extent n (length c.args.s.now)) size in
    padded _ _ c.if-s-lt-FIRST_BLOCK.false c.if-first-ne2.false c.if-s.false (sym fits ∙ c.if-not-size_fits.false) c.if-first-ne0.true

pub returns : goal.returns
returns c =
    let size : 4 * (c.u16_at.result + 1) ≡ size_in c.args.s.now = ap (λ (w : ℕ). 4 * (w + 1)) (c.u16_at.ensures ∙ u16_inside c.args.s.now 2 (omega arith)) in
    let fits : c.size_fits.result ≡ size_fits c.args.extent (size_in c.args.s.now) (length c.args.s.now) = c.size_fits.ensures ∙ ap (λ (n : ℕ). size_fits c.args.extent n (length c.args.s.now)) size in
    let s = c.args.s.now in
    ap₂ read_as (c.u32_at.ensures ∙ u32_inside s 4 (omega arith)) size
    ∙ sent _ s c.if-s-lt-FIRST_BLOCK.false c.if-first-ne2.false c.if-s.false (sym fits ∙ c.if-not-size_fits.false) c.if-first-ne0.false
