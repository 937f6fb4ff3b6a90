-- `packet::body` meets its contract: the part that `body_part` gives is the body. Assumes nothing.
use Prim.Native.Nat.{ℕ, ◌+◌, ◌-◌}
use mathlib.Core.Path.{◌≡◌, refl, ap, ◌∙◌}
use native.Mathlib.Omega.{arith}
use lib.ListN.{length, take, drop}
use Rattle.frame.specs.Packet.{packet_of}
use Rattle.packet.specs.declared.Part.{Part}
use Rattle.packet.specs.Answers.{body_of, body_start}
use Rattle.packet.specs.Laws.{PartIs}
use Rattle.packet.proofs.Chosen.{part_is}
use Rattle.packet.proofs.body.Goals as goal

pub overflow_add-end : goal.overflow_add-end
overflow_add-end c =
    let start : c.body_part-part.result.start ≡ body_start (packet_of c.args.packet.now) c.args.index = ap (λ (p : Part). p.start) c.body_part-part.ensures in
    let size : c.body_part-part.result.length ≡ length (body_of (packet_of c.args.packet.now) c.args.index) = ap (λ (p : Part). p.length) c.body_part-part.ensures in
    let is : PartIs c.args.packet.now c.args.index = part_is _ _ in
    omega (arith, start, size, is.fits)

pub slice_bounds-result-end : goal.slice_bounds-result-end
slice_bounds-result-end c =
    let start : c.body_part-part.result.start ≡ body_start (packet_of c.args.packet.now) c.args.index = ap (λ (p : Part). p.start) c.body_part-part.ensures in
    let size : c.body_part-part.result.length ≡ length (body_of (packet_of c.args.packet.now) c.args.index) = ap (λ (p : Part). p.length) c.body_part-part.ensures in
    let is : PartIs c.args.packet.now c.args.index = part_is _ _ in
    omega (arith, start, size, is.fits)

pub returns : goal.returns
returns c =
    let start : c.body_part-part.result.start ≡ body_start (packet_of c.args.packet.now) c.args.index = ap (λ (p : Part). p.start) c.body_part-part.ensures in
    let size : c.body_part-part.result.length ≡ length (body_of (packet_of c.args.packet.now) c.args.index) = ap (λ (p : Part). p.length) c.body_part-part.ensures in
    let is : PartIs c.args.packet.now c.args.index = part_is _ _ in
    let length-is : c.body_part-part.result.start + c.body_part-part.result.length - c.body_part-part.result.start ≡ c.body_part-part.result.length = omega arith in
    let s = c.args.packet.now in record { part = ap (λ (n : ℕ). take n (drop c.body_part-part.result.start s)) (length-is ∙ size) ∙ ap (λ (n : ℕ). take (length (body_of (packet_of s) c.args.index)) (drop n s)) start ∙ is.body; place = (refl, omega (arith, start)) }
