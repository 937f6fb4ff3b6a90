-- `packing::Chosen::octet` meets its contract. Assumes nothing.
use mathlib.Core.Path.{◌≡◌, ap, ◌∙◌}
use Rattle.trace.specs.Trace.{counted_at}
use Rattle.packed.specs.Words.{number_of}
use Rattle.packed.proofs.Numbers.{number_lt}
use Rattle.packing.specs.Steps.{brought, lowest, spread}
use Rattle.packing.proofs.Octets.{spread_most, joined_most}
use Rattle.packing.proofs.Counted.{flags_are}
use Rattle.packing.proofs.Chosen.octet.Goals as goal

pub flags-requires : goal.flags-requires
flags-requires c = rw c.loaded.ensures (joined_most _ _ c.args.self.now.packets)

pub gathered-requires : goal.gathered-requires
gathered-requires c =
    let flagged : c.flags.result ≡ spread 8 (number_of (counted_at c.args.self.now.event c.args.self.now.trace.now) c.args.i 8) = c.flags.ensures ∙ ap (λ e. lowest 8 (brought c.args.self.now.event e)) c.loaded.ensures ∙ flags_are c.args.self.now.event c.args.self.now.trace.now c.args.self.now.packets c.args.i 8 in
    rw flagged (spread_most _)

pub returns : goal.returns
returns c =
    let flagged : c.flags.result ≡ spread 8 (number_of (counted_at c.args.self.now.event c.args.self.now.trace.now) c.args.i 8) = c.flags.ensures ∙ ap (λ e. lowest 8 (brought c.args.self.now.event e)) c.loaded.ensures ∙ flags_are c.args.self.now.event c.args.self.now.trace.now c.args.self.now.packets c.args.i 8 in
    c.gathered.ensures _ (number_lt _ _ 8) flagged
