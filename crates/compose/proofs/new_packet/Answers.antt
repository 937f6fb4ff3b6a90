-- `compose::new_packet` meets its contract: one of the cases of Adding.antt at each return. Assumes nothing.
use Prim.Native.Nat.{ℕ}
use mathlib.Core.Path.{ap, ◌∙◌}
use mathlib.Core.List.{List}
use native.Mathlib.Omega.{arith}
use Rattle.wire.specs.BigEndian.{bytes32, placed}
use Rattle.compose.proofs.Adding.{made_refused, made}
use Rattle.compose.proofs.new_packet.Goals as goal

pub returns-then-out-lt-FIRST_BLOCK : goal.returns-then-out-lt-FIRST_BLOCK
returns-then-out-lt-FIRST_BLOCK c = let told = made_refused _ _ c.if-out-lt-FIRST_BLOCK.true in record { answer = told.0; buffer = told.1 }

pub returns : goal.returns
returns c = let told = made _ _ _ (omega arith) (c.put_u32-2.ensures ∙ ap (λ (x : List ℕ). placed x 4 (bytes32 c.args.sender)) c.put_u32.ensures) in record { answer = told.0; buffer = told.1 }
