-- Bytes as one number, the first of them in its lowest eight bits.
use Rattle.std.specs.Prelude.{ℕ, ◌+◌, ◌*◌, List, [], ◌∷◌}

unfoldable pub packed : List ℕ → ℕ
packed [] = 0
packed (byte ∷ bytes) = byte + 256 * packed bytes
