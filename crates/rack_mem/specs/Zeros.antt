-- A sector that was never written.
use Rattle.std.specs.Prelude.{ℕ, List, replicate}

-- 512 zeros
unfoldable pub zeros : List ℕ
zeros = replicate 512 0
