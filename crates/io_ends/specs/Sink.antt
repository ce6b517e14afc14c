-- What a call of `put` does to the bytes that a sink has taken.
use Rattle.std.specs.Prelude.{◌≡◌, ◌≤◌, ℕ, List, ◌++◌, length, take, Option}

-- a prefix of the piece was added
pub record AddsPrefix (before after piece : List ℕ) : Type 0 where
  pub count : ℕ
  pub within : count ≤ length piece
  pub bytes : after ≡ before ++ take count piece

-- a sink in memory: the bytes taken, the bytes that fit, the number of calls before the one that fails, and the calls that failed
pub record MemoryOutput : Type 0 where
  pub taken : List ℕ
  pub room : ℕ
  pub fails_after : Option ℕ
  pub faults : ℕ
