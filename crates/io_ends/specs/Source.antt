-- What a call of `take` does to the bytes that a source has left.
use Rattle.std.specs.Prelude.{◌≡◌, ◌↔◌, ℕ, List, [], ◌++◌, take, Option}

-- the first `count` bytes of the buffer are the first ones that were left, and none exactly at the end
pub record TakesFirst (count : ℕ) (before after buffer : List ℕ) : Type 0 where
  pub bytes : before ≡ take count buffer ++ after
  pub end : (count ≡ 0) ↔ (before ≡ [])

-- a source in memory: the bytes left, the number of calls before the one that fails, and the calls that failed
pub record MemoryInput : Type 0 where
  pub left : List ℕ
  pub fails_after : Option ℕ
  pub faults : ℕ
