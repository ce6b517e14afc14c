-- A text that grows.
use Rattle.std.specs.Prelude.{ℕ, ◌+◌, ◌≤◌, List, length}

-- its bytes, and how many more there is room for
pub record Written : Type 0 where
  pub bytes : List ℕ
  pub spare : ℕ

-- at most so many bytes were appended, and no room was lost
pub record Grows (old new : Written) (most : ℕ) : Type 0 where
  pub short : length new.bytes ≤ length old.bytes + most
  pub room : length old.bytes + old.spare ≤ length new.bytes + new.spare
