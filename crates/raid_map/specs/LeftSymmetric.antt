-- RAID-5 of n members as Linux md lays it out with ALGORITHM_LEFT_SYMMETRIC: the parity starts on the
-- last member and moves back by one from row to row, and a row's data starts behind its parity and wraps.
use Rattle.std.specs.Prelude.{◌≡◌, ◌≢◌, ℕ, ◌+◌, ◌-◌, ◌*◌, ◌/◌, ◌%◌, ◌<◌, ◌≤◌, ◌↔◌, ◌⊎◌}
use Rattle.raid_map.specs.declared.TheConstants.{CHUNK_SECTORS}

-- how many members an array may have
pub record IsMemberCount (n : ℕ) : Type 0 where
  pub least : 2 ≤ n
  pub most : n ≤ 16

-- the chunk of the array that has sector x, counted from 0
abbrev pub chunk_of : ℕ → ℕ
chunk_of x = x / CHUNK_SECTORS

-- the row of that chunk: each row has n - 1 chunks of the array
unfoldable pub row_of : ℕ → ℕ → ℕ
row_of n x = chunk_of x / (n - 1)

-- its place among the row's chunks
unfoldable pub column_of : ℕ → ℕ → ℕ
column_of n x = chunk_of x % (n - 1)

-- the row that has this sector of a member's data
abbrev pub row_at : ℕ → ℕ
row_at sector = sector / CHUNK_SECTORS

-- the member that has a row's parity
unfoldable pub parity_of : ℕ → ℕ → ℕ
parity_of n row = n - 1 - row % n

-- the member that has the parity at this sector of the members' data
unfoldable pub parity_at : ℕ → ℕ → ℕ
parity_at n sector = parity_of n (row_at sector)

-- the member that has sector x of the array
unfoldable pub member_of : ℕ → ℕ → ℕ
member_of n x = (parity_of n (row_of n x) + 1 + column_of n x) % n

-- the sector of that member's data
unfoldable pub sector_of : ℕ → ℕ → ℕ
sector_of n x = row_of n x * CHUNK_SECTORS + x % CHUNK_SECTORS

-- sector x of the array stands at this sector of this member's data
pub record StandsAt (n x member sector : ℕ) : Type 0 where
  pub on_member : member_of n x ≡ member
  pub at_sector : sector_of n x ≡ sector

-- what holds of the members of each row
pub record RowMembersDiffer (n : ℕ) : Type 0 where
  pub is_member : (x : ℕ) → member_of n x < n
  pub parity_is_member : (sector : ℕ) → parity_at n sector < n
  pub apart_from_parity : (x : ℕ) → member_of n x ≢ parity_at n (sector_of n x)
  pub apart : (x y : ℕ) → row_of n x ≡ row_of n y → chunk_of x ≢ chunk_of y → member_of n x ≢ member_of n y

abbrev pub HasRowMembersDiffer : Type 0
HasRowMembersDiffer = (n : ℕ) → IsMemberCount n → RowMembersDiffer n

-- a place that has parity and no sector of the array
pub record HasParity (n member sector : ℕ) : Type 0 where
  pub parity : member ≡ parity_at n sector
  pub no_data : (x : ℕ) → StandsAt n x member sector → ⊥

-- a place that has one sector of the array and no parity
pub record HasOne (n member sector : ℕ) : Type 0 where
  pub no_parity : member ≢ parity_at n sector
  pub x : ℕ
  pub stands : StandsAt n x member sector
  pub alone : (y : ℕ) → StandsAt n y member sector → y ≡ x

-- each sector of each member has parity, or exactly one sector of the array
abbrev pub HasEachPlaceOnce : Type 0
HasEachPlaceOnce = (n : ℕ) → IsMemberCount n → (member sector : ℕ) → member < n → HasParity n member sector ⊎ HasOne n member sector

-- A row is one chunk on each member: its sectors are those of no other row, and below row r stand
-- the first r rows of the members' data and the first r * (n - 1) chunks of the array.
pub record RowsApart (n : ℕ) : Type 0 where
  pub row : (x : ℕ) → row_at (sector_of n x) ≡ row_of n x
  pub offset : (x : ℕ) → sector_of n x % CHUNK_SECTORS ≡ x % CHUNK_SECTORS
  pub members_end : (sector r : ℕ) → (row_at sector < r) ↔ (sector < r * CHUNK_SECTORS)
  pub array_end : (x r : ℕ) → (row_of n x < r) ↔ (x < r * (n - 1) * CHUNK_SECTORS)

abbrev pub HasRowsApart : Type 0
HasRowsApart = (n : ℕ) → IsMemberCount n → RowsApart n
