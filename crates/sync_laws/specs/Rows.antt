-- Rows of the members' data: which members make the others of their row, what these give at a member that is rebuilt, and the sectors
-- that are written for them.
use Rattle.std.specs.Prelude.{◌≡◌, ℕ, ◌+◌, ◌*◌, ◌<◌, ◌≤◌, Bool, true, false, ◌==◌, ◌&&◌, ◌||◌, not, nat_lt, if◌then◌else◌, List, ◌++◌, map, length}
use Rattle.std.specs.List.{list_all, range_with_len}
use Rattle.rack.specs.Seen.{Image, RackView}
use Rattle.rack.specs.Targets.{Target}
use Rattle.rack.specs.Sequences.{IsPayload}
use Rattle.raid_map.specs.LeftSymmetric.{parity_at, row_at}
use Rattle.parity.specs.Xor.{xor_all, zeros}
use Rattle.array_image.specs.Places.{data_sector}
use Rattle.array_image.specs.Record.{are_apart}
use Rattle.array_image.specs.Stripes.{Layout, mirror, parity, width, given}
use Rattle.array_image.specs.Spent.{wanting, spent_with}
use Rattle.array_image.specs.Held.{current_in}
use Rattle.array_model.specs.View.{View, member_on, shape_of}
use Rattle.array_model.specs.Says.{IsOpen}
use Rattle.array_model.specs.Members.{members_of, row_layout, row_of, slice_on}

-- a member's sector is one of those that make the others of its row: of a mirror the first member's, of RAID-5 the data
abbrev pub makes_others : Layout → ℕ → ℕ → Bool
makes_others (mirror n) sector position = position == 0
makes_others (parity n) sector position = not (position == parity_at n sector)

abbrev pub is_source : View → ℕ → ℕ → Bool
is_source v sector position = makes_others (row_layout v sector) sector position

-- a member is missing or not rebuilt past a row
abbrev pub lacks_row : View → ℕ → Bool
lacks_row v row = nat_lt 0 (wanting (row * 128 + 127) (members_of v))

-- a member's sector if it makes the others, and zeros if it doesn't
abbrev pub source_sector : View → Image → ℕ → ℕ → List ℕ
source_sector v c sector position = if is_source v sector position then c (slice_on v position) (data_sector + sector) else zeros 512

-- what the first members that make the others give together
unfoldable pub row_sum : View → Image → ℕ → ℕ → List ℕ
row_sum v c sector many = xor_all 512 (map (source_sector v c sector) (range_with_len 0 many))

-- the members that make the others count at a sector
abbrev pub SourcesCount : View → ℕ → ℕ → Type 0
SourcesCount v sector many = (j : ℕ) → j < many → is_source v sector j ≡ true → sector < (member_on v j).reach

-- what the row's members hold makes these bytes, where they are told
abbrev pub IsRowSum : View → RackView → ℕ → List ℕ → Type 0
IsRowSum v a sector bytes = IsOpen (shape_of v) v.number a → bytes ≡ row_sum v (current_in a.held) sector (width (row_layout v sector))

-- ---- rows whose members agree

-- what the first members hold at a sector, as one sum
abbrev pub held_sum : View → Image → ℕ → ℕ → List ℕ
held_sum v c sector many = xor_all 512 (map (λ j. c (slice_on v j) (data_sector + sector)) (range_with_len 0 many))

-- the members of a sector's row agree in it, where they are told: a mirror's two are equal, and RAID-5 has its parity
abbrev pub IsAlike : View → RackView → ℕ → Type 0
IsAlike v a sector = IsOpen (shape_of v) v.number a → held_sum v (current_in a.held) sector (width (row_layout v sector)) ≡ zeros 512

-- so they do in those from one on
abbrev pub AreAlike : View → RackView → (first many : ℕ) → Type 0
AreAlike v a first many = (t : ℕ) → first ≤ t → t < first + many → IsAlike v a t

-- ---- a member that is rebuilt

-- each member but that of a place counts in a row, and the row isn't left to resync: so the others give that member's row
abbrev pub others_give : View → ℕ → ℕ → Bool
others_give v place row = list_all (λ m. (m.place == place) || nat_lt (row * 128 + 127) m.reach) (members_of v) && nat_lt row v.resync

-- a row can't be had: two members don't count in it, or one where it is left to resync
abbrev pub row_spent : View → ℕ → Bool
row_spent v row = spent_with (wanting (row * 128 + 127) (members_of v)) (nat_lt row v.resync)

-- these bytes are what the members of its row give at a position, where the row has that position and is told
abbrev pub IsGiven : View → RackView → ℕ → ℕ → List ℕ → Type 0
IsGiven v a position sector bytes =
    IsOpen (shape_of v) v.number a → position < width (row_layout v sector)
    → bytes ≡ given (row_layout v sector) (row_of v (current_in a.held) sector) position

-- ---- the sectors that are written

-- those of one member, from one sector on
abbrev pub OfMember : ℕ → ℕ → ℕ → ℕ → ℕ → Type 0
OfMember position first many t j = (first ≤ t) × (t < first + many) × (j ≡ position)

-- a sector of the first members that is made of others
abbrev pub OfSector : View → ℕ → ℕ → ℕ → ℕ → Type 0
OfSector v sector many t j = (t ≡ sector) × (j < many) × (is_source v t j ≡ false)

-- those of a row, up to some sector
abbrev pub OfRow : View → ℕ → ℕ → ℕ → ℕ → Type 0
OfRow v first many t j = (first ≤ t) × (t < first + many) × (j < width (row_layout v t)) × (is_source v t j ≡ false)

-- a target is such a sector, with such bytes
pub record IsCopy (v : View) (within : ℕ → ℕ → Type 0) (has_bytes : ℕ → List ℕ → Type 0) (d s : ℕ) (u : List ℕ) : Type 0 where
  pub sector : ℕ
  pub position : ℕ
  pub low : position < v.truth.raid_disks
  pub disk : d ≡ slice_on v position
  pub at : s ≡ data_sector + sector
  pub inside : within sector position
  pub bytes : has_bytes sector u
  pub long : length u ≡ 512

-- targets are all such sectors, each once
pub record AreCopies (v : View) (within : ℕ → ℕ → Type 0) (has_bytes : ℕ → List ℕ → Type 0) (xs : List Target) : Type 0 where
  pub on : (d s : ℕ) (u : List ℕ) → IsPayload xs d s u → IsCopy v within has_bytes d s u
  pub has : (t j : ℕ) → within t j → (u : List ℕ) × IsPayload xs (slice_on v j) (data_sector + t) u
  pub apart : are_apart xs ≡ true

-- a member counts in a row
abbrev pub counts_in : View → ℕ → ℕ → Bool
counts_in v row position = nat_lt (row * 128 + 127) (member_on v position).reach

-- a sector of those from one on, of the first members that count in its row
abbrev pub OfCounting : View → (first many members t j : ℕ) → Type 0
OfCounting v first many members t j = (first ≤ t) × (t < first + many) × (j < members) × (counts_in v (row_at t) j ≡ true)

-- two members don't count in a row
abbrev pub lacks_two : View → ℕ → Bool
lacks_two v row = nat_lt 1 (wanting (row * 128 + 127) (members_of v))

-- bytes of a sector of zeros
abbrev pub AreZeros : ℕ → List ℕ → Type 0
AreZeros sector bytes = bytes ≡ zeros 512

-- they are added to the targets of a log
pub record AddsCopies (v : View) (within : ℕ → ℕ → Type 0) (has_bytes : ℕ → List ℕ → Type 0) (many : ℕ) (before after : List Target) : Type 0 where
  pub targets : List Target
  pub appended : after ≡ before ++ targets
  pub few : length targets ≤ many
  pub copies : AreCopies v within has_bytes targets
