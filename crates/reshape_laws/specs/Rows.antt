-- What a call adds to the log for new rows: pieces of its members, each read of the array as it was, and their parity.
use Rattle.std.specs.Prelude.{◌≡◌, ℕ, ◌+◌, ◌-◌, ◌*◌, ◌<◌, ◌≤◌, Bool, true, false, ◌==◌, nat_lt, if◌then◌else◌, List, ◌++◌, map, length, Option}
use Rattle.std.specs.List.{range_with_len}
use Rattle.std.specs.Option.{option_map_or}
use Rattle.rack.specs.Values.{Values}
use Rattle.rack.specs.Seen.{RackView}
use Rattle.rack.specs.Targets.{Target}
use Rattle.rack.specs.Sequences.{IsPayload}
use Rattle.raid_map.specs.LeftSymmetric.{parity_at}
use Rattle.parity.specs.Xor.{xor, xor_all, zeros}
use Rattle.pool_state.specs.declared.contents.State.{State}
use Rattle.array_image.specs.Places.{data_sector}
use Rattle.array_image.specs.Record.{are_apart}
use Rattle.array_image.specs.Arrays.{Shape}
use Rattle.array_model.specs.View.{View, member_on, sectors_of, spent_in}
use Rattle.array_model.specs.Says.{ArrayInvariant}
use Rattle.array_model.specs.Members.{slice_on}
use Rattle.reshape_laws.specs.Ahead.{sector_on}

-- ---- sectors of members' data that are added to the targets of a log

-- a target is such a sector of a member, with such bytes
pub record IsPiece (v : View) (within : ℕ → ℕ → Type 0) (has_bytes : ℕ → ℕ → List ℕ → Type 0) (d s : ℕ) (u : List ℕ) : Type 0 where
  pub sector : ℕ
  pub position : ℕ
  pub low : position < v.truth.raid_disks
  pub disk : d ≡ slice_on v position
  pub at : s ≡ data_sector + sector
  pub inside : within sector position
  pub bytes : has_bytes sector position u
  pub long : length u ≡ 512

-- targets are all such sectors, each once
pub record ArePieces (v : View) (within : ℕ → ℕ → Type 0) (has_bytes : ℕ → ℕ → List ℕ → Type 0) (xs : List Target) : Type 0 where
  pub on : (d s : ℕ) (u : List ℕ) → IsPayload xs d s u → IsPiece v within has_bytes d s u
  pub has : (t j : ℕ) → within t j → (u : List ℕ) × IsPayload xs (slice_on v j) (data_sector + t) u × has_bytes t j u
  pub apart : are_apart xs ≡ true

-- they are added to the targets of a log
pub record AddsPieces (v : View) (within : ℕ → ℕ → Type 0) (has_bytes : ℕ → ℕ → List ℕ → Type 0) (many : ℕ) (before after : List Target) : Type 0 where
  pub targets : List Target
  pub appended : after ≡ before ++ targets
  pub few : length targets ≤ many
  pub pieces : ArePieces v within has_bytes targets

-- ---- new rows

-- a position is the absent one, which gets no sector
abbrev pub is_absent : Option ℕ → ℕ → Bool
is_absent absent position = option_map_or (λ p. p == position) absent false

-- a member counts in a row
abbrev pub counts_in : View → ℕ → ℕ → Bool
counts_in v row position = nat_lt (row * 128 + 127) (member_on v position).reach

-- at most one member doesn't count in the rows from the first one to the last: the absent one, which counts in none of them
pub record IsAbsent (v : View) (first last : ℕ) (absent : Option ℕ) : Type 0 where
  pub lacks : (j : ℕ) → j < v.truth.raid_disks → is_absent absent j ≡ true → counts_in v first j ≡ false
  pub others : (j : ℕ) → j < v.truth.raid_disks → is_absent absent j ≡ false → counts_in v last j ≡ true

-- the first positions at a sector, but the absent one
abbrev pub OfSector : ℕ → ℕ → Option ℕ → ℕ → ℕ → Type 0
OfSector sector many absent t j = (t ≡ sector) × (j < many) × (is_absent absent j ≡ false)

-- of these those that have data
abbrev pub OfData : ℕ → ℕ → ℕ → Option ℕ → ℕ → ℕ → Type 0
OfData members sector many absent t j = (t ≡ sector) × (j < many) × (is_absent absent j ≡ false) × (j ≡ parity_at members t → ⊥)

-- one position at a sector, which has data
abbrev pub OfOneData : ℕ → ℕ → ℕ → Option ℕ → ℕ → ℕ → Type 0
OfOneData members sector position absent t j = (t ≡ sector) × (j ≡ position) × (is_absent absent j ≡ false) × (j ≡ parity_at members t → ⊥)

-- one position at a sector
abbrev pub OfOne : ℕ → ℕ → Option ℕ → ℕ → ℕ → Type 0
OfOne sector position absent t j = (t ≡ sector) × (j ≡ position) × (is_absent absent j ≡ false)

-- those of so many sectors of all members
abbrev pub OfSectors : ℕ → ℕ → ℕ → Option ℕ → ℕ → ℕ → Type 0
OfSectors members first many absent t j = (first ≤ t) × (t < first + many) × (j < members) × (is_absent absent j ≡ false)

-- the bytes that an array has at a sector, which isn't spent, or zeros past its end
pub data IsOld (v : View) (a : RackView) (x : ℕ) (bytes : List ℕ) : Type 0 where
  read :
      spent_in v x ≡ false
      → ((s : State) (durable : Shape) (vals : ℕ → Values) (spent : ℕ → Bool) → ArrayInvariant s durable v vals spent a → spent x ≡ false → bytes ≡ (vals x).current)
      → IsOld v a x bytes
  past : sectors_of v ≤ x → v.truth.reshape_position ≤ x → bytes ≡ zeros 512 → IsOld v a x bytes

-- the data of the first positions at a sector of a row of k members
abbrev pub HasData : View → RackView → ℕ → ℕ → (ℕ → List ℕ) → Type 0
HasData v a t many bytes =
    (j : ℕ) → j < many → (j ≡ parity_at v.truth.raid_disks t → ⊥) → IsOld v a (sector_on v.truth.raid_disks j t) (bytes j)

-- their sum
unfoldable pub data_sum : ℕ → ℕ → ℕ → (ℕ → List ℕ) → List ℕ
data_sum members t many bytes = xor_all 512 (map (λ j. if j == parity_at members t then zeros 512 else bytes j) (range_with_len 0 many))

-- the sectors of a new row at one sector of its members' data
pub record HasPieces (v : View) (a : RackView) (t : ℕ) (bytes : ℕ → List ℕ) : Type 0 where
  pub data_is : HasData v a t v.truth.raid_disks bytes
  pub parity_is : bytes (parity_at v.truth.raid_disks t) ≡ data_sum v.truth.raid_disks t v.truth.raid_disks bytes

-- bytes of a member's sector in a new row
pub record IsNewBytes (v : View) (a : RackView) (t j : ℕ) (u : List ℕ) : Type 0 where
  pub bytes : ℕ → List ℕ
  pub pieces : HasPieces v a t bytes
  pub own : u ≡ bytes j

-- how many of the first positions have data at a sector
abbrev pub data_count : ℕ → ℕ → ℕ → ℕ
data_count members sector many = if nat_lt (parity_at members sector) many then many - 1 else many

-- one position's data, which is added to a sum and to the log
pub record AddsPiece (v : View) (a : RackView) (sector position : ℕ) (absent : Option ℕ) (sum next : List ℕ) (before after : List Target) : Type 0 where
  pub bytes : List ℕ
  pub old : (position ≡ parity_at v.truth.raid_disks sector → ⊥) → IsOld v a (sector_on v.truth.raid_disks position sector) bytes
  pub sum_is : next ≡ xor sum (if position == parity_at v.truth.raid_disks sector then zeros 512 else bytes)
  pub adds : AddsPieces v (OfOneData v.truth.raid_disks sector position absent) (λ t j u. u ≡ bytes) (if position == parity_at v.truth.raid_disks sector then 0 else 1) before after

-- that of the first positions
pub record AddsData (v : View) (a : RackView) (sector many : ℕ) (absent : Option ℕ) (sum : List ℕ) (before after : List Target) : Type 0 where
  pub bytes : ℕ → List ℕ
  pub old : HasData v a sector many bytes
  pub sum_is : sum ≡ data_sum v.truth.raid_disks sector many bytes
  pub adds : AddsPieces v (OfData v.truth.raid_disks sector many absent) (λ t j u. u ≡ bytes j) (data_count v.truth.raid_disks sector many) before after
