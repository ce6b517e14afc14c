-- What a rack shows to contracts.
use Rattle.std.specs.Prelude.{◌≡◌, ◌⊎◌, ℕ, ◌-◌, ◌<◌, ◌≤◌, ◌^◌, List, Bool, false, ◌==◌, ◌&&◌, if◌then◌else◌, Option, Some}
use Rattle.rack.specs.Values.{Values, MayLeave, append}

-- contents of all disks: the 512 bytes of a disk's sector
abbrev pub Image : Type 0
Image = ℕ → ℕ → List ℕ

-- what a read of contents gives: each sector can be read. Where there is no sector it is the empty list.
abbrev pub read_in : Image → ℕ → ℕ → Option (List ℕ)
read_in c disk sector = Some (c disk sector)

-- the values of each disk's sectors
abbrev pub Held : Type 0
Held = ℕ → ℕ → Values

-- all meanings of a rack
pub record RackView : Type 1 where
  -- the number of disks
  pub disks : ℕ
  -- the sectors of a disk
  pub sectors : ℕ → ℕ
  -- the values of a sector since its disk's last sync
  pub held : Held
  -- a time that never falls, one for all disks
  pub clock : ℕ
  -- a stop at this moment may leave these contents
  pub stops : ℕ → Image → Type 0
  -- a disk's count of faults, which never falls
  pub faults : ℕ → ℕ
  -- the rack can't give this sector any more
  pub spent : ℕ → ℕ → Bool
  -- no call takes a sector away for good, as on drives
  pub lasting : Type 0
  -- only spent sectors are refused
  pub steady : Type 0
  -- the rack's own tables lie inside the rack below
  pub fit : Type 0
  -- a disk's values are told
  pub told : ℕ → Type 0
  -- what stops may leave is told
  pub traced : Type 0

-- a count that stands still at its last value has risen, or stands there
abbrev pub Rose : ℕ → ℕ → Type 0
Rose before after = (before < after) ⊎ (2 ^ 64 - 1 ≤ after)

-- a sector of which a call speaks: told when it begins, and not spent when it returns
pub record IsLive (a b : RackView) (d s : ℕ) : Type 0 where
  pub disk : d < b.disks
  pub sector : s < b.sectors d
  pub is_told : a.told d
  pub unspent : b.spent d s ≡ false

-- contents that take one of the held values in each live sector
abbrev pub IsPick : RackView → RackView → Held → Image → Type 0
IsPick a b held c = (d s : ℕ) → IsLive a b d s → MayLeave (held d s) (c d s)

-- the values after a write to one sector
abbrev pub appended : Held → ℕ → ℕ → List ℕ → Held
appended held disk sector v =
    λ d s. if (d == disk) && (s == sector) then append (held d s) v else held d s

-- what no call changes, and what never falls
pub record SameRack (a b : RackView) : Type 0 where
  pub fit : b.fit
  pub disks : b.disks ≡ a.disks
  pub sectors : (d : ℕ) → b.sectors d ≡ a.sectors d
  pub faults : (d : ℕ) → a.faults d ≤ b.faults d
  pub spent : (d s : ℕ) → b.spent d s ≡ false → a.spent d s ≡ false
  pub lasting : a.lasting → b.lasting
  pub lasts : a.lasting → (d s : ℕ) → a.spent d s ≡ false → b.spent d s ≡ false
  pub steady : a.steady → b.steady
  pub told : (d : ℕ) → a.told d → b.told d
  pub traced : a.traced → b.traced
