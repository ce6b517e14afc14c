-- Calls in a row that write parts of a new pool.
use Rattle.std.proofs.Common.{◌≡◌, ◌⊎◌, ℕ, Bool, Option, None, ◌+◌, ◌*◌, ◌<◌, ◌≤◌, ◌^◌, ◌==◌, ◌-◌, true, false, List, length, slice_get, if◌then◌else◌, Some, Result, Ok, Err, IfErr, refl, sym, ap, subst, ◌∙◌, inl, inr, eq-eqb, arith}
use Rattle.std.specs.Option.{option_map_or}
use Rattle.std.proofs.lemmas.Bool.{ne_eqb}
use Rattle.std.proofs.lemmas.Option.{slice_get_within}
use Rattle.rack.specs.declared.Gone.{Gone}
use Rattle.rack.specs.Seen.{RackView, Rose, SameRack}
use Rattle.rack.specs.Calls.{Writes, Syncs}
use Rattle.rack.specs.Joins.{rose_since}
use Rattle.rack.specs.Sequences.{WritesOnly, WritesDurably}
use Rattle.rack.proofs.Durably.{durable_only}
use Rattle.rack.proofs.Writing.{only_quiet, only_refused, only_then, only_weaker, only_written}
use Rattle.gpt_table.specs.declared.Table.{Table}
use Rattle.gpt_table.specs.declared.TableCopy.TheVariants.{Primary, Backup}
use Rattle.gpt_table.specs.Plans.{IsOfTable, WritesTable, in_table}
use Rattle.gpt_table.proofs.Copies.{copy_is_on_disk}
use Rattle.array_image.specs.Places.{data_sector, log_sectors, place_of, slice_of, state_sector}
use Rattle.pool_format.specs.declared.planning.NewArray.{NewArray}
use Rattle.pool_format.specs.declared.planning.NewPool.{NewPool}
use Rattle.pool_format.specs.Plan.{HasRoom, IsPlan, has}
use Rattle.pool_format.specs.Slices.{first_planned, sectors_planned}
use Rattle.pool_format.specs.Data.{IsDataOf}
use Rattle.pool_format.specs.Writing.{InLaying, IsOfSlice, Lays}
use Rattle.new_array.proofs.Lists.{filtered}

-- ---- parts

-- a sector of the log slice
pub log_part : (plan : NewPool) (d at : ℕ) → d < length plan.units.items → at < log_sectors → IsOfSlice plan d (state_sector + at)
log_part plan d at drive within =
    let log : (slice_of (17 * d) == 0) ≡ true = eq-eqb (slice_of (17 * d)) 0 (omega arith) in
    record {
      drive = drive;
      slice = 17 * d;
      place = omega arith;
      at = at;
      within = subst (λ b. at < (if b then log_sectors else option_map_or (λ (a : NewArray). if has a.members.items (place_of (17 * d)) then a.size + data_sector else 0) (slice_get plan.arrays.items (slice_of (17 * d) - 1)) 0)) (sym log) within;
      sector = ap (λ b. (if b then state_sector else option_map_or (λ (a : NewArray). a.first) (slice_get plan.arrays.items (slice_of (17 * d) - 1)) 0) + at) (sym log);
    }

-- a member is a drive
pub member_drive : (plan : NewPool) → IsPlan plan → (n d : ℕ) (a : NewArray) → slice_get plan.arrays.items n ≡ Some a → has a.members.items d ≡ true → d < length plan.units.items
member_drive plan is n d a at among =
    let array = is.each n a at in
    let low = (filtered array.reaches 0 (length plan.units.items) d (subst (λ xs. has xs d ≡ true) array.members_are among)).1 in
    omega (arith, low)

-- the sectors of a member's slice, and where it begins
pub member_slice_is : (plan : NewPool) → IsPlan plan → (n d : ℕ) (a : NewArray) → slice_get plan.arrays.items n ≡ Some a → has a.members.items d ≡ true
    → (sectors_planned plan.arrays.items (17 * d + n + 1) ≡ a.size + data_sector) × (first_planned plan.arrays.items (17 * d + n + 1) ≡ a.first)
member_slice_is plan is n d a at among =
    let arrays = plan.arrays.items in
    let k = 17 * d + n + 1 in
    let number = slice_get_within arrays n a at in
    let few = is.few in
    let slice : slice_of k ≡ n + 1 = omega (arith, number, few) in
    let other : (slice_of k == 0) ≡ false = ne_eqb (slice_of k) 0 (λ same. omega (arith, same, slice)) in
    let index : slice_of k - 1 ≡ n = omega (arith, slice) in
    let place : place_of k ≡ d = omega (arith, number, few) in
    let here : slice_get arrays (slice_of k - 1) ≡ Some a = ap (slice_get arrays) index ∙ at in (
      ap (λ b. if b then log_sectors else option_map_or (λ (e : NewArray). if has e.members.items (place_of k) then e.size + data_sector else 0) (slice_get arrays (slice_of k - 1)) 0) other
          ∙ ap (λ o. option_map_or (λ (e : NewArray). if has e.members.items (place_of k) then e.size + data_sector else 0) o 0) here
          ∙ ap (λ p. if has a.members.items p then a.size + data_sector else 0) place
          ∙ ap (λ b. if b then a.size + data_sector else 0) among,
      ap (λ b. if b then state_sector else option_map_or (λ (e : NewArray). e.first) (slice_get arrays (slice_of k - 1)) 0) other
          ∙ ap (λ o. option_map_or (λ (e : NewArray). e.first) o 0) here,
    )

-- a sector of a member's slice
pub member_part : (plan : NewPool) → IsPlan plan → (n d at : ℕ) (a : NewArray) → slice_get plan.arrays.items n ≡ Some a → has a.members.items d ≡ true
    → at < a.size + data_sector → IsOfSlice plan d (a.first + at)
member_part plan is n d at a here among within =
    let slice = member_slice_is plan is n d a here among in
    let number = slice_get_within plan.arrays.items n a here in
    let few = is.few in
    record {
      drive = member_drive plan is n d a here among;
      slice = 17 * d + n + 1;
      place = omega (arith, number, few);
      at = at;
      within = let size = slice.0 in omega (arith, within, size);
      sector = ap (λ k. k + at) (sym slice.1);
    }

-- ---- where tables lie

-- a sector of a table is one of the first 34 or of the last 33
table_bounds : (n s : ℕ) → IsOfTable n s → (s < 34) ⊎ (n ≤ s + 33)
table_bounds n s (inl mbr) = inl (omega (arith, mbr))
table_bounds n s (inr (inl (inl header))) = inl (omega (arith, header))
table_bounds n s (inr (inl (inr among))) = inl (let high = among.1 in omega (arith, high))
table_bounds n s (inr (inr (inl header))) = inr (omega (arith, header))
table_bounds n s (inr (inr (inr among))) = inr (let low = among.0 in omega (arith, low))

pub table_on_disk : (n s : ℕ) → 67 ≤ n → IsOfTable n s → s < n
table_on_disk n s room (inl mbr) = omega (arith, room, mbr)
table_on_disk n s room (inr (inl of)) = copy_is_on_disk Primary n s room of
table_on_disk n s room (inr (inr of)) = copy_is_on_disk Backup n s room of

-- ---- where parts lie

module _ (plan : NewPool) (x : RackView) (is : IsPlan plan) (room : HasRoom plan x) where
  member_sectors : (d s at k : ℕ) → place_of k ≡ d → (o : Option NewArray) → slice_get plan.arrays.items (slice_of k - 1) ≡ o
      → at < option_map_or (λ (a : NewArray). if has a.members.items (place_of k) then a.size + data_sector else 0) o 0
      → s ≡ option_map_or (λ (a : NewArray). a.first) o 0 + at → (2048 ≤ s) × (s + 33 < x.sectors d)
  member_sectors d s at k place None none within sector = absurd (omega (arith, within))
  member_sectors d s at k place (Some a) here within sector = of (has a.members.items (place_of k)) refl within
    where
      of : (b : Bool) → has a.members.items (place_of k) ≡ b → at < (if b then a.size + data_sector else 0) → (2048 ≤ s) × (s + 33 < x.sectors d)
      of false other below = absurd (omega (arith, below))
      of true among below =
          let fits = room.members (slice_of k - 1) d a here (subst (λ p. has a.members.items p ≡ true) place among) in
          let first = (is.each (slice_of k - 1) a here).first in
          (omega (arith, first, sector), omega (arith, fits, sector, below))

  -- a sector of a slice lies behind the primary table, and before the backup
  pub slice_bounds : (d s : ℕ) → IsOfSlice plan d s → (2048 ≤ s) × (s + 33 < x.sectors d)
  slice_bounds d s of = by (slice_of of.slice == 0) of.within of.sector
    where
      by : (b : Bool)
          → of.at < (if b then log_sectors else option_map_or (λ (a : NewArray). if has a.members.items (place_of of.slice) then a.size + data_sector else 0) (slice_get plan.arrays.items (slice_of of.slice - 1)) 0)
          → s ≡ (if b then state_sector else option_map_or (λ (a : NewArray). a.first) (slice_get plan.arrays.items (slice_of of.slice - 1)) 0) + of.at
          → (2048 ≤ s) × (s + 33 < x.sectors d)
      by true within sector =
          let drive = of.drive in
          let disks = room.disks in
          let logs = room.logs d (omega (arith, drive, disks)) in
          (omega (arith, sector), omega (arith, logs, within, sector))
      by false within sector = member_sectors d s of.at of.slice of.place (slice_get plan.arrays.items (slice_of of.slice - 1)) refl within sector

  -- no sector of a table is one of a slice
  pub table_apart : (d s : ℕ) → IsOfTable (x.sectors d) s → IsOfSlice plan d s → ⊥
  table_apart d s table slice =
      let bounds = slice_bounds d s slice in
      let low = bounds.0 in
      let high = bounds.1 in
      elim (table_bounds (x.sectors d) s table) [ inl first ↦ omega (arith, first, low) | inr last ↦ omega (arith, last, high) ]

-- ---- calls in a row

pub lays_after : (may : ℕ → ℕ → List ℕ → Type 0) (a b c : RackView) (r : Result (Unit {0}) Gone) → WritesOnly a b may → Lays may b c r → Lays may a c r
lays_after may a b c (Ok x) one two = record { only = only_then may one two.only; gone = tt }
lays_after may a b c (Err e) one two = record {
  only = only_then may one two.only;
  gone = (subst (λ n. e.disk < n) one.stays.disks two.gone.0, rose_since (one.stays.faults e.disk) two.gone.1);
}

pub lays_weaker : (may more : ℕ → ℕ → List ℕ → Type 0) (a b : RackView) (r : Result (Unit {0}) Gone) → ((d s : ℕ) (v : List ℕ) → may d s v → more d s v)
    → Lays may a b r → Lays more a b r
lays_weaker may more a b r weaker lays = record { only = only_weaker may more weaker lays.only; gone = lays.gone }

pub lays_end : (may : ℕ → ℕ → List ℕ → Type 0) (a b : RackView) → WritesOnly a b may → Lays may a b {X = Unit {0}} (Ok tt)
lays_end may a b laid = record { only = laid; gone = tt }

gone_inside : (a b : RackView) (disk : ℕ) (r : Result (Unit {0}) Gone) → disk < a.disks → IfErr r (λ e. (e.disk ≡ disk) × Rose (a.faults disk) (b.faults disk))
    → IfErr r (λ e. (e.disk < a.disks) × Rose (a.faults e.disk) (b.faults e.disk))
gone_inside a b disk (Ok x) inside gone = tt
gone_inside a b disk (Err e) inside gone = (subst (λ k. k < a.disks) (sym gone.0) inside, subst (λ k. Rose (a.faults k) (b.faults k)) (sym gone.0) gone.1)

pub lays_durable : (may : ℕ → ℕ → List ℕ → Type 0) (a b : RackView) (disk sector : ℕ) (v : List ℕ) (r : Result (Unit {0}) Gone) → disk < a.disks → may disk sector v
    → WritesDurably a b disk sector v r → Lays may a b r
lays_durable may a b disk sector v r inside part writes = record {
  only =
      only_weaker (λ d s w. (d ≡ disk) × (s ≡ sector) × (w ≡ v)) may
      (λ d s w at. subst (λ k. may k s w) (sym at.0) (subst (λ k. may disk k w) (sym at.1) (subst (may disk sector) (sym at.2) part))) (durable_only r writes);
  gone = gone_inside a b disk r inside writes.gone;
}

pub lays_write : (may : ℕ → ℕ → List ℕ → Type 0) (a b : RackView) (disk sector : ℕ) (v : List ℕ) (r : Result (Unit {0}) Gone) → disk < a.disks → may disk sector v
    → Writes a b disk sector v r → Lays may a b r
lays_write may a b disk sector v (Ok x) inside part writes = record { only = only_written may disk sector v part writes; gone = tt }
lays_write may a b disk sector v (Err e) inside part writes = record {
  only = only_refused may disk sector v e part writes;
  gone = gone_inside a b disk (Err e) inside writes.cause.gone;
}

pub lays_sync : (may : ℕ → ℕ → List ℕ → Type 0) (a b : RackView) (disk : ℕ) (r : Result (Unit {0}) Gone) → disk < a.disks → Syncs a b disk r → Lays may a b r
lays_sync may a b disk r inside syncs = record { only = only_quiet may syncs.stays syncs.keeps; gone = gone_inside a b disk r inside syncs.gone }

pub lays_table : (plan : NewPool) (a b : RackView) (disk : ℕ) (table : Table) (r : Result (Unit {0}) Gone) → disk < a.disks → table.sectors ≡ a.sectors disk
    → WritesTable a b disk table r → Lays (InLaying plan a.sectors disk) a b r
lays_table plan a b disk table r inside size writes = record {
  only =
      only_weaker _ (InLaying plan a.sectors disk)
      (λ d s v at. (at.0, inl (subst (λ k. IsOfTable (a.sectors k) s) (sym at.0) (subst (λ n. IsOfTable n s) size (in_table table s v (writes.within s v at.1)))))) writes.follows;
  gone = gone_inside a b disk r inside writes.gone;
}

-- the data of a member lies in its slice
pub data_slice : (plan : NewPool) → IsPlan plan → (d n s : ℕ) → IsDataOf plan d n s → IsOfSlice plan d s
data_slice plan is d n s datum =
    let within = datum.within in
    let same : datum.array.first + (data_sector + datum.row) ≡ s = let at = datum.sector_is in omega (arith, at) in
    subst (IsOfSlice plan d) same (member_part plan is n d (data_sector + datum.row) datum.array datum.at datum.among (omega (arith, within)))

-- the disks have room still
pub room_then : (plan : NewPool) (a b : RackView) → SameRack a b → HasRoom plan a → HasRoom plan b
room_then plan a b stays room = record {
  disks = stays.disks ∙ room.disks;
  small = λ d below. let small = room.small d (subst (λ n. d < n) stays.disks below) in let same = stays.sectors d in omega (arith, small, same);
  logs = λ d below. let logs = room.logs d (subst (λ n. d < n) stays.disks below) in let same = stays.sectors d in omega (arith, logs, same);
  members = λ n d a at among. let fits = room.members n d a at among in let same = stays.sectors d in omega (arith, fits, same);
}

-- a member's slice lies inside its drive
pub record IsInside (x : RackView) (d : ℕ) (a : NewArray) : Type 0 where
  pub disk : d < x.disks
  pub fits : a.first + (a.size + 2048) + 33 ≤ x.sectors d
  pub small : x.sectors d < 2 ^ 48

pub member_inside : (plan : NewPool) (x : RackView) → IsPlan plan → HasRoom plan x → (n d : ℕ) (a : NewArray) → slice_get plan.arrays.items n ≡ Some a → has a.members.items d ≡ true
    → IsInside x d a
member_inside plan x is room n d a at among =
    let drive = member_drive plan is n d a at among in
    let disks = room.disks in
    let disk : d < x.disks = omega (arith, drive, disks) in
    record { disk = disk; fits = room.members n d a at among; small = room.small d disk }
