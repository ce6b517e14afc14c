-- What a stop leaves while a disk is taken in at a place from a pool by which the place's drive is missing: the pool without it, or with it.
use Rattle.std.proofs.Common.{◌≡◌, ◌⊎◌, ◌≢◌, ℕ, ◌+◌, ◌<◌, ◌≤◌, ◌^◌, true, false, List, length, Some, refl, sym, ap, subst, ◌∙◌, inl, inr, arith}
use Rattle.std.proofs.lemmas.Bool.{both_ways, cases_Bool}
use Rattle.std.proofs.lemmas.List.FromFn.{length-map-range_with_len}
use Rattle.rack.specs.Seen.{Image, RackView}
use Rattle.rack.specs.Values.{MayLeave}
use Rattle.slice_rack.specs.Slices.{IsOrderly, Slices, disk_of, first_of as slice_first, sectors_of}
use Rattle.slice_rack.specs.Sliced.{IsInside, sliced, slices_of}
use Rattle.gpt_table.specs.Changes.{the_table}
use Rattle.gpt_table.specs.Disk.{Contents}
use Rattle.pool_state.specs.declared.contents.Plan.TheVariants.{Replace as Replacing}
use Rattle.pool_state.specs.declared.contents.State.{State}
use Rattle.array_image.specs.Places.{super_sector}
use Rattle.array_model.specs.View.{spent_in}
use Rattle.raid_laws.specs.Enlisting.{Enlists, IsOpenDisk, KeepsTold, enlisted, new_table, next_drive}
use Rattle.raid_laws.specs.Logs.{LogsBetween}
use Rattle.raid_laws.specs.Losses.{has_other}
use Rattle.raid_laws.specs.NewDrive.{drive_table, joins}
use Rattle.raid_laws.specs.Raid.{IsTracked, is_failed}
use Rattle.raid_rack.specs.RaidRack.{IsFit}
use Rattle.pool_image.specs.Disks.{disks_of}
use Rattle.pool_image.specs.Drives.{Found, first_of}
use Rattle.pool_image.specs.Meaning.{is_member}
use Rattle.pool_model.specs.InService.{RunInvariant}
use Rattle.pool_model.specs.Laid.{HaveOtherIds}
use Rattle.pool_model.specs.Left.{HasNoSuper, HavePlaces}
use Rattle.pool_model.specs.Stopped.{RecoversInCall, HoldTables, LieOn}
use Rattle.pool_model.specs.Taken.{LacksDrive, SeatsNew, taken}
use Rattle.pool_model.proofs.TakingEarly.{entering_early, entering_places, entering_told}
use Rattle.pool_model.proofs.TakingLate.{IsTaking, taking_late}
use Rattle.pool.specs.Entering.{EntersBy}
use Rattle.pool.specs.Moment.{views_of}
use Rattle.pool.specs.View.{View, book}
use Rattle.pool.proofs.Admitted.{reaches_each}
use Rattle.pool.proofs.Enlisted.{all_spent}
use Rattle.pool.proofs.Readying.{member_joins}
use Rattle.shr_tool.proofs.NewTable.{table_lies}

-- the slices lie inside disks that are as many and as long
pub inside_same : (t : Slices) (a b : RackView) → b.disks ≡ a.disks → ((d : ℕ) → b.sectors d ≡ a.sectors d) → IsInside t b → IsInside t a
inside_same t a b disks sectors inside = record {
  small = λ d low. subst (λ n. n < 2 ^ 48) (sectors d) (inside.small d (subst (λ n. d < n) (sym disks) low));
  seats = λ p d seat. subst (λ n. d < n) disks (inside.seats p d seat);
  slices = λ k has. subst (λ n. slice_first t k + sectors_of t k ≤ n) (sectors (disk_of t k)) (inside.slices k has);
}

-- a drive is left that the pool had, where a sector of an array can be had
pub other_left : (c y : View) (place disk : ℕ) (enters : EntersBy c y place disk) → IsFit y.arrays (slices_of y.slices y.bay) → (n k : ℕ) → n < (book c).state.made
    → spent_in ((book y).arrays n) k ≡ false → has_other (book y).state place ≡ true
other_left c y place disk enters after n k low alive = elim (cases_Bool (has_other (book y).state place)) [
  | inl is ↦ is
  | inr none ↦
      (let set = enters.vacates.fit.running.set in
      absurd
      (both_ways (spent_in ((book y).arrays n) k) alive
      (all_spent place enters.units (Replacing place) (joins (views_of (book c)) place (c.bay.sectors disk)) (book c) (book y) (slices_of enters.vacates.tables c.bay) (slices_of y.slices y.bay)
      set after.running.set after.heeded enters.enlists.is.book.same.made enters.enlists.is.arrays
      (member_joins (book c) place (c.bay.sectors disk) enters.vacates.admits (λ m under. (set.arrays m under).is_array)) none n low k)))
]

-- by its table a disk that is taken in has its slices
pub new_lies : (c y : View) (place disk : ℕ) (enters : EntersBy c y place disk) (z : Contents)
    → the_table (c.bay.sectors disk) z ≡ Some (new_table (book c).state (views_of (book c)) place (c.bay.sectors disk)) → LieOn y.slices place (c.bay.sectors disk) z
new_lies c y place disk enters z has =
    let many : length (views_of (book c)) ≡ (book c).state.made = length-map-range_with_len (book c).arrays 0 (book c).state.made in
    let id = (next_drive (book c).state).0 in
    table_lies id enters.vacates.tables y.slices (book c) place disk (c.bay.sectors disk) enters.seats z
    (has ∙ ap (λ k. Some (drive_table id (views_of (book c)) place (c.bay.sectors disk) k)) many)

-- Of the pool h it is known that the place's drive is missing: s are the tables by which it goes.
module _ (c y : View) (place disk : ℕ) (enters : EntersBy c y place disk) (h : Found) (s : Slices) (service : RunInvariant h s (book c) c.bay)
    (lacks : LacksDrive h s enters.vacates.tables (book c) place c.bay) (sits : SeatsNew h s y.slices (book c) place disk (c.bay.sectors disk)) (opened : IsOpenDisk c.bay disk)
    (tables : HoldTables h s (book c).state c.bay) (told : (n : ℕ) → n < h.state.made → IsTracked (book c) (slices_of enters.vacates.tables c.bay) n)
    (lasts : (n : ℕ) → n < h.state.made → is_failed (book y) n ≡ false) (other : has_other (book y).state place ≡ true) (lasting : c.bay.lasting) (traced : c.bay.traced)
    (orderly : IsOrderly y.slices) (within : IsInside y.slices y.bay)
    (bare : (n first : ℕ) → n < h.state.made → is_member h n place ≡ false → first_of h n ≡ Some first → first + super_sector < c.bay.sectors disk
    → (v : List ℕ) → MayLeave (c.bay.held disk (first + super_sector)) v → HasNoSuper h.state.pool.0 n v) where
  abbrev t : Slices
  t = enters.vacates.tables

  abbrev enlists : Enlists t y.slices (views_of (book c)) place disk enters.units (Replacing place) (book c) (book y) c.bay y.bay
  enlists = enters.enlists

  apart : (p : ℕ) → p ≢ place → h.seats p ≡ Some disk → ⊥
  apart p away seat = (sits.others p disk away seat).1 refl

  room : 10273 ≤ c.bay.sectors disk
  room = (reaches_each (views_of (book c)) place (c.bay.sectors disk) enters.vacates.admits.reaches).0

  inside_t : IsInside t c.bay
  inside_t = enters.vacates.fit.running.set.fit.1

  inside_u : IsInside y.slices c.bay
  inside_u = inside_same y.slices c.bay y.bay enlists.only.stays.disks enlists.only.stays.sectors within

  keeps : (n : ℕ) → n < h.state.made → KeepsTold t y.slices place disk enters.units (Replacing place)
      (new_table (book c).state (views_of (book c)) place (c.bay.sectors disk)) (book c) (book y) c.bay y.bay enlists.mid n
  keeps =
      entering_told h s t (book c) place disk c.bay service lacks apart enters.vacates.orderly inside_t tables opened room lasting traced y.slices enters.units (Replacing place) (book y)
      y.bay sits enlists told lasts other

  present : HavePlaces (book c).state h
  present =
      entering_places h s t (book c) place disk c.bay service lacks apart enters.vacates.orderly inside_t tables opened room lasting traced y.slices enters.units (Replacing place) (book y)
      y.bay sits enlists told lasts other

  abbrev next : State
  next = enlisted place enters.units (Replacing place) (book c).state

  -- the pool without the disk, before its slices were added or after; or the log slices say a state that has it
  pub taking_first : (k : ℕ) (i : Image) → c.bay.clock < k → k ≤ y.bay.clock → y.bay.stops k i
      → (RecoversInCall h t (book c).state (book c).state i ⊎ RecoversInCall h y.slices (book c).state (book c).state i)
      ⊎ ((enlists.mid < k) × LogsBetween next (book y).state (sectors_of y.slices) (sliced y.slices i))
  taking_first =
      entering_early h s t (book c) place disk c.bay service lacks apart enters.vacates.orderly inside_t tables opened room lasting traced y.slices enters.units (Replacing place) (book y)
      y.bay sits enlists told lasts other orderly inside_u

  taking : IsTaking h s t y.slices (views_of (book c)) (book c) place disk c.bay
  taking = record {
    service = service;
    new = sits;
    lacks = lacks;
    present = present;
    low = (opened 0 (let many = room in omega (arith, many))).disk;
    opened = opened;
    lasting = lasting;
    orderly = orderly;
    inside = inside_u;
    tables = tables;
    lies = new_lies c y place disk enters;
    alone = bare;
  }

  -- and then the pool with it
  pub taking_last : (k : ℕ) (i : Image) → enlists.mid < k → k ≤ y.bay.clock → y.bay.stops k i → HaveOtherIds h (book c).state place disk i
      → LogsBetween next (book y).state (sectors_of y.slices) (sliced y.slices i) → RecoversInCall (taken h (disks_of c.bay) place disk next) y.slices next (book y).state i
  taking_last k i since until stopped ids logs =
      taking_late h s t y.slices (views_of (book c)) (book c) place disk c.bay y.bay taking enlists.only (book y) enters.units enlists.mid (Replacing place) traced other lasts keeps
      (enlists.within traced).0 k i since until stopped ids logs
