-- What a stop leaves while a disk is taken in at a place from a pool by which the place's own drive is current: the pool with the drive that it has, or with the new one.
use Rattle.std.proofs.Common.{◌≡◌, ◌⊎◌, ◌≢◌, ℕ, ◌+◌, ◌<◌, ◌≤◌, true, false, List, Some, refl, subst, inl, inr, arith}
use Rattle.std.proofs.lemmas.Bool.{cases_lt}
use Rattle.rack.specs.Seen.{Image}
use Rattle.rack.specs.Values.{MayLeave}
use Rattle.slice_rack.specs.Slices.{IsOrderly, Slices, sectors_of}
use Rattle.slice_rack.specs.Sliced.{IsInside, sliced, slices_of}
use Rattle.gpt_table.specs.declared.Table.{Table}
use Rattle.pool_state.specs.declared.contents.Plan.TheVariants.{Replace as Replacing}
use Rattle.pool_state.specs.declared.contents.State.{State}
use Rattle.array_image.specs.Places.{super_sector}
use Rattle.array_image.specs.States.{is_current, id_of}
use Rattle.raid_laws.specs.Enlisting.{Enlists, IsOpenDisk, KeepsTold, enlisted, new_table, next_drive}
use Rattle.raid_laws.specs.Logs.{LogsBetween}
use Rattle.raid_laws.specs.Losses.{has_other}
use Rattle.raid_laws.specs.Raid.{IsTracked, is_failed}
use Rattle.pool_image.specs.Disks.{disks_of}
use Rattle.pool_image.specs.Drives.{Found, first_of}
use Rattle.pool_image.specs.Meaning.{is_member}
use Rattle.pool_model.specs.InService.{RunInvariant}
use Rattle.pool_model.specs.Laid.{HaveOtherIds}
use Rattle.pool_model.specs.Left.{HasNoSuper, HavePlaces}
use Rattle.pool_model.specs.Stopped.{RecoversInCall, HoldTables}
use Rattle.pool_model.specs.Taken.{SeatsNew, taken}
use Rattle.pool_model.proofs.Replacing.{IsReplacing, replacing_late}
use Rattle.pool_model.proofs.ReplacingEarly.{former_all, present_told, replacing_former, replacing_laid}
use Rattle.pool.specs.Entering.{EntersBy}
use Rattle.pool.specs.Moment.{views_of}
use Rattle.pool.specs.View.{View, book}
use Rattle.pool.proofs.Admitted.{reaches_each}
use Rattle.shr_tool.proofs.TakingFrom.{inside_same, new_lies}

-- t are the tables by which the pool h goes, from which the disk is taken in.
module _ (c y : View) (place disk : ℕ) (enters : EntersBy c y place disk) (h : Found) (t : Slices) (same : enters.vacates.tables ≡ t) (was : is_current (book c).state place ≡ true)
    (service : RunInvariant h t (book c) c.bay) (sits : SeatsNew h t y.slices (book c) place disk (c.bay.sectors disk)) (apart : (p : ℕ) → h.seats p ≡ Some disk → ⊥)
    (renamed : id_of (book c).state place ≢ Some (next_drive (book c).state).0) (opened : IsOpenDisk c.bay disk) (tables : HoldTables h t (book c).state c.bay)
    (told : (n : ℕ) → n < h.state.made → IsTracked (book c) (slices_of t c.bay) n) (goes : (n : ℕ) → n < h.state.made → is_failed (book c) n ≡ false)
    (lasts : (n : ℕ) → n < h.state.made → is_failed (book y) n ≡ false) (other : has_other (book y).state place ≡ true) (lasting : c.bay.lasting) (traced : c.bay.traced)
    (ordered : IsOrderly t) (inside : IsInside t c.bay) (orderly : IsOrderly y.slices) (within : IsInside y.slices y.bay)
    (bare : (n first : ℕ) → n < h.state.made → is_member h n place ≡ false → first_of h n ≡ Some first → first + super_sector < c.bay.sectors disk
    → (v : List ℕ) → MayLeave (c.bay.held disk (first + super_sector)) v → HasNoSuper h.state.pool.0 n v) where
  enlists : Enlists t y.slices (views_of (book c)) place disk enters.units (Replacing place) (book c) (book y) c.bay y.bay
  enlists =
      subst (λ (u : Slices). Enlists u y.slices (views_of (book c)) place disk enters.units (Replacing place) (book c) (book y) c.bay y.bay) same enters.enlists

  room : 10273 ≤ c.bay.sectors disk
  room = (reaches_each (views_of (book c)) place (c.bay.sectors disk) enters.vacates.admits.reaches).0

  first : 0 < h.state.made
  first = (let made = service.arranged.made.0 in omega (arith, made))

  present : HavePlaces (book c).state h
  present = present_told h t (book c) c.bay service (told 0 first) (goes 0 first)

  abbrev table : Table
  table = new_table (book c).state (views_of (book c)) place (c.bay.sectors disk)

  abbrev next : State
  next = enlisted place enters.units (Replacing place) (book c).state

  replacing : IsReplacing h t y.slices (views_of (book c)) (book c) place disk c.bay
  replacing = record {
    enters = record {
      service = service;
      new = sits;
      present = present;
      low = (opened 0 (let many = room in omega (arith, many))).disk;
      opened = opened;
      lasting = lasting;
      orderly = orderly;
      inside = inside_same y.slices c.bay y.bay enlists.only.stays.disks enlists.only.stays.sectors within;
      tables = tables;
      lies = new_lies c y place disk enters;
      alone = bare;
    };
    was = was;
    orderly = ordered;
    inside = inside;
    apart = apart;
    renamed = renamed;
    room = room;
  }

  tells : (n : ℕ) → n < h.state.made → KeepsTold t y.slices place disk enters.units (Replacing place) table (book c) (book y) c.bay y.bay enlists.mid n
  tells n low = enlists.told n (let made = service.after.same.made in omega (arith, low, made)) (told n low) opened other

  -- what it holds is told by the log slices: the pool with the drive that it has, or with the new one by a state that has it
  pub giving : (k : ℕ) (i : Image) → c.bay.clock < k → k ≤ y.bay.clock → y.bay.stops k i
      → RecoversInCall h t (book c).state (book c).state i
      ⊎ (LogsBetween next (book y).state (sectors_of y.slices) (sliced y.slices i)
      × (HaveOtherIds h (book c).state place disk i → RecoversInCall (taken h (disks_of c.bay) place disk next) y.slices next (book y).state i))
  giving k i since until stopped = elim (cases_lt enlists.mid k) [
    | inr early ↦
        inl
        (replacing_laid h t (book c) place disk c.bay service apart ordered inside tables opened room lasting traced y.slices enters.units (Replacing place) table refl (book y) y.bay enlists.mid
        sits enlists.only tells lasts present place was was k i since until stopped early)
    | inl late ↦
        let each = λ (n : ℕ) (low : n < h.state.made). (tells n low).replacing was traced (lasts n low) k i late until stopped in
        elim (each 0 first).says [
          | inl before ↦
              inl
              (replacing_former h t (book c) place disk c.bay service apart ordered inside tables opened room lasting traced y.slices enters.units (Replacing place) table refl (book y) y.bay
              enlists.mid sits enlists.only tells lasts present place was was k i since until stopped
              (former_all h t (book c) place disk c.bay service apart ordered inside tables opened room lasting traced y.slices enters.units (Replacing place) table refl (book y) y.bay
              enlists.mid sits enlists.only tells lasts present place was was i each before.2) before.1)
          | inr latter ↦
              inr (
                latter.0.logs,
                λ ids.
                    replacing_late h t y.slices (book c) (book y) place disk enters.units (Replacing place) c.bay y.bay replacing enlists told lasts other traced k i late until stopped ids
                    latter.0,
              )
        ]
  ]
