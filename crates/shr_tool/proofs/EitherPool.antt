-- What a stop leaves inside a line that takes a disk in, as the line says it: the pool from which the disk was taken in may have lost the place's own drive.
use Rattle.std.proofs.Common.{◌≡◌, ◌⊎◌, ℕ, ◌<◌, ◌==◌, if◌then◌else◌, List, length, Option, Some, refl, sym, ◌∙◌, ap, subst, inl, inr}
use Rattle.rack.specs.Seen.{Image}
use Rattle.slice_rack.specs.Slices.{Slices, sectors_of}
use Rattle.slice_rack.specs.Sliced.{sliced}
use Rattle.shr_base.specs.declared.Id.{Id}
use Rattle.pool_state.specs.declared.contents.Plan.TheVariants.{Replace as Replacing}
use Rattle.pool_state.specs.declared.contents.State.{State}
use Rattle.raid_laws.specs.Book.{OnlyMarksSince, after_same, after_then}
use Rattle.raid_laws.specs.Enlisting.{enlisted}
use Rattle.raid_laws.specs.Logs.{LogsBetween}
use Rattle.pool_image.specs.Meaning.{array_sectors}
use Rattle.pool_image.specs.Disks.{Disks, disks_of}
use Rattle.pool_image.specs.Drives.{Found}
use Rattle.pool_model.specs.Laid.{HaveOtherIds}
use Rattle.pool_model.specs.Stopped.{RecoversInCall}
use Rattle.pool_model.specs.Taken.{attached, taken}
use Rattle.pool.specs.Moment.{moment_of}
use Rattle.pool.specs.View.{View, book}
use Rattle.pool.proofs.Readying.{after_enlisted, next_same}
use Rattle.shr_tool.specs.Between.{AreWithout, HoldsEither, LosesOwn, coming}
use Rattle.shr_tool.specs.Events.Event.{replaced}
use Rattle.shr_tool.specs.Service.{disk_in, pool_after, units_in}
use Rattle.pool_model.proofs.Likewise.{amid_likewise}

-- s is the state from which it was, and `disks` are those of then.
module _ (f : Found) (x y : View) (place : ℕ) (name : List ℕ) (disk units : ℕ) (s : State) (disks : Disks) (marks : OnlyMarksSince (book x).state s)
    (which : (s ≡ (book x).state) ⊎ LosesOwn (book x).state (book y).state place s) (listed : place < length (book x).state.drives.items) (same : disks ≡ disks_of y.bay)
    (units_are : units_in (moment_of x) place ≡ units) (disk_is : disk_in (moment_of y) place ≡ disk) where
  abbrev h : Found
  h = attached f disks

  abbrev next : State
  next = enlisted place units (Replacing place) s

  -- until it was
  pub without_then : (t : Slices) → AreWithout (moment_of x) (moment_of y) place t → (i : Image) → RecoversInCall h t (book x).state s i
      → HoldsEither f (moment_of x) (moment_of y) place name i
  without_then t are i amid = inl (t, s, are, which, subst (λ (d : Disks). RecoversInCall (attached f d) t (book x).state s i) same amid)

  -- from then on, while no state has the drive
  pub without_now : (t : Slices) → AreWithout (moment_of x) (moment_of y) place t → (i : Image) → RecoversInCall h t s s i → HoldsEither f (moment_of x) (moment_of y) place name i
  without_now t are i amid = without_then t are i (amid_likewise h h t s s (book x).state s i refl refl refl (λ n low. refl) marks (after_same s) amid)

  -- the state that has it comes after the one by which the line says it
  came : OnlyMarksSince (coming (moment_of x) place) next
  came =
      subst (λ n. OnlyMarksSince (enlisted place n (Replacing place) (book x).state) next) (sym units_are) (after_enlisted place units (Replacing place) (book x).state s listed marks)

  other_ids : (i : Image) → HaveOtherIds (attached f (disks_of y.bay)) (book x).state place (disk_in (moment_of y) place) i → HaveOtherIds h s place disk i
  other_ids i ids d low away free is =
      subst (λ (z : Disks). HaveOtherIds (attached f z) (book x).state place disk i) (sym same)
      (subst (λ e. HaveOtherIds (attached f (disks_of y.bay)) (book x).state place e i) disk_is ids) d low away free
      (is ∙ ap (λ (id : Id). Some id.0) (next_same (book x).state s marks))

  abbrev seats_with : ℕ → ℕ → Option ℕ
  seats_with d p = if p == place then Some d else f.seats p

  -- once the log slices say one that has it
  pub with_now :
      ((n : ℕ) → n < s.made → array_sectors (pool_after f (moment_of x) (moment_of y) (replaced place name)) n ≡ array_sectors (taken h disks place disk next) n)
      → (i : Image) → LogsBetween next (book y).state (sectors_of y.slices) (sliced y.slices i)
      → (HaveOtherIds h s place disk i → RecoversInCall (taken h disks place disk next) y.slices next (book y).state i) → HoldsEither f (moment_of x) (moment_of y) place name i
  with_now sized i logs holds =
      inr (
        record { state = logs.state; later = after_then (coming (moment_of x) place) next logs.state came logs.later; sooner = logs.sooner; says = logs.says },
        λ ids.
            amid_likewise (taken h disks place disk next) (pool_after f (moment_of x) (moment_of y) (replaced place name)) y.slices next (book y).state (coming (moment_of x) place) (book y).state i
            (sym same) (ap seats_with disk_is) (sym marks.same.made) sized came (after_same (book y).state) (holds (other_ids i ids)),
      )
