-- A drive that a line took in has its members' slices by its table, whatever its disk may be left with outside the slices.
use Rattle.std.proofs.Common.{◌≡◌, ℕ, ◌<◌, ◌≤◌, false, if◌then◌else◌, Bool, List, Some, unwrap_or, refl, ap, ◌∙◌, eq-eqb, arith}
use Rattle.rack.specs.Seen.{Image, IsLive}
use Rattle.slice_rack.specs.Slices.{IsOrderly, disk_of, place_of, seat_of, sectors_of}
use Rattle.flat_array.specs.Array.{FlatArray}
use Rattle.gpt_table.specs.declared.TableCopy.TheVariants.{Primary}
use Rattle.array_image.specs.Places.{log_sectors, log_slice, slice_of}
use Rattle.raid_laws.specs.Enlisting.{next_drive}
use Rattle.raid_laws.specs.NewDrive.{sectors_laid}
use Rattle.pool_model.specs.Left.{IsPickOutsideSlices}
use Rattle.pool_model.specs.Stopped.{LieOn}
use Rattle.pool.specs.Moment.{IsNamed, moment_of, views_of}
use Rattle.pool.specs.Replaced.{HasTable, IsReplaced}
use Rattle.pool.specs.View.{View, book}
use Rattle.pool.specs.Volume.{VolumeIs}
use Rattle.shr_tool.specs.Events.Event.{replaced}
use Rattle.shr_tool.specs.Timeline.{LineContract, TakesDrive}
use Rattle.shr_tool.proofs.NewTable.{table_in, table_left, table_lies}
use Rattle.gpt_table.specs.Changes.{the_table}

module _ (x y : View) (place : ℕ) (name text : List ℕ) (b : FlatArray) (unspent : (d s : ℕ) → y.bay.spent d s ≡ false)
    (performs : LineContract x y (replaced place name) text) (holds : VolumeIs x b) (orderly : IsOrderly x.slices) (disk : ℕ) (named : IsNamed (moment_of y) name disk) where
  abbrev takes : TakesDrive x y place name
  takes = performs.changes refl

  abbrev is : IsReplaced (moment_of x) (moment_of y) place disk
  is = performs.cause.1 disk named

  abbrev has : HasTable x y place disk
  has = takes.1 disk named

  -- the disk has its log slice, so it has room for the table
  room : 67 ≤ y.bay.sectors disk
  room =
      let on_place : place_of (log_slice place) ≡ place = omega arith in
      let of : slice_of (log_slice place) ≡ 0 = omega arith in
      let many : sectors_of y.slices (log_slice place) ≡ log_sectors =
      is.seats.own (log_slice place) on_place ∙ ap (sectors_laid (views_of (book x)) place (y.bay.sectors disk)) of in
      let inside = performs.continues.proceeds.fit.0.running.set.fit.1.slices (log_slice place) (omega (arith, many)) in
      let seat : seat_of y.slices place ≡ Some disk =
      is.seats.seats place ∙ ap (λ (c : Bool). if c then Some disk else seat_of x.slices place) (eq-eqb place place refl) in
      let on : disk_of y.slices (log_slice place) ≡ disk = ap (λ o. unwrap_or o 0) (ap (seat_of y.slices) on_place ∙ seat) in
      let here : y.bay.sectors (disk_of y.slices (log_slice place)) ≡ y.bay.sectors disk = ap y.bay.sectors on in
      omega (arith, inside, many, here)

  live : (k : ℕ) → k < y.bay.sectors disk → IsLive y.bay y.bay disk k
  live k within =
      let low = takes.0.names.there disk named in
      record { disk = low; sector = within; is_told = (performs.holds b holds).disks disk low; unspent = unspent disk k }

  -- its table is the one that was laid
  pub table_taken : (i : Image) → IsPickOutsideSlices y.slices y.bay i → the_table (y.bay.sectors disk) (i disk) ≡ Some (table_in (next_drive (book x).state).0 (book x) place (y.bay.sectors disk))
  table_taken i off =
      let id = (next_drive (book x).state).0 in
      table_left id x.slices y.slices (book x) place disk (y.bay.sectors disk) is.seats (performs.continues.orderly orderly) y.bay room live
      (has.copies holds.shelf holds.disks Primary) (has.durable holds.shelf holds.disks) i off

  pub lies_taken : (i : Image) → IsPickOutsideSlices y.slices y.bay i → LieOn y.slices place (y.bay.sectors disk) (i disk)
  lies_taken i off =
      table_lies (next_drive (book x).state).0 x.slices y.slices (book x) place disk (y.bay.sectors disk) is.seats (i disk) (table_taken i off)
