-- A pool's volume where its arrays' slices, or the disks below, have changed.
use Rattle.std.proofs.Common.{◌≡◌, ℕ, ◌+◌, ◌*◌, ◌<◌, ◌≤◌, false, refl, sym, subst, arith}
use Rattle.rack.specs.Seen.{RackView, SameRack}
use Rattle.rack.specs.Shelf.{Shelf}
use Rattle.rack.specs.Calls.{KeepsAll}
use Rattle.rack.specs.Sequences.{OnlyReads}
use Rattle.slice_rack.specs.Slices.{IsOrderly, Slices, disk_of, place_of}
use Rattle.slice_rack.specs.Sliced.{slices_of}
use Rattle.array_image.specs.Places.{log_slice}
use Rattle.lvm_group.proofs.Below.{keeps_volume, stays_volume}
use Rattle.lvm_group.specs.Runs.{IsOrderly as IsOrderlyVolume, array_of, data_start, place_of as place_in}
use Rattle.lvm_group.specs.Shown.{IsInside as IsInsideVolume}
use Rattle.lvm_group.proofs.Totals.{total_same}
use Rattle.raid_rack.specs.declared.arrays.Arrays.{Arrays}
use Rattle.raid_laws.specs.Laws.{live_parts, stops_inside}
use Rattle.raid_laws.specs.Moves.{ChangesNoData}
use Rattle.raid_laws.specs.Raid.{raid_of}
use Rattle.raid_rack.specs.RaidRack.{IsFit, raid_by}
use Rattle.raid_laws.proofs.Apart.{moves_quiet, seat_is}
use Rattle.raid_laws.proofs.Moving.{moves_bring}
use Rattle.raid_laws.proofs.Over.{someone_left}
use Rattle.raid_rack.proofs.Serving.{brings_keep}
use Rattle.raid_laws.proofs.Whole.{heeded_left}
use Rattle.array_model.specs.View.{sectors_of as array_sectors}
use Rattle.pool.specs.View.{View, book, slices_shown, volume}
use Rattle.pool.specs.Volume.{is_spent}

-- a pool later, whose volume lies where it lay
abbrev pub later : View → RackView → Shelf → Slices → Arrays → View
later x b s u z = record { bays = x.bays; bay = b; shelf = s; slices = u; arrays = z; refused = x.refused; linear = x.linear }

-- its arrays are of as many sectors
pub inside_later : (x : View) (b : RackView) (s : Shelf) (u : Slices) (z : Arrays) → (volume x).fit → z.state.made ≡ x.arrays.state.made
    → ((n : ℕ) → array_sectors ((raid_by z).arrays n) ≡ array_sectors ((book x).arrays n))
    → IsInsideVolume x.linear (raid_of (IsFit z (slices_of u b)) x.refused (raid_by z) (slices_of u b))
inside_later x b s u z fit made same =
    let was = fit.1 in
    record {
      small = rw (made, total_same (λ n. array_sectors ((book x).arrays n)) (λ n. array_sectors ((raid_by z).arrays n)) x.arrays.state.made same) was.small;
      arrays = subst (λ n. x.linear.arrays ≤ n) (sym made) was.arrays;
      placed = was.placed;
      held = λ e below.
          let place = place_in x.linear.runs e in
          subst (λ n. data_start + place.extent * x.linear.extent + x.linear.extent ≤ n) (sym (same place.array)) (was.held e below);
    }

-- a call of the arrays that moves no value
pub moved : (x : View) (b : RackView) (s : Shelf) (u : Slices) (z : Arrays) → IsOrderlyVolume x.linear → (volume x).fit → IsFit z (slices_of u b)
    → ChangesNoData (book x) (raid_by z) (slices_shown x) (slices_of u b) → SameRack (volume x) (volume (later x b s u z)) × KeepsAll (volume x) (volume (later x b s u z))
moved x b s u z orderly fit after moves =
    let a = raid_of (IsFit x.arrays (slices_shown x)) x.refused (book x) (slices_shown x) in
    let c = raid_of (IsFit z (slices_of u b)) x.refused (raid_by z) (slices_of u b) in
    let keeps = brings_keep {r = x.refused} x.arrays z (slices_shown x) (slices_of u b) fit.0 after (stops_inside u b) (moves_bring (book x) (raid_by z) (slices_shown x) (slices_of u b) moves) in
    let stays = stays_volume {l = x.linear} {a = a} {b = c} fit.1 keeps.stays in
    (stays, keeps_volume {l = x.linear} {a = a} {b = c} orderly stays.fit.1 keeps.keeps)

-- nothing of the slices was written
pub only_read : (x : View) (b : RackView) (s : Shelf) → IsOrderlyVolume x.linear → (volume x).fit → IsFit x.arrays (slices_of x.slices b)
    → OnlyReads (slices_shown x) (slices_of x.slices b)
    → SameRack (volume x) (volume (later x b s x.slices x.arrays)) × KeepsAll (volume x) (volume (later x b s x.slices x.arrays))
only_read x b s orderly fit after reads =
    moved x b s x.slices x.arrays orderly fit after (moves_quiet (book x) (slices_shown x) (slices_of x.slices b) fit.0.running.set reads)

-- the arrays over other disks below, of which the slices are as they were
pub disks_fit : (a : Arrays) (t : Slices) (c b : RackView) → IsFit a (slices_of t c) → (slices_of t b).fit → b.lasting → IsFit a (slices_of t b)
disks_fit a t c b was fit lasting =
    let set = was.running.set in
    record {
      running = record {
        count = was.running.count;
        set = record {
          fit = fit;
          lasting = lasting;
          disks = refl;
          few = set.few;
          most = set.most;
          valid = set.valid;
          logs = set.logs;
          arrays = λ n low.
              let at = set.arrays n low in
              record {
                is_array = at.is_array;
                number = at.number;
                slices = record { fit = fit; lasting = lasting; disks = at.slices.disks; sectors = at.slices.sectors };
                marks = at.marks;
                is_of_pool = at.is_of_pool;
              };
          marked = set.marked;
        };
      };
      heeded = was.heeded;
    }

-- a pool with a sector that isn't spent has a disk
pub some_disk : (x : View) (s : ℕ) → IsOrderly x.slices → (volume x).fit → is_spent x s ≡ false → 0 < x.bay.disks
some_disk x s orderly fit alive =
    let v = book x in
    let n = array_of x.linear s in
    let one = someone_left v n (live_parts v n _ alive).0 in
    let p = one.0 in
    let left = heeded_left v p fit.0.heeded one.1 in
    let long = fit.0.running.set.logs p left in
    let seat = seat_is x.slices (log_slice p) 0 orderly (omega (arith, long)) in
    let low = fit.0.running.set.fit.1.seats (place_of (log_slice p)) (disk_of x.slices (log_slice p)) seat in
    omega (arith, low)
