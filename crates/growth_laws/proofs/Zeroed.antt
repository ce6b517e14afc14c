-- A row of a young array is zeroed, or refused where two members lack it.
use Rattle.std.proofs.Common.{◌≡◌, ℕ, ◌+◌, ◌/◌, ◌<◌, ◌≤◌, true, false, ◌&&◌, nat_lt, if◌then◌else◌, refl, ltb-true, arith}
use Rattle.std.proofs.lemmas.Bool.{both_ways, and_parts}
use Rattle.rack.specs.Seen.{RackView}
use Rattle.pool_state.specs.declared.contents.State.{State}
use Rattle.pool_state.specs.declared.contents.Work.TheVariants.{Zero}
use Rattle.array_image.specs.SoundArray.{first_unsynced}
use Rattle.array_model.specs.View.{View, rows_of}
use Rattle.sync_laws.specs.Steps.{offset_after, zeroed}
use Rattle.raid_laws.specs.Raid.{Raid}
use Rattle.raid_laws.specs.Moves.{IsHeeded, IsSeated, IsSet}
use Rattle.raid_laws.proofs.Calls.{raised_low, unsynced_by}
use Rattle.growth_laws.specs.Growing.{is_due}
use Rattle.growth_laws.proofs.Steps.{MayBecome}

-- ---- the array

-- a young array with a row left to zero
pub record HasRowToZero (v : Raid) (number : ℕ) : Type 0 where
  pub low : number < v.state.made
  pub young : (v.arrays number).young ≡ true
  pub row : first_unsynced (v.arrays number).truth < rows_of (v.arrays number)

pub has_row_to_zero : (v : Raid) (number : ℕ) → is_due v (Zero number) ≡ true → HasRowToZero v number
has_row_to_zero v number due =
    let u = v.arrays number in
    let one = and_parts (nat_lt number v.state.made) (u.young && nat_lt (first_unsynced u.truth) (rows_of u)) due in
    let two = and_parts u.young (nat_lt (first_unsynced u.truth) (rows_of u)) one.1 in
    record { low = ltb-true number v.state.made one.0; young = two.0; row = ltb-true (first_unsynced u.truth) (rows_of u) two.1 }

-- a member sector from which rows are left, in an array of so many rows, leaves no row past them
unsynced_low : (offset size : ℕ) → (if nat_lt offset size then offset / 128 else size / 128) ≤ size / 128
unsynced_low offset size = unsynced_by offset size (size / 128) (λ below. omega (arith, below)) (λ above. omega arith)

seated_zeroed : (s : State) (n rows : ℕ) (u : View) (x : RackView) → u.young ≡ true → IsSeated s n u x → IsSeated s n (zeroed u rows) x
seated_zeroed s n rows u x young seated =
    let a = seated.is_array in
    let pool = seated.is_of_pool in
    let events = raised_low u.truth.events pool.events pool.events_end in
    record {
      is_array = record {
        few = a.few;
        level = a.level;
        least = a.least;
        most = a.most;
        seats = a.seats;
        devices = a.devices;
        small = a.small;
        whole_rows = a.whole_rows;
        placed = a.placed;
        synced = omega arith;
        reshape = a.reshape;
      };
      number = seated.number;
      slices = record { fit = seated.slices.fit; lasting = seated.slices.lasting; disks = seated.slices.disks; sectors = seated.slices.sectors };
      marks = seated.marks;
      is_of_pool = record {
        set = pool.set;
        profile = pool.profile;
        events = let more = events.0 in let some = pool.events in omega (arith, more, some);
        events_end = events.1;
        row = pool.row;
        roles = pool.roles;
        unsynced = unsynced_low (offset_after u (first_unsynced u.truth + rows)) u.truth.size;
        synced = λ old. absurd (both_ways u.young old young);
        zeroed = λ is. omega arith;
        rows = pool.rows;
      };
    }

pub may_zero : (v : Raid) (number rows : ℕ) (x : RackView) → IsSet v x → IsHeeded v → HasRowToZero v number → MayBecome v number (zeroed (v.arrays number) rows) x
may_zero v number rows x set heeded has = record {
  low = has.low;
  seated = seated_zeroed v.state number rows (v.arrays number) x has.young (set.arrays number has.low);
  went = heeded number has.low;
  whole = λ marked. absurd (both_ways false refl marked);
}
