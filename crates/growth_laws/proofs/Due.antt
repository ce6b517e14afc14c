-- What a work that is due makes of its array is an array of the pool, and short enough.
use Rattle.std.proofs.Common.{◌≡◌, ℕ, ◌+◌, ◌<◌, ◌≤◌, true, false, ◌==◌, ◌&&◌, not, nat_lt, is_none, length, Option, Some, None, refl, ltb-true}
use Rattle.std.proofs.lemmas.Bool.{and_parts, both_ways}
use Rattle.rack.specs.Seen.{RackView}
use Rattle.shr_base.specs.declared.Id.{Id}
use Rattle.md_super.specs.Profile.{is_mirror, is_raid5}
use Rattle.pool_state.specs.declared.contents.Work.TheVariants.{Begin, Finish, Reshape, TakeOver}
use Rattle.array_image.specs.States.{current_places}
use Rattle.array_image.specs.Supers.{is_reshaping}
use Rattle.array_model.specs.View.{View, rows_of}
use Rattle.array_core.specs.Seats.{seat_of}
use Rattle.array_core.specs.Superblocks.{raised}
use Rattle.reshape_laws.specs.Ahead.{ahead_by, finished, next_row, taken_over}
use Rattle.reshape_laws.specs.Reshapes.{joined}
use Rattle.raid_laws.specs.Moves.{IsHeeded, IsSet}
use Rattle.raid_laws.specs.Raid.{Raid}
use Rattle.raid_laws.proofs.Over.{not_true}
use Rattle.transition_laws.specs.Changes.{changed, steps}
use Rattle.growth_laws.specs.Growing.{GetsLonger, HasJoiningSlice, has_room, has_to_begin, is_clean, is_due, is_synced, whole_position}
use Rattle.growth_laws.proofs.Becoming.{IsSynced, ahead_may, clean_rests, finished_may, reshaping_rests, synced_parts, taken_may, taken_sectors}
use Rattle.growth_laws.proofs.Beginning.{is_joining, joined_may, joined_sectors}
use Rattle.growth_laws.proofs.Room.{finished_longer}
use Rattle.growth_laws.proofs.Steps.{MayBecome, step_as_long}

-- A work's array may become what the work makes of it, and stays short enough.
pub record MayDo (v : Raid) (n : ℕ) (next : Raid → ℕ → View) (x : RackView) : Type 0 where
  pub becomes : MayBecome v n (next v n) x
  pub longer : GetsLonger v (changed (steps n (next v n)) v)

-- a takeover of an array that was cleaned
abbrev pub taken : Raid → ℕ → View
taken v n = taken_over (v.arrays n) (raised (v.arrays n).truth.events)

pub may_take_over : (v : Raid) (x : RackView) (n : ℕ) → IsSet v x → IsHeeded v → is_due v (TakeOver n) ≡ true → is_clean (v.arrays n) ≡ true → MayDo v n taken x
may_take_over v x n set heeded due clean =
    let both = and_parts (is_synced v n) (is_mirror (v.arrays n).truth) due in
    let rest = clean_rests v x n set (synced_parts v n both.0) clean in
    record {
      becomes = taken_may v x n set heeded rest both.1;
      longer = step_as_long v n (taken v n) (taken_sectors (v.arrays n) (raised (v.arrays n).truth.events) (set.arrays n rest.low).is_array both.1);
    }

-- what is known where a drive may join an array: its place is one of the list, and none of the array's members
pub record HasToBegin (v : Raid) (n place : ℕ) : Type 0 where
  pub synced : IsSynced v n
  pub raid5 : is_raid5 (v.arrays n).truth ≡ true
  pub still : is_reshaping (v.arrays n).truth ≡ false
  pub listed : place < length v.state.drives.items
  pub joins : seat_of (v.arrays n) place ≡ None

pub begin_parts : (v : Raid) (n place : ℕ) → is_due v (Begin n place) ≡ true → HasToBegin v n place
begin_parts v n place due =
    let u = v.arrays n in
    let both = and_parts (is_synced v n) (has_to_begin v n place) due in
    let kind = and_parts (is_raid5 u.truth && not (is_reshaping u.truth)) _ both.1 in
    let level = and_parts (is_raid5 u.truth) (not (is_reshaping u.truth)) kind.0 in
    let room = and_parts (nat_lt u.truth.raid_disks 16) _ kind.1 in
    let spare = and_parts (nat_lt place (length v.state.drives.items)) (is_none (seat_of u place)) room.1 in
    record {
      synced = synced_parts v n both.0;
      raid5 = level.0;
      still = not_true (is_reshaping u.truth) level.1;
      listed = ltb-true place (length v.state.drives.items) spare.0;
      joins = none_of (seat_of u place) spare.1;
    }
  where
    none_of : {X : Type 0} (o : Option X) → is_none o ≡ true → o ≡ None
    none_of None is = refl
    none_of (Some s) is = absurd (both_ways false refl is)

-- the begin of an array that was cleaned
pub may_begin : (v : Raid) (x : RackView) (n place : ℕ) (drive : Id) → IsSet v x → IsHeeded v → is_due v (Begin n place) ≡ true → is_clean (v.arrays n) ≡ true
    → HasJoiningSlice v n place x → MayDo v n (λ v n. joined (v.arrays n) (current_places v.state) place drive) x
may_begin v x n place drive set heeded due clean slice =
    let u = v.arrays n in
    let parts = begin_parts v n place due in
    let rest = clean_rests v x n set parts.synced clean in
    let is = is_joining v n place x set heeded rest parts.raid5 parts.still parts.listed parts.joins slice in
    record {
      becomes = joined_may v x n place drive is rest;
      longer = step_as_long v n (joined u (current_places v.state) place drive) (joined_sectors v.state n u place drive x is);
    }

-- so many rows
abbrev pub moved : ℕ → Raid → ℕ → View
moved rows v n = ahead_by (v.arrays n) rows (raised (v.arrays n).truth.events)

pub move_low : (v : Raid) (n : ℕ) → is_due v (Reshape n) ≡ true → n < v.state.made
move_low v n due = (synced_parts v n (and_parts (is_synced v n) _ due).0).low

pub may_move : (v : Raid) (x : RackView) (n rows : ℕ) → IsSet v x → IsHeeded v → is_due v (Reshape n) ≡ true → next_row (v.arrays n) + rows ≤ rows_of (v.arrays n)
    → MayDo v n (moved rows) x
may_move v x n rows set heeded due left =
    let u = v.arrays n in
    let both = and_parts (is_synced v n) _ due in
    let row = and_parts (is_reshaping u.truth) (nat_lt u.truth.reshape_position (whole_position u)) both.1 in
    let rest = reshaping_rests v x n set heeded (synced_parts v n both.0) row.0 in
    record {
      becomes = ahead_may v x n rows set heeded rest row.0 left;
      longer = step_as_long v n (moved rows v n) refl;
    }

-- the end of a reshape
abbrev pub ended : Raid → ℕ → View
ended v n = finished (v.arrays n) (raised (v.arrays n).truth.events)

pub may_finish : (v : Raid) (x : RackView) (n : ℕ) → IsSet v x → IsHeeded v → is_due v (Finish n) ≡ true → MayDo v n ended x
may_finish v x n set heeded due =
    let u = v.arrays n in
    let both = and_parts (is_synced v n) _ due in
    let kind = and_parts (is_reshaping u.truth) _ both.1 in
    let room = and_parts (u.truth.reshape_position == whole_position u) (has_room v) kind.1 in
    let rest = reshaping_rests v x n set heeded (synced_parts v n both.0) kind.0 in
    let becomes = finished_may v x n set heeded rest in
    record { becomes = becomes; longer = finished_longer v x n set rest.low kind.0 room.1 becomes.seated.is_array }
