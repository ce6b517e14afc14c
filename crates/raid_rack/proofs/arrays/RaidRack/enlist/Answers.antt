use Rattle.std.proofs.Common.{◌≡◌, ℕ, ◌-◌, ◌≤◌, ◌<◌, ◌^◌, ◌&&◌, ◌||◌, not, All, List, [], ◌∷◌, Ok, true, false, length, ap, subst, sym, ◌∙◌, arith}
use Rattle.std.proofs.lemmas.Bool.{ne_eqb}
use Rattle.raid_rack.specs.declared.arrays.Arrays.{Arrays}
use Rattle.raid_laws.specs.Raid.{Raid}
use Rattle.raid_laws.specs.Vacated.{vacated}
use Rattle.pool_state.specs.declared.contents.State.{State}
use Rattle.array_model.specs.View.{View}
use Rattle.raid_laws.specs.Truths.{JoinsTruths, KeepsTruths}
use Rattle.raid_laws.specs.Unlost.{KeepsUnlost}
use Rattle.raid_rack.proofs.Seating.{all_small, new_slices, seats_set}
use Rattle.rack.specs.Seen.{Rose, SameRack}
use Rattle.rack.specs.Sequences.{WritesOnly}
use Rattle.gpt_table.specs.declared.Table.{Table}
use Rattle.gpt_table.specs.Format.{IsWritable}
use Rattle.slice_rack.specs.SliceRack.{below_of, tables}
use Rattle.slice_rack.specs.Sliced.{slices_of}
use Rattle.slice_rack.proofs.Below.{stays_sliced}
use Rattle.array_image.specs.States.{is_current}
use Rattle.slice_rack.specs.Runs.{IsSliced, inside_still}
use Rattle.slice_rack.specs.Slices.{Slices}
use Rattle.shr_base.specs.declared.Id.{Id}
use Rattle.raid_laws.specs.Enlisting.{Enlists, FindsEach, HasLost, HasNewSlices, IsEnlisted, JoinsEach, SettlesWhole, new_table, next_drive, with_drive}
use Rattle.raid_laws.specs.Moves.{IsSet, IsUnmarked, Mends}
use Rattle.raid_laws.specs.NewDrive.{IsOfDrive, LaysDrive, ReachesAll, SeatsDrive, drive_table, joins}
use Rattle.raid_rack.specs.RaidRack.{IsFit, IsRunning, raid_by, slices_in}
use Rattle.raid_rack.proofs.NotTaken.{fit_still, not_whole, refused_lay, running_still}
use Rattle.raid_rack.proofs.Enlisted.{listed_units, table_writable}
use Rattle.raid_rack.proofs.EnlistRetired.{back_each, back_finds, back_joined, back_less, back_raises, back_truths, retired_heeded, retired_members, retired_missing, retired_raid, retired_set}
use Rattle.raid_laws.proofs.Missing.{current_marked, length_marked}
use Rattle.raid_rack.proofs.Renewing.{AreSameMembers, reaches_same, same_members, seats_same}
use Rattle.raid_rack.proofs.EnlistAll.{enlists, seats}
use Rattle.raid_rack.proofs.arrays.RaidRack.enlist.Given.{Over}
use Rattle.raid_rack.proofs.arrays.RaidRack.enlist.Goals as goal
use Rattle.raid_rack.proofs.arrays.RaidRack.enlist.Goals.{After-retire}

-- the table that is laid is that of the pool's next drive
table_next : (r : Arrays) (vs : List View) (place sectors size : ℕ) (drive : Id) (table : Table) → vs ≡ r.all.items → sectors ≡ size → drive ≡ next_drive r.state
    → table ≡ drive_table drive.0 vs place sectors (length vs) → table ≡ new_table r.state r.all.items place size
table_next r vs place sectors size drive table same sectors_is drive_is is =
    is
    ∙ ap (λ (e : Id). drive_table e.0 vs place sectors (length vs)) drive_is
    ∙ ap (λ k. drive_table (next_drive r.state).0 vs place k (length vs)) sectors_is
    ∙ ap (λ ws. drive_table (next_drive r.state).0 ws place size (length ws)) same

pub lay_drive-requires-clause-writable : goal.lay_drive-requires-clause-writable
lay_drive-requires-clause-writable g c =
    let few = c.requires.fit.running.set.most in
    let count = c.requires.fit.running.count in
    let same : length c.as_slice.result.now ≡ length c.args.self.now.arrays.all.items = ap length c.as_slice.ensures.value in
    let room : 10273 ≤ (g.R.Rack.seen c.below.result.now).sectors c.args.disk = subst (λ r. 10273 ≤ (g.R.Rack.seen r).sectors c.args.disk) (sym c.below.ensures) c.requires.room in
    let is = c.sectors-sectors.ensures.number in
    subst IsWritable (sym c.table_of-table.ensures)
    (table_writable c.next_drive-drive.result.0 c.as_slice.result.now c.args.place c.sectors-sectors.result (omega (arith, few, count, same)) (omega (arith, room, is)))

pub returns-in-Err-clause-fit : goal.returns-in-Err-clause-fit
returns-in-Err-clause-fit g c =
    let stays = subst (λ r. SameRack (g.R.Rack.seen r) (g.R.Rack.seen c.lay_drive.new.rack)) c.inner.ensures.value c.lay_drive.ensures.lays.only.stays in
    fit_still _ _ _ (stays_sliced c.requires.fit.running.set.fit.1 stays) c.requires.fit

pub returns-in-Err-clause-gone : goal.returns-in-Err-clause-gone
returns-in-Err-clause-gone g c is =
    let disk = c.args.disk in
    let a = g.R.Rack.seen (below_of (slices_in c.args.self.now)) in
    let b = g.R.Rack.seen c.lay_drive.new.rack in
    let table : Table = new_table c.args.self.now.arrays.state c.args.self.now.arrays.all.items c.args.place (a.sectors disk) in
    let same : c.table_of-table.result ≡ table =
    table_next c.args.self.now.arrays c.as_slice.result.now c.args.place c.sectors-sectors.result (a.sectors disk) c.next_drive-drive.result c.table_of-table.result c.as_slice.ensures.value
    (c.sectors-sectors.ensures.number ∙ ap (λ r. (g.R.Rack.seen r).sectors disk) c.below.ensures) c.next_drive-drive.ensures c.table_of-table.ensures in
    refused_lay (tables (slices_in c.args.self.now)) disk table c.args.self.now.arrays a b c.args.self.now.slices.orderly c.requires.free c.requires.fit
    (subst (λ (e : Table). WritesOnly a b (IsOfDrive disk e)) same
    (subst (λ r. WritesOnly (g.R.Rack.seen r) b (IsOfDrive disk c.table_of-table.result)) c.inner.ensures.value c.lay_drive.ensures.lays.only))
    (subst (λ r. Rose ((g.R.Rack.seen r).faults disk) (b.faults disk)) c.inner.ensures.value c.in-Err.ensures.lays.gone.1)

pub settle_whole-requires-clause-running : goal.settle_whole-requires-clause-running
settle_whole-requires-clause-running g c =
    let stays = subst (λ r. SameRack (g.R.Rack.seen r) (g.R.Rack.seen c.lay_drive.new.rack)) c.inner.ensures.value c.lay_drive.ensures.lays.only.stays in
    running_still _ _ _ (stays_sliced c.requires.fit.running.set.fit.1 stays) c.requires.fit.running

pub returns-then-not-settle_whole-clause-fit : goal.returns-then-not-settle_whole-clause-fit
returns-then-not-settle_whole-clause-fit g c = record {
  running = c.settle_whole.ensures.running;
  heeded = (c.settle_whole.ensures.mends c.if-not-settle_whole.true).heeded;
}

pub returns-then-not-settle_whole-clause-runs : goal.returns-then-not-settle_whole-clause-runs
returns-then-not-settle_whole-clause-runs g c =
    g.met.R.Rack.runs_then _ _ _ (subst (λ r. g.R.Rack.runs r c.lay_drive.new.rack) c.inner.ensures.value c.lay_drive.ensures.runs) c.settle_whole.ensures.runs.below

pub returns-then-not-settle_whole-clause-not_whole : goal.returns-then-not-settle_whole-clause-not_whole
returns-then-not-settle_whole-clause-not_whole g c is =
    let t = tables (slices_in c.args.self.now) in
    let disk = c.args.disk in
    let v = raid_by c.args.self.now.arrays in
    let w = raid_by c.settle_whole.new.self in
    let a = g.R.Rack.seen (below_of (slices_in c.args.self.now)) in
    let m = g.R.Rack.seen c.lay_drive.new.rack in
    let b = g.R.Rack.seen (below_of c.settle_whole.new.rack) in
    let laid : WritesOnly a m (IsOfDrive disk c.table_of-table.result) =
    subst (λ r. WritesOnly (g.R.Rack.seen r) m (IsOfDrive disk c.table_of-table.result)) c.inner.ensures.value c.lay_drive.ensures.lays.only in
    let table : Table = new_table c.args.self.now.arrays.state c.args.self.now.arrays.all.items c.args.place (a.sectors disk) in
    let same_table : c.table_of-table.result ≡ table =
    table_next c.args.self.now.arrays c.as_slice.result.now c.args.place c.sectors-sectors.result (a.sectors disk) c.next_drive-drive.result c.table_of-table.result c.as_slice.ensures.value
    (c.sectors-sectors.ensures.number ∙ ap (λ r. (g.R.Rack.seen r).sectors disk) c.below.ensures) c.next_drive-drive.ensures c.table_of-table.ensures in
    let same = c.settle_whole.ensures.runs.tables in
    let q = c.settle_whole.new.self in
    let mends = c.settle_whole.ensures.mends c.if-not-settle_whole.true in
    not_whole t disk table c.args.self.now.arrays q a m b c.args.self.now.slices.orderly c.requires.free c.requires.fit
    (subst (λ (e : Table). WritesOnly a m (IsOfDrive disk e)) same_table laid)
    c.settle_whole.ensures.runs.apart (record { running = subst (λ u. IsRunning q (slices_of u b)) same c.settle_whole.ensures.running; heeded = mends.heeded })
    (subst (λ u. Mends v w (slices_of t m) (slices_of u b)) same mends)
    (subst (λ u. HasLost v w (slices_of t m) (slices_of u b)) same (c.settle_whole.ensures.lost c.if-not-settle_whole.true)) c.settle_whole.ensures.raises
    (subst (λ u. KeepsTruths v w (slices_of t m) (slices_of u b)) same (c.settle_whole.ensures.truths c.if-not-settle_whole.true))
    (subst (λ u. KeepsUnlost v.state w.state (slices_of t m) (slices_of u b)) same (c.settle_whole.ensures.unlost c.if-not-settle_whole.true))

-- ---- the arrays that were settled, and as they are vacated in memory

few_place : (g : Over) (c : After-retire g) → c.args.place < 16
few_place g c = let low = c.requires.listed in let few = c.requires.fit.running.set.few in omega (arith, low, few)

all_unmarked : (g : Over) (c : After-retire g) (n : ℕ) → n < c.settle_whole.new.self.state.made → IsUnmarked ((raid_by c.settle_whole.new.self).arrays n)
all_unmarked g c n low =
    let whole = c.settle_whole.ensures.whole c.if-not-settle_whole.false in
    whole.unmarked n (subst (λ (s : State). n < s.made) whole.same low)

number_same : (g : Over) (c : After-retire g) → c.retire.new.self.log.number ≡ c.settle_whole.new.self.log.number
number_same g c = ap (λ (r : Arrays). r.log.number) c.retire.ensures.rest

retired_is : (g : Over) (c : After-retire g) → raid_by c.retire.new.self ≡ vacated c.args.place (raid_by c.settle_whole.new.self)
retired_is g c =
    retired_raid c.settle_whole.new.self c.retire.new.self c.args.place _ c.settle_whole.ensures.running (c.settle_whole.ensures.whole c.if-not-settle_whole.false).heeded
    c.retire.ensures.each c.retire.ensures.state (number_same g c)

members : (g : Over) (c : After-retire g) → AreSameMembers c.settle_whole.new.self.all.items c.retire.new.self.all.items
members g c =
    retired_members c.settle_whole.new.self c.retire.new.self c.args.place _ c.settle_whole.ensures.running (c.settle_whole.ensures.whole c.if-not-settle_whole.false).heeded
    c.retire.ensures.each c.retire.ensures.state (number_same g c)

running_retired : (g : Over) (c : After-retire g)
    → IsRunning c.retire.new.self (slices_of (tables c.settle_whole.new.rack) (g.R.Rack.seen (below_of c.settle_whole.new.rack)))
running_retired g c = record {
  count = (members g c).count ∙ c.settle_whole.ensures.running.count ∙ sym (ap (λ (s : State). s.made) c.retire.ensures.state);
  set =
      retired_set c.settle_whole.new.self c.retire.new.self c.args.place _ c.settle_whole.ensures.running (c.settle_whole.ensures.whole c.if-not-settle_whole.false).heeded
      c.retire.ensures.each c.retire.ensures.state (number_same g c) (few_place g c) (all_unmarked g c);
}

missing_retired : (g : Over) (c : After-retire g) → is_current c.retire.new.self.state c.args.place ≡ false
missing_retired g c =
    retired_missing c.settle_whole.new.self c.retire.new.self c.args.place _ c.settle_whole.ensures.running (c.settle_whole.ensures.whole c.if-not-settle_whole.false).heeded
    c.retire.ensures.each c.retire.ensures.state (number_same g c) (few_place g c) (all_unmarked g c)

-- as many drives
drives_same : (g : Over) (c : After-retire g) → length c.retire.new.self.state.drives.items ≡ length c.args.self.now.arrays.state.drives.items
drives_same g c =
    let whole = c.settle_whole.ensures.whole c.if-not-settle_whole.false in
    ap (λ (s : State). length s.drives.items) c.retire.ensures.state ∙ length_marked (c.args.place ∷ []) 0 c.settle_whole.new.self.state.drives.items
    ∙ ap (λ (s : State). length s.drives.items) whole.same

reaches_settled : (g : Over) (c : After-retire g) → ReachesAll c.settle_whole.new.self.all.items c.args.place c.sectors-sectors.result
reaches_settled g c =
    let whole = c.settle_whole.ensures.whole c.if-not-settle_whole.false in
    let stays = subst (λ r. SameRack (g.R.Rack.seen r) (g.R.Rack.seen c.lay_drive.new.rack)) c.inner.ensures.value c.lay_drive.ensures.lays.only.stays in
    let running = running_still _ _ _ (stays_sliced c.requires.fit.running.set.fit.1 stays) c.requires.fit.running in
    let size : c.sectors-sectors.result ≡ (g.R.Rack.seen (below_of (slices_in c.args.self.now))).sectors c.args.disk =
    c.sectors-sectors.ensures.number ∙ ap (λ r. (g.R.Rack.seen r).sectors c.args.disk) c.below.ensures in
    reaches_same c.args.self.now.arrays.all.items c.settle_whole.new.self.all.items
    (same_members c.args.self.now.arrays c.settle_whole.new.self _ _ running c.settle_whole.ensures.running (ap (λ (s : State). s.made) whole.same) whole.moves.arrays)
    c.args.place c.sectors-sectors.result
    (subst (ReachesAll c.args.self.now.arrays.all.items c.args.place) (sym size) c.requires.reaches)

pub seat_drive-requires-clause-small : goal.seat_drive-requires-clause-small
seat_drive-requires-clause-small g c =
    subst (λ (vs : List View). All (λ (u : View). u.truth.size < 2 ^ 48) vs) (sym c.as_slice-2.ensures.value)
    (all_small c.retire.new.self _ (running_retired g (goal.at.seat_drive-requires-clause-small g c).After-retire))

pub join-requires-clause-heeded : goal.join-requires-clause-heeded
join-requires-clause-heeded g c =
    let at = (goal.at.join-requires-clause-heeded g c).After-retire in
    retired_heeded c.settle_whole.new.self c.retire.new.self c.args.place _ c.settle_whole.ensures.running (c.settle_whole.ensures.whole c.if-not-settle_whole.false).heeded
    c.retire.ensures.each c.retire.ensures.state (number_same g at) (few_place g at) (all_unmarked g at)

pub join-requires-clause-unmarked : goal.join-requires-clause-unmarked
join-requires-clause-unmarked g c n low =
    let at = (goal.at.join-requires-clause-unmarked g c).After-retire in
    let before = all_unmarked g at n (subst (λ (s : State). n < s.made) c.retire.ensures.state low) in
    subst (λ (r : Raid). IsUnmarked (r.arrays n)) (sym (retired_is g at)) (record { mark = before.mark; rows = before.rows })

pub join-requires-clause-others : goal.join-requires-clause-others
join-requires-clause-others g c p low away =
    let at = (goal.at.join-requires-clause-others g c).After-retire in
    let whole = c.settle_whole.ensures.whole c.if-not-settle_whole.false in
    ap (λ (s : State). is_current s p) c.retire.ensures.state ∙ current_marked (c.args.place ∷ []) c.settle_whole.new.self.state p
    ∙ ap (λ b. is_current c.settle_whole.new.self.state p && not (b || false)) (ne_eqb c.args.place p (λ same. away (sym same)))
    ∙ ap (λ (s : State). is_current s p && true) whole.same
    ∙ ap (λ b. b && true) (c.requires.others p (subst (λ k. p < k) (drives_same g at) low) away)

pub join-requires-clause-missing : goal.join-requires-clause-missing
join-requires-clause-missing g c = missing_retired g (goal.at.join-requires-clause-missing g c).After-retire

pub join-requires-clause-listed : goal.join-requires-clause-listed
join-requires-clause-listed g c = subst (λ k. c.args.place < k) (sym (drives_same g (goal.at.join-requires-clause-listed g c).After-retire)) c.requires.listed

pub join-requires-clause-serial : goal.join-requires-clause-serial
join-requires-clause-serial g c =
    let whole = c.settle_whole.ensures.whole c.if-not-settle_whole.false in
    subst (λ (s : State). s.serial < 2 ^ 32 - 1) (sym (ap (λ (s : State). s) c.retire.ensures.state)) (subst (λ (s : State). s.serial < 2 ^ 32 - 1) (sym whole.same) c.requires.serial)

pub join-requires-clause-units : goal.join-requires-clause-units
join-requires-clause-units g c =
    (listed_units c.args.place c.args.units c.args.self.now.arrays.state c.args.place c.requires.units (c.requires.fit.running.set.valid c.args.place c.requires.listed)).0

pub join-requires-clause-units_end : goal.join-requires-clause-units_end
join-requires-clause-units_end g c =
    (listed_units c.args.place c.args.units c.args.self.now.arrays.state c.args.place c.requires.units (c.requires.fit.running.set.valid c.args.place c.requires.listed)).1

pub join-requires-clause-empty : goal.join-requires-clause-empty
join-requires-clause-empty g c = ap (λ (r : Arrays). r.log.added) c.retire.ensures.rest ∙ c.settle_whole.ensures.empty c.if-not-settle_whole.false

pub join-requires-clause-running : goal.join-requires-clause-running
join-requires-clause-running g c =
    let at = (goal.at.join-requires-clause-running g c).After-retire in
    let running = running_retired g at in
    let u = tables c.seat_drive.new.slices in
    let below = c.seat_drive.ensures.below in
    let v = raid_by c.retire.new.self in
    let fit = subst (λ r. (slices_of u (g.R.Rack.seen r)).fit) below c.seat_drive.ensures.fit in
    record {
      count = running.count;
      set =
          subst (λ r. IsSet v (slices_of u (g.R.Rack.seen r))) (sym below)
          (seats_set c.as_slice-2.result.now c.args.place c.args.disk c.sectors-sectors.result (tables c.settle_whole.new.rack) u (g.R.Rack.seen (below_of c.settle_whole.new.rack))
          c.seat_drive.ensures.seats v fit (missing_retired g at) running.set);
    }

pub join-requires-clause-slices : goal.join-requires-clause-slices
join-requires-clause-slices g c =
    subst (λ (vs : List View). HasNewSlices vs c.args.place c.sectors-sectors.result (slices_of (tables c.seat_drive.new.slices) (g.R.Rack.seen (below_of c.seat_drive.new.slices))))
    c.as_slice-2.ensures.value
    (new_slices c.as_slice-2.result.now c.args.place c.args.disk c.sectors-sectors.result (tables c.settle_whole.new.rack) (tables c.seat_drive.new.slices)
    (g.R.Rack.seen (below_of c.seat_drive.new.slices)) c.seat_drive.ensures.seats)

pub seat_drive-requires-clause-disk : goal.seat_drive-requires-clause-disk
seat_drive-requires-clause-disk g c =
    let one = subst (λ r. SameRack (g.R.Rack.seen r) (g.R.Rack.seen c.lay_drive.new.rack)) c.inner.ensures.value c.lay_drive.ensures.lays.only.stays in
    let two = (c.settle_whole.ensures.runs.apart one.fit (inside_still one c.requires.fit.running.set.fit.1)).stays in
    subst (λ n. c.args.disk < n) (sym (two.disks ∙ one.disks)) c.requires.disk

pub seat_drive-requires-clause-size : goal.seat_drive-requires-clause-size
seat_drive-requires-clause-size g c =
    let one = subst (λ r. SameRack (g.R.Rack.seen r) (g.R.Rack.seen c.lay_drive.new.rack)) c.inner.ensures.value c.lay_drive.ensures.lays.only.stays in
    let two = (c.settle_whole.ensures.runs.apart one.fit (inside_still one c.requires.fit.running.set.fit.1)).stays in
    c.sectors-sectors.ensures.number ∙ ap (λ r. (g.R.Rack.seen r).sectors c.args.disk) c.below.ensures ∙ sym (two.sectors c.args.disk ∙ one.sectors c.args.disk)

pub returns-clause-runs : goal.returns-clause-runs
returns-clause-runs g c =
    g.met.R.Rack.runs_then _ _ _
    (g.met.R.Rack.runs_then _ _ _ (subst (λ r. g.R.Rack.runs r c.lay_drive.new.rack) c.inner.ensures.value c.lay_drive.ensures.runs) c.settle_whole.ensures.runs.below)
    (subst (λ r. g.R.Rack.runs r (below_of c.join.new.rack)) c.seat_drive.ensures.below c.join.ensures.runs.below)

pub join-requires-clause-reaches : goal.join-requires-clause-reaches
join-requires-clause-reaches g c =
    let at = (goal.at.join-requires-clause-reaches g c).After-retire in
    reaches_same c.settle_whole.new.self.all.items c.retire.new.self.all.items (members g at) c.args.place c.sectors-sectors.result (reaches_settled g at)

pub returns-clause-seats : goal.returns-clause-seats
returns-clause-seats g c =
    let at = (goal.at.returns-clause-seats g c).After-retire in
    let t = tables (slices_in c.args.self.now) in
    let u = tables c.seat_drive.new.slices in
    let v = raid_by c.args.self.now.arrays in
    let q = c.settle_whole.new.self in
    let a = g.R.Rack.seen (below_of (slices_in c.args.self.now)) in
    let m = g.R.Rack.seen c.lay_drive.new.rack in
    let y = g.R.Rack.seen (below_of c.seat_drive.new.slices) in
    let b = g.R.Rack.seen (below_of c.join.new.rack) in
    let seen : (x : Slices) → slices_of x (g.R.Rack.seen (below_of c.settle_whole.new.rack)) ≡ slices_of x y = λ x. ap (λ r. slices_of x (g.R.Rack.seen r)) (sym c.seat_drive.ensures.below) in
    let size : c.sectors-sectors.result ≡ a.sectors c.args.disk = c.sectors-sectors.ensures.number ∙ ap (λ r. (g.R.Rack.seen r).sectors c.args.disk) c.below.ensures in
    let settles : SettlesWhole v (raid_by q) (slices_of t m) (slices_of t y) =
    subst (SettlesWhole v (raid_by q) (slices_of t m)) (ap (λ x. slices_of x (g.R.Rack.seen (below_of c.settle_whole.new.rack))) c.settle_whole.ensures.runs.tables ∙ seen t)
    (c.settle_whole.ensures.whole c.if-not-settle_whole.false) in
    let running : IsRunning q (slices_of t y) =
    subst (IsRunning q) (ap (λ x. slices_of x (g.R.Rack.seen (below_of c.settle_whole.new.rack))) c.settle_whole.ensures.runs.tables ∙ seen t) c.settle_whole.ensures.running in
    let laid : SeatsDrive q.all.items c.args.place c.args.disk c.sectors-sectors.result t u =
    seats_same q.all.items c.retire.new.self.all.items (members g at) c.args.place c.args.disk c.sectors-sectors.result t u
    (subst (λ vs. SeatsDrive vs c.args.place c.args.disk c.sectors-sectors.result t u) c.as_slice-2.ensures.value
    (subst (λ x. SeatsDrive c.as_slice-2.result.now c.args.place c.args.disk c.sectors-sectors.result x u) c.settle_whole.ensures.runs.tables c.seat_drive.ensures.seats)) in
    subst (SeatsDrive c.args.self.now.arrays.all.items c.args.place c.args.disk (a.sectors c.args.disk) t) (sym c.join.ensures.runs.tables)
    (seats c.args.self.now.arrays q c.join.new.self c.args.place c.args.disk c.args.units c.sectors-sectors.result c.args.plan t u a m y b size c.requires.fit running settles laid)

pub returns-clause-enlists : goal.returns-clause-enlists
returns-clause-enlists g c =
    let at = (goal.at.returns-clause-enlists g c).After-retire in
    let t = tables (slices_in c.args.self.now) in
    let u = tables c.seat_drive.new.slices in
    let v = raid_by c.args.self.now.arrays in
    let q = c.settle_whole.new.self in
    let a = g.R.Rack.seen (below_of (slices_in c.args.self.now)) in
    let m = g.R.Rack.seen c.lay_drive.new.rack in
    let y = g.R.Rack.seen (below_of c.seat_drive.new.slices) in
    let b = g.R.Rack.seen (below_of c.join.new.rack) in
    let seen : (x : Slices) → slices_of x (g.R.Rack.seen (below_of c.settle_whole.new.rack)) ≡ slices_of x y = λ x. ap (λ r. slices_of x (g.R.Rack.seen r)) (sym c.seat_drive.ensures.below) in
    let size : c.sectors-sectors.result ≡ a.sectors c.args.disk = c.sectors-sectors.ensures.number ∙ ap (λ r. (g.R.Rack.seen r).sectors c.args.disk) c.below.ensures in
    let settles : SettlesWhole v (raid_by q) (slices_of t m) (slices_of t y) =
    subst (SettlesWhole v (raid_by q) (slices_of t m)) (ap (λ x. slices_of x (g.R.Rack.seen (below_of c.settle_whole.new.rack))) c.settle_whole.ensures.runs.tables ∙ seen t)
    (c.settle_whole.ensures.whole c.if-not-settle_whole.false) in
    let running : IsRunning q (slices_of t y) =
    subst (IsRunning q) (ap (λ x. slices_of x (g.R.Rack.seen (below_of c.settle_whole.new.rack))) c.settle_whole.ensures.runs.tables ∙ seen t) c.settle_whole.ensures.running in
    let laid : SeatsDrive q.all.items c.args.place c.args.disk c.sectors-sectors.result t u =
    seats_same q.all.items c.retire.new.self.all.items (members g at) c.args.place c.args.disk c.sectors-sectors.result t u
    (subst (λ vs. SeatsDrive vs c.args.place c.args.disk c.sectors-sectors.result t u) c.as_slice-2.ensures.value
    (subst (λ x. SeatsDrive c.as_slice-2.result.now c.args.place c.args.disk c.sectors-sectors.result x u) c.settle_whole.ensures.runs.tables c.seat_drive.ensures.seats)) in
    let r = c.args.self.now.arrays in
    let z = c.join.new.self in
    let lays = subst (λ x. LaysDrive (g.R.Rack.seen x) m c.args.disk c.table_of-table.result {X = Unit {0}} (Ok tt)) c.inner.ensures.value c.in_default.ensures.lays in
    let inside = c.requires.fit.running.set.fit.1 in
    let two : WritesOnly m y (IsSliced t) =
    subst (λ x. WritesOnly m (g.R.Rack.seen x) (IsSliced t)) (sym c.seat_drive.ensures.below)
    (c.settle_whole.ensures.runs.apart lays.only.stays.fit (inside_still lays.only.stays inside)) in
    let three = c.join.ensures.runs.apart c.seat_drive.ensures.fit.0 c.seat_drive.ensures.fit.1 in
    let d = c.retire.new.self in
    let whole = c.settle_whole.ensures.whole c.if-not-settle_whole.false in
    let unmarked = all_unmarked g at in
    let joined = subst (λ x. IsEnlisted c.args.place c.args.units c.args.plan (joins d.all.items c.args.place c.sectors-sectors.result) (raid_by d) (raid_by z) (slices_of u y) (slices_of x b))
    c.join.ensures.runs.tables c.join.ensures.joined in
    let before = whole.heeded in
    let ran = c.settle_whole.ensures.running in
    let number = number_same g at in
    let low = few_place g at in
    let reaches = reaches_settled g at in
    subst (λ x. Enlists t x r.all.items c.args.place c.args.disk c.args.units c.args.plan v (raid_by z) a b) (sym c.join.ensures.runs.tables)
    (enlists r q z c.args.place c.args.disk c.args.units c.sectors-sectors.result c.args.plan t u a m y b size c.requires.fit running settles laid
    c.table_of-table.result c.args.self.now.slices.orderly c.seat_drive.new.slices.orderly c.requires.listed c.requires.free c.requires.room
    (c.table_of-table.ensures
    ∙ ap (λ e. drive_table e c.as_slice.result.now c.args.place c.sectors-sectors.result (length c.as_slice.result.now)) (ap (λ (e : Id). e.0) c.next_drive-drive.ensures)
    ∙ ap (λ vs. drive_table (next_drive r.state).0 vs c.args.place c.sectors-sectors.result (length vs)) c.as_slice.ensures.value)
    lays two c.seat_drive.ensures.fit
    (back_joined q d c.args.place _ ran before c.retire.ensures.each c.retire.ensures.state number low unmarked z c.args.units c.sectors-sectors.result c.args.plan (slices_of u y) (slices_of u b)
    reaches joined)
    (back_raises q d c.args.place _ ran before c.retire.ensures.each c.retire.ensures.state number low unmarked z c.args.units c.sectors-sectors.result c.args.plan (slices_of u y) (slices_of u b)
    reaches c.join.ensures.raises)
    (λ missing.
    back_each q d c.args.place _ ran before c.retire.ensures.each c.retire.ensures.state number low unmarked z c.args.units c.sectors-sectors.result c.args.plan (slices_of u y) (slices_of u b)
    reaches (subst (λ x. JoinsEach c.args.place c.args.units c.args.plan (raid_by d) (raid_by z) (slices_of u y) (slices_of x b)) c.join.ensures.runs.tables c.join.ensures.each)
    (ap (λ (k : State). is_current k c.args.place) whole.same ∙ missing))
    (back_finds q d c.args.place _ ran before c.retire.ensures.each c.retire.ensures.state number low unmarked z c.args.units c.sectors-sectors.result c.args.plan (slices_of u y) (slices_of u b)
    reaches (subst (λ x. FindsEach c.args.place c.args.units c.args.plan (raid_by d) (raid_by z) (slices_of u y) (slices_of x b)) c.join.ensures.runs.tables c.join.ensures.finds))
    (back_less q d c.args.place _ ran before c.retire.ensures.each c.retire.ensures.state number low unmarked z c.args.units c.sectors-sectors.result c.args.plan (slices_of u y) (slices_of u b)
    reaches joined)
    three (subst (λ x. IsFit z (slices_of x b)) c.join.ensures.runs.tables c.join.ensures.fit)
    (back_truths q d c.args.place _ ran before c.retire.ensures.each c.retire.ensures.state number low unmarked z c.args.units c.sectors-sectors.result c.args.plan (slices_of u y) (slices_of u b)
    reaches (subst (λ x. JoinsTruths (with_drive c.args.place c.args.units c.args.plan (joins d.all.items c.args.place c.sectors-sectors.result) (raid_by d)) (raid_by z) (slices_of u y) (slices_of x b))
    c.join.ensures.runs.tables c.join.ensures.truths)))
