use Rattle.std.proofs.Common.{◌≡◌, ℕ, Bool, ◌-◌, ◌≤◌, ◌<◌, ◌^◌, ◌&&◌, ◌||◌, not, All, List, [], ◌∷◌, true, false, length, ap, subst, sym, ◌∙◌, arith}
use Rattle.std.proofs.lemmas.Bool.{ne_eqb}
use Rattle.rack.specs.Seen.{SameRack}
use Rattle.rack.specs.Sequences.{WritesOnly}
use Rattle.rack.proofs.Writing.{only_then}
use Rattle.slice_rack.specs.SliceRack.{below_of, tables}
use Rattle.slice_rack.specs.Slices.{Slices, disk_of}
use Rattle.slice_rack.specs.Sliced.{slices_of}
use Rattle.slice_rack.specs.Runs.{IsSliced}
use Rattle.pool_state.specs.declared.contents.State.{State}
use Rattle.array_image.specs.States.{is_current}
use Rattle.array_model.specs.View.{View}
use Rattle.raid_laws.specs.Enlisting.{HasNewSlices, IsEnlisted, SettlesWhole}
use Rattle.raid_laws.specs.Moves.{IsSet, IsUnmarked}
use Rattle.raid_laws.specs.NewDrive.{ReachesAll, SeatsDrive, joins}
use Rattle.raid_laws.specs.Raid.{Raid}
use Rattle.raid_laws.specs.Vacated.{vacated}
use Rattle.raid_laws.proofs.Missing.{current_marked, length_marked}
use Rattle.growth_laws.specs.NewDrives.{TakesIn}
use Rattle.growth_laws.proofs.Listing.{enlisted_takes}
use Rattle.raid_rack.specs.declared.arrays.Arrays.{Arrays}
use Rattle.raid_rack.specs.RaidRack.{IsRunning, raid_by, slices_in}
use Rattle.raid_rack.proofs.EnlistAll.{seats}
use Rattle.raid_rack.proofs.EnlistRetired.{back_joined, back_raises, retired_heeded, retired_members, retired_missing, retired_raid, retired_set}
use Rattle.raid_rack.proofs.Enrolled.{enrolled, enrolled_raises}
use Rattle.raid_rack.proofs.Raises.{raises_more}
use Rattle.raid_rack.proofs.Renewing.{AreSameMembers, joins_same, reaches_same, same_members, seats_same}
use Rattle.raid_rack.proofs.Seating.{all_small, new_slices, seats_set}
use Rattle.raid_rack.proofs.Untouched.{only_moved}
use Rattle.raid_rack.proofs.arrays.RaidRack.exchange.Given.{Over}
use Rattle.raid_rack.proofs.arrays.RaidRack.exchange.Goals as goal
use Rattle.raid_rack.proofs.arrays.RaidRack.exchange.Goals.{After-join, After-retire}

-- ---- somebody was found gone

pub returns-then-not-settle_whole-clause-fit : goal.returns-then-not-settle_whole-clause-fit
returns-then-not-settle_whole-clause-fit g c = record {
  running = c.settle_whole.ensures.running;
  heeded = (c.settle_whole.ensures.mends c.if-not-settle_whole.true).heeded;
}

pub returns-then-not-settle_whole-clause-only : goal.returns-then-not-settle_whole-clause-only
returns-then-not-settle_whole-clause-only g c =
    let fit = c.requires.fit.running.set.fit in
    subst (λ (u : Slices). WritesOnly (g.R.Rack.seen (below_of (slices_in c.args.self.now))) (g.R.Rack.seen (below_of c.settle_whole.new.rack)) (IsSliced u)) (sym c.settle_whole.ensures.runs.tables)
    (c.settle_whole.ensures.runs.apart fit.0 fit.1)

pub returns-then-not-settle_whole-clause-raises : goal.returns-then-not-settle_whole-clause-raises
returns-then-not-settle_whole-clause-raises g c = raises_more 18 19 (raid_by c.args.self.now.arrays) (raid_by c.settle_whole.new.self) (omega arith) c.settle_whole.ensures.raises

-- ---- the arrays that were settled, and as they are vacated in memory

few_place : (g : Over) (c : After-retire g) → c.args.place < 16
few_place g c = let low = c.requires.listed in let few = c.requires.fit.running.set.few in omega (arith, low, few)

all_unmarked : (g : Over) (c : After-retire g) (n : ℕ) → n < c.settle_whole.new.self.state.made → IsUnmarked ((raid_by c.settle_whole.new.self).arrays n)
all_unmarked g c n low =
    let whole = c.settle_whole.ensures.whole c.if-not-settle_whole.false in
    whole.unmarked n (subst (λ (s : State). n < s.made) whole.same low)

number_same : (g : Over) (c : After-retire g) → c.retire.new.self.log.number ≡ c.settle_whole.new.self.log.number
number_same g c = ap (λ (r : Arrays). r.log.number) c.retire.ensures.rest

retired_is : (g : Over) (c : After-retire g) → raid_by c.retire.new.self ≡ vacated c.args.place (raid_by c.settle_whole.new.self)
retired_is g c =
    retired_raid c.settle_whole.new.self c.retire.new.self c.args.place _ c.settle_whole.ensures.running (c.settle_whole.ensures.whole c.if-not-settle_whole.false).heeded
    c.retire.ensures.each c.retire.ensures.state (number_same g c)

members : (g : Over) (c : After-retire g) → AreSameMembers c.settle_whole.new.self.all.items c.retire.new.self.all.items
members g c =
    retired_members c.settle_whole.new.self c.retire.new.self c.args.place _ c.settle_whole.ensures.running (c.settle_whole.ensures.whole c.if-not-settle_whole.false).heeded
    c.retire.ensures.each c.retire.ensures.state (number_same g c)

running_retired : (g : Over) (c : After-retire g)
    → IsRunning c.retire.new.self (slices_of (tables c.settle_whole.new.rack) (g.R.Rack.seen (below_of c.settle_whole.new.rack)))
running_retired g c = record {
  count = (members g c).count ∙ c.settle_whole.ensures.running.count ∙ sym (ap (λ (s : State). s.made) c.retire.ensures.state);
  set =
      retired_set c.settle_whole.new.self c.retire.new.self c.args.place _ c.settle_whole.ensures.running (c.settle_whole.ensures.whole c.if-not-settle_whole.false).heeded
      c.retire.ensures.each c.retire.ensures.state (number_same g c) (few_place g c) (all_unmarked g c);
}

missing_retired : (g : Over) (c : After-retire g) → is_current c.retire.new.self.state c.args.place ≡ false
missing_retired g c =
    retired_missing c.settle_whole.new.self c.retire.new.self c.args.place _ c.settle_whole.ensures.running (c.settle_whole.ensures.whole c.if-not-settle_whole.false).heeded
    c.retire.ensures.each c.retire.ensures.state (number_same g c) (few_place g c) (all_unmarked g c)

-- as many drives
drives_same : (g : Over) (c : After-retire g) → length c.retire.new.self.state.drives.items ≡ length c.args.self.now.arrays.state.drives.items
drives_same g c =
    let whole = c.settle_whole.ensures.whole c.if-not-settle_whole.false in
    ap (λ (s : State). length s.drives.items) c.retire.ensures.state ∙ length_marked (c.args.place ∷ []) 0 c.settle_whole.new.self.state.drives.items
    ∙ ap (λ (s : State). length s.drives.items) whole.same

-- settling kept which members there are
settled_members : (g : Over) (c : After-retire g) → AreSameMembers c.args.self.now.arrays.all.items c.settle_whole.new.self.all.items
settled_members g c =
    let whole = c.settle_whole.ensures.whole c.if-not-settle_whole.false in
    same_members c.args.self.now.arrays c.settle_whole.new.self _ _ c.requires.fit.running c.settle_whole.ensures.running (ap (λ (s : State). s.made) whole.same) whole.moves.arrays

reaches_settled : (g : Over) (c : After-retire g) → ReachesAll c.settle_whole.new.self.all.items c.args.place c.args.sectors
reaches_settled g c =
    reaches_same c.args.self.now.arrays.all.items c.settle_whole.new.self.all.items (settled_members g c) c.args.place c.args.sectors c.requires.reaches

settle_stays : (g : Over) (c : After-retire g) → SameRack (g.R.Rack.seen (below_of (slices_in c.args.self.now))) (g.R.Rack.seen (below_of c.settle_whole.new.rack))
settle_stays g c = let fit = c.requires.fit.running.set.fit in (c.settle_whole.ensures.runs.apart fit.0 fit.1).stays

-- ---- its slices

pub seat_drive-requires-clause-small : goal.seat_drive-requires-clause-small
seat_drive-requires-clause-small g c =
    subst (λ (vs : List View). All (λ (u : View). u.truth.size < 2 ^ 48) vs) (sym c.as_slice.ensures.value)
    (all_small c.retire.new.self _ (running_retired g (goal.at.seat_drive-requires-clause-small g c).After-retire))

pub seat_drive-requires-clause-disk : goal.seat_drive-requires-clause-disk
seat_drive-requires-clause-disk g c =
    let stays = settle_stays g (goal.at.seat_drive-requires-clause-disk g c).After-retire in
    subst (λ n. c.args.disk < n) (sym stays.disks) c.requires.disk

pub seat_drive-requires-clause-size : goal.seat_drive-requires-clause-size
seat_drive-requires-clause-size g c =
    let stays = settle_stays g (goal.at.seat_drive-requires-clause-size g c).After-retire in
    c.requires.size ∙ sym (stays.sectors c.args.disk)

-- ---- the commit

pub join-requires-clause-heeded : goal.join-requires-clause-heeded
join-requires-clause-heeded g c =
    let at = (goal.at.join-requires-clause-heeded g c).After-retire in
    retired_heeded c.settle_whole.new.self c.retire.new.self c.args.place _ c.settle_whole.ensures.running (c.settle_whole.ensures.whole c.if-not-settle_whole.false).heeded
    c.retire.ensures.each c.retire.ensures.state (number_same g at) (few_place g at) (all_unmarked g at)

pub join-requires-clause-unmarked : goal.join-requires-clause-unmarked
join-requires-clause-unmarked g c n low =
    let at = (goal.at.join-requires-clause-unmarked g c).After-retire in
    let before = all_unmarked g at n (subst (λ (s : State). n < s.made) c.retire.ensures.state low) in
    subst (λ (r : Raid). IsUnmarked (r.arrays n)) (sym (retired_is g at)) (record { mark = before.mark; rows = before.rows })

pub join-requires-clause-others : goal.join-requires-clause-others
join-requires-clause-others g c p low away =
    let at = (goal.at.join-requires-clause-others g c).After-retire in
    let whole = c.settle_whole.ensures.whole c.if-not-settle_whole.false in
    ap (λ (s : State). is_current s p) c.retire.ensures.state ∙ current_marked (c.args.place ∷ []) c.settle_whole.new.self.state p
    ∙ ap (λ b. is_current c.settle_whole.new.self.state p && not (b || false)) (ne_eqb c.args.place p (λ same. away (sym same)))
    ∙ ap (λ (s : State). is_current s p && true) whole.same
    ∙ ap (λ b. b && true) (c.requires.others p (subst (λ k. p < k) (drives_same g at) low) away)

pub join-requires-clause-missing : goal.join-requires-clause-missing
join-requires-clause-missing g c = missing_retired g (goal.at.join-requires-clause-missing g c).After-retire

pub join-requires-clause-listed : goal.join-requires-clause-listed
join-requires-clause-listed g c = subst (λ k. c.args.place < k) (sym (drives_same g (goal.at.join-requires-clause-listed g c).After-retire)) c.requires.listed

pub join-requires-clause-serial : goal.join-requires-clause-serial
join-requires-clause-serial g c =
    let whole = c.settle_whole.ensures.whole c.if-not-settle_whole.false in
    subst (λ (s : State). s.serial < 2 ^ 32 - 1) (sym (ap (λ (s : State). s) c.retire.ensures.state)) (subst (λ (s : State). s.serial < 2 ^ 32 - 1) (sym whole.same) c.requires.serial)

pub join-requires-clause-empty : goal.join-requires-clause-empty
join-requires-clause-empty g c = ap (λ (r : Arrays). r.log.added) c.retire.ensures.rest ∙ c.settle_whole.ensures.empty c.if-not-settle_whole.false

pub join-requires-clause-running : goal.join-requires-clause-running
join-requires-clause-running g c =
    let at = (goal.at.join-requires-clause-running g c).After-retire in
    let running = running_retired g at in
    let u = tables c.seat_drive.new.slices in
    let below = c.seat_drive.ensures.below in
    let v = raid_by c.retire.new.self in
    let fit = subst (λ r. (slices_of u (g.R.Rack.seen r)).fit) below c.seat_drive.ensures.fit in
    record {
      count = running.count;
      set =
          subst (λ r. IsSet v (slices_of u (g.R.Rack.seen r))) (sym below)
          (seats_set c.as_slice.result.now c.args.place c.args.disk c.args.sectors (tables c.settle_whole.new.rack) u (g.R.Rack.seen (below_of c.settle_whole.new.rack))
          c.seat_drive.ensures.seats v fit (missing_retired g at) running.set);
    }

pub join-requires-clause-slices : goal.join-requires-clause-slices
join-requires-clause-slices g c =
    subst (λ (vs : List View). HasNewSlices vs c.args.place c.args.sectors (slices_of (tables c.seat_drive.new.slices) (g.R.Rack.seen (below_of c.seat_drive.new.slices))))
    c.as_slice.ensures.value
    (new_slices c.as_slice.result.now c.args.place c.args.disk c.args.sectors (tables c.settle_whole.new.rack) (tables c.seat_drive.new.slices)
    (g.R.Rack.seen (below_of c.seat_drive.new.slices)) c.seat_drive.ensures.seats)

pub join-requires-clause-reaches : goal.join-requires-clause-reaches
join-requires-clause-reaches g c =
    let at = (goal.at.join-requires-clause-reaches g c).After-retire in
    reaches_same c.settle_whole.new.self.all.items c.retire.new.self.all.items (members g at) c.args.place c.args.sectors (reaches_settled g at)

-- ---- all of it

-- the slices that were settled, by the rack that the drive's slices were added over
settled : (g : Over) (c : After-retire g) (rack : g.row.R.Denot) → rack ≡ below_of c.settle_whole.new.rack
    → SettlesWhole (raid_by c.args.self.now.arrays) (raid_by c.settle_whole.new.self)
    (slices_of (tables (slices_in c.args.self.now)) (g.R.Rack.seen (below_of (slices_in c.args.self.now)))) (slices_of (tables (slices_in c.args.self.now)) (g.R.Rack.seen rack))
settled g c rack same =
    let v = raid_by c.args.self.now.arrays in
    let t = tables (slices_in c.args.self.now) in
    let w = raid_by c.settle_whole.new.self in
    let x = slices_of t (g.R.Rack.seen (below_of (slices_in c.args.self.now))) in
    subst (λ k. SettlesWhole v w x (slices_of t (g.R.Rack.seen k))) (sym same)
    (subst (λ (u : Slices). SettlesWhole v w x (slices_of u (g.R.Rack.seen (below_of c.settle_whole.new.rack)))) c.settle_whole.ensures.runs.tables
    (c.settle_whole.ensures.whole c.if-not-settle_whole.false))

still_running : (g : Over) (c : After-retire g) (rack : g.row.R.Denot) → rack ≡ below_of c.settle_whole.new.rack
    → IsRunning c.settle_whole.new.self (slices_of (tables (slices_in c.args.self.now)) (g.R.Rack.seen rack))
still_running g c rack same =
    let t = tables (slices_in c.args.self.now) in
    let q = c.settle_whole.new.self in
    subst (λ k. IsRunning q (slices_of t (g.R.Rack.seen k))) (sym same)
    (subst (λ (u : Slices). IsRunning q (slices_of u (g.R.Rack.seen (below_of c.settle_whole.new.rack)))) c.settle_whole.ensures.runs.tables c.settle_whole.ensures.running)

pub returns-clause-seats : goal.returns-clause-seats
returns-clause-seats g c is =
    let at = (goal.at.returns-clause-seats g c).After-retire in
    let r = c.args.self.now.arrays in
    let q = c.settle_whole.new.self in
    let z = c.join.new.self in
    let place = c.args.place in
    let disk = c.args.disk in
    let t = tables (slices_in c.args.self.now) in
    let u = tables c.seat_drive.new.slices in
    let a = g.R.Rack.seen (below_of (slices_in c.args.self.now)) in
    let y = g.R.Rack.seen (below_of c.seat_drive.new.slices) in
    let b = g.R.Rack.seen (below_of c.join.new.rack) in
    let settles = settled g at (below_of c.seat_drive.new.slices) c.seat_drive.ensures.below in
    let laid : SeatsDrive r.all.items place disk (a.sectors disk) t u =
    seats r q z place disk c.args.units c.args.sectors c.args.plan t u a a y b c.requires.size c.requires.fit (still_running g at (below_of c.seat_drive.new.slices) c.seat_drive.ensures.below) settles
    (seats_same q.all.items c.retire.new.self.all.items (members g at) place disk c.args.sectors t u
    (subst (λ vs. SeatsDrive vs place disk c.args.sectors t u) c.as_slice.ensures.value
    (subst (λ x. SeatsDrive c.as_slice.result.now place disk c.args.sectors x u) c.settle_whole.ensures.runs.tables c.seat_drive.ensures.seats))) in
    subst (λ k. SeatsDrive r.all.items place disk k t (tables c.join.new.rack)) (sym c.requires.size)
    (subst (SeatsDrive r.all.items place disk (a.sectors disk) t) (sym c.join.ensures.runs.tables) laid)

pub returns-clause-takes : goal.returns-clause-takes
returns-clause-takes g c is =
    let at = (goal.at.returns-clause-takes g c).After-retire in
    let r = c.args.self.now.arrays in
    let q = c.settle_whole.new.self in
    let z = c.join.new.self in
    let place = c.args.place in
    let disk = c.args.disk in
    let t = tables (slices_in c.args.self.now) in
    let u = tables c.seat_drive.new.slices in
    let a = g.R.Rack.seen (below_of (slices_in c.args.self.now)) in
    let y = g.R.Rack.seen (below_of c.seat_drive.new.slices) in
    let b = g.R.Rack.seen (below_of c.join.new.rack) in
    let settles = settled g at (below_of c.seat_drive.new.slices) c.seat_drive.ensures.below in
    let whole = c.settle_whole.ensures.whole c.if-not-settle_whole.false in
    let d = c.retire.new.self in
    let v = raid_by r in
    let w = raid_by z in
    let stays = settle_stays g at in
    let same = settled_members g at in
    let joined = subst (λ x. IsEnlisted place c.args.units c.args.plan (joins d.all.items place c.args.sectors) (raid_by d) w (slices_of u y) (slices_of x b)) c.join.ensures.runs.tables c.join.ensures.joined in
    let back =
    back_joined q d place _ c.settle_whole.ensures.running whole.heeded c.retire.ensures.each c.retire.ensures.state (number_same g at) (few_place g at) (all_unmarked g at) z c.args.units c.args.sectors
    c.args.plan (slices_of u y) (slices_of u b) (reaches_settled g at) joined in
    let now = subst (λ (f : ℕ → Bool). IsEnlisted place c.args.units c.args.plan f (raid_by q) w (slices_of u y) (slices_of u b))
    (λ i n. joins_same r.all.items q.all.items same place c.args.sectors n i) back in
    let faults : (k : ℕ) → a.faults (disk_of u k) ≤ y.faults (disk_of u k) =
    λ k. subst (λ e. a.faults (disk_of u k) ≤ (g.R.Rack.seen e).faults (disk_of u k)) (sym c.seat_drive.ensures.below) (stays.faults (disk_of u k)) in
    subst (λ (x : Slices). TakesIn place c.args.units c.args.plan (joins r.all.items place c.args.sectors) v w (slices_of x a) (slices_of x b)) (sym c.join.ensures.runs.tables)
    (enlisted_takes place c.args.units c.args.plan (joins r.all.items place c.args.sectors) v w (slices_of u a) (slices_of u b) c.requires.listed
    (enrolled place c.args.units c.args.plan (joins r.all.items place c.args.sectors) v (raid_by q) w (slices_of t a) (slices_of t y) (slices_of u y) (slices_of u b) settles.same settles c.requires.fit.heeded
    (slices_of u a) (slices_of t a) c.requires.fit.running.set faults now))

pub returns-clause-only : goal.returns-clause-only
returns-clause-only g c =
    let at = (goal.at.returns-clause-only g c).After-retire in
    let r = c.args.self.now.arrays in
    let q = c.settle_whole.new.self in
    let z = c.join.new.self in
    let place = c.args.place in
    let disk = c.args.disk in
    let t = tables (slices_in c.args.self.now) in
    let u = tables c.seat_drive.new.slices in
    let a = g.R.Rack.seen (below_of (slices_in c.args.self.now)) in
    let y = g.R.Rack.seen (below_of c.seat_drive.new.slices) in
    let b = g.R.Rack.seen (below_of c.join.new.rack) in
    let settles = settled g at (below_of c.seat_drive.new.slices) c.seat_drive.ensures.below in
    let laid : SeatsDrive r.all.items place disk (a.sectors disk) t u =
    seats r q z place disk c.args.units c.args.sectors c.args.plan t u a a y b c.requires.size c.requires.fit (still_running g at (below_of c.seat_drive.new.slices) c.seat_drive.ensures.below) settles
    (seats_same q.all.items c.retire.new.self.all.items (members g at) place disk c.args.sectors t u
    (subst (λ vs. SeatsDrive vs place disk c.args.sectors t u) c.as_slice.ensures.value
    (subst (λ x. SeatsDrive c.as_slice.result.now place disk c.args.sectors x u) c.settle_whole.ensures.runs.tables c.seat_drive.ensures.seats))) in
    let fit = c.requires.fit.running.set.fit in
    let two : WritesOnly a y (IsSliced t) = subst (λ k. WritesOnly a (g.R.Rack.seen k) (IsSliced t)) (sym c.seat_drive.ensures.below) (c.settle_whole.ensures.runs.apart fit.0 fit.1) in
    let three = c.join.ensures.runs.apart c.seat_drive.ensures.fit.0 c.seat_drive.ensures.fit.1 in
    subst (λ (x : Slices). WritesOnly a b (IsSliced x)) (sym c.join.ensures.runs.tables)
    (only_then (IsSliced u) (only_moved r.all.items place disk (a.sectors disk) t u laid a y (few_place g at) two settles.reads) three)

pub returns-clause-raises : goal.returns-clause-raises
returns-clause-raises g c =
    let at = (goal.at.returns-clause-raises g c).After-retire in
    let r = c.args.self.now.arrays in
    let q = c.settle_whole.new.self in
    let z = c.join.new.self in
    let place = c.args.place in
    let disk = c.args.disk in
    let t = tables (slices_in c.args.self.now) in
    let u = tables c.seat_drive.new.slices in
    let a = g.R.Rack.seen (below_of (slices_in c.args.self.now)) in
    let y = g.R.Rack.seen (below_of c.seat_drive.new.slices) in
    let b = g.R.Rack.seen (below_of c.join.new.rack) in
    let settles = settled g at (below_of c.seat_drive.new.slices) c.seat_drive.ensures.below in
    let whole = c.settle_whole.ensures.whole c.if-not-settle_whole.false in
    let d = c.retire.new.self in
    enrolled_raises place c.args.units c.args.plan (joins r.all.items place c.args.sectors) (raid_by r) (raid_by q) (raid_by z) (slices_of t a) (slices_of t y) (slices_of u y) (slices_of u b)
    settles.same settles c.requires.fit.heeded
    (back_raises q d place _ c.settle_whole.ensures.running whole.heeded c.retire.ensures.each c.retire.ensures.state (number_same g at) (few_place g at) (all_unmarked g at) z c.args.units c.args.sectors
    c.args.plan (slices_of u y) (slices_of u b) (reaches_settled g at) c.join.ensures.raises)

pub returns-clause-runs : goal.returns-clause-runs
returns-clause-runs g c =
    g.met.R.Rack.runs_then _ _ _ c.settle_whole.ensures.runs.below (subst (λ r. g.R.Rack.runs r (below_of c.join.new.rack)) c.seat_drive.ensures.below c.join.ensures.runs.below)
