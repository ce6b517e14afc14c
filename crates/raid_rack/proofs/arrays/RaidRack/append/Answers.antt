use Rattle.std.proofs.Common.{◌≡◌, ◌<◌, List, ℕ, Bool, false, length, ap, sym, subst, ◌∙◌}
use Rattle.rack.specs.Sequences.{WritesOnly}
use Rattle.slice_rack.specs.SliceRack.{below_of, tables}
use Rattle.slice_rack.specs.Slices.{Slices}
use Rattle.slice_rack.specs.Sliced.{slices_of}
use Rattle.slice_rack.specs.Runs.{IsSliced}
use Rattle.pool_state.specs.declared.contents.Plan.TheVariants.{Add}
use Rattle.array_image.specs.Places.{log_sectors, log_slice}
use Rattle.array_model.specs.View.{View}
use Rattle.raid_laws.specs.NewDrive.{SeatsDrive}
use Rattle.growth_laws.specs.NewDrives.{TakesIn}
use Rattle.raid_rack.specs.RaidRack.{IsRunning, raid_by, slices_in}
use Rattle.raid_rack.proofs.AddDrive.{joins_none, running_next}
use Rattle.raid_rack.proofs.Seating.{new_slices}
use Rattle.raid_rack.proofs.arrays.RaidRack.append.Goals as goal

pub add-requires-clause-running : goal.add-requires-clause-running
add-requires-clause-running g c =
    let r = c.args.self.now.arrays in
    let t = tables (slices_in c.args.self.now) in
    running_next r c.as_slice.result.now c.args.place c.args.disk c.args.sectors t (tables c.seat_drive.new.slices) (g.R.Rack.seen (below_of c.seat_drive.new.slices)) c.requires.may.next
    c.seat_drive.ensures.seats c.seat_drive.ensures.fit
    (subst (λ k. IsRunning r (slices_of t (g.R.Rack.seen k))) (sym c.seat_drive.ensures.below) c.requires.fit.running)

pub add-requires-clause-log : goal.add-requires-clause-log
add-requires-clause-log g c =
    let u = tables c.seat_drive.new.slices in
    let y = g.R.Rack.seen (below_of c.seat_drive.new.slices) in
    subst (λ k. (slices_of u y).sectors (log_slice k) ≡ log_sectors) c.requires.may.next
    (new_slices c.as_slice.result.now c.args.place c.args.disk c.args.sectors (tables (slices_in c.args.self.now)) u y c.seat_drive.ensures.seats).log

pub add-requires-clause-some : goal.add-requires-clause-some
add-requires-clause-some g c = subst (λ k. 0 < k) c.requires.may.next c.requires.may.some

pub add-requires-clause-few : goal.add-requires-clause-few
add-requires-clause-few g c = subst (λ k. k < 16) c.requires.may.next c.requires.may.few

pub add-requires-clause-plan : goal.add-requires-clause-plan
add-requires-clause-plan g c = c.requires.plan ∙ ap (λ k. Add k) c.requires.may.next

pub returns-clause-seats : goal.returns-clause-seats
returns-clause-seats g c =
    let t = tables (slices_in c.args.self.now) in
    subst (λ (u : Slices). SeatsDrive c.args.self.now.arrays.all.items c.args.place c.args.disk c.args.sectors t u) (sym c.add.ensures.runs.tables)
    (subst (λ (vs : List View). SeatsDrive vs c.args.place c.args.disk c.args.sectors t (tables c.seat_drive.new.slices)) c.as_slice.ensures.value c.seat_drive.ensures.seats)

pub returns-clause-takes : goal.returns-clause-takes
returns-clause-takes g c =
    let r = c.args.self.now.arrays in
    let v = raid_by r in
    let w = raid_by c.add.new.self in
    let a = g.R.Rack.seen (below_of (slices_in c.args.self.now)) in
    let b = g.R.Rack.seen (below_of c.add.new.rack) in
    subst (λ (f : ℕ → Bool). TakesIn c.args.place c.args.units c.args.plan f v w (slices_of (tables c.add.new.rack) a) (slices_of (tables c.add.new.rack) b))
    (λ i n. sym (joins_none r c.args.place c.args.sectors _ c.requires.may.next c.requires.fit.running n) i)
    (subst (λ k. TakesIn k c.args.units c.args.plan (λ n. false) v w (slices_of (tables c.add.new.rack) a) (slices_of (tables c.add.new.rack) b)) (sym c.requires.may.next)
    (subst (λ (u : Slices). TakesIn (length v.state.drives.items) c.args.units c.args.plan (λ n. false) v w (slices_of u a) (slices_of (tables c.add.new.rack) b)) (sym c.add.ensures.runs.tables)
    (subst (λ k. TakesIn (length v.state.drives.items) c.args.units c.args.plan (λ n. false) v w (slices_of (tables c.seat_drive.new.slices) (g.R.Rack.seen k)) (slices_of (tables c.add.new.rack) b))
    c.seat_drive.ensures.below c.add.ensures.takes)))

pub returns-clause-only : goal.returns-clause-only
returns-clause-only g c =
    let b = g.R.Rack.seen (below_of c.add.new.rack) in
    let fit = c.seat_drive.ensures.fit in
    subst (λ (u : Slices). WritesOnly (g.R.Rack.seen (below_of (slices_in c.args.self.now))) b (IsSliced u)) (sym c.add.ensures.runs.tables)
    (subst (λ k. WritesOnly (g.R.Rack.seen k) b (IsSliced (tables c.seat_drive.new.slices))) c.seat_drive.ensures.below (c.add.ensures.runs.apart fit.0 fit.1))

pub returns-clause-runs : goal.returns-clause-runs
returns-clause-runs g c = subst (λ r. g.R.Rack.runs r (below_of c.add.new.rack)) c.seat_drive.ensures.below c.add.ensures.runs.below
