use Rattle.std.specs.Prelude.{Result, Ok, Err}
use Rattle.std.proofs.Common.{◌≡◌, ◌≢◌, ◌<◌, ◌≤◌, ◌^◌, ◌==◌, ℕ, Some, length, refl, sym, ap, subst, ◌∙◌, arith}
use Rattle.std.proofs.lemmas.Bool.{and_parts, both_ways, eq-eqb}
use Rattle.rack.specs.Seen.{Rose}
use Rattle.growth_laws.proofs.Reached.{some_extent}
use Rattle.growth_laws.specs.NewDrives.{MayAppend, TakesIn}
use Rattle.pool_format.proofs.Units.{units_room, units_small}
use Rattle.pool_state.specs.declared.contents.State.{State}
use Rattle.pool_state.specs.declared.contents.Plan.TheVariants.{Add}
use Rattle.raid_laws.specs.Moves.{RaisesBy}
use Rattle.slice_rack.specs.Sliced.{slices_of}
use Rattle.raid_laws.specs.NewDrive.{SeatsDrive, joins}
use Rattle.raid_rack.specs.declared.arrays.RaidRack.{RaidRack}
use Rattle.raid_rack.specs.declared.enlisting.EnlistFault.{EnlistFault}
use Rattle.raid_rack.specs.declared.enlisting.EnlistFault.TheVariants.{Gone as OfGone, NotWhole as OfNotWhole}
use Rattle.raid_rack.specs.RaidRack.{IsFit, arrays_in, arrays_of as arrays_by_number, raid_in, refused_in, slices_in, slices_seen}
use Rattle.shr_base.specs.Units.{units_of}
use Rattle.slice_rack.specs.SliceRack.{below_of, tables}
use Rattle.slice_rack.specs.Slices.{seat_of}
use Rattle.pool.specs.Adding.{AddsBy}
use Rattle.pool.specs.declared.replacing.GrowFault.TheVariants.{Gone}
use Rattle.pool.specs.View.{bay_in, book, view}
use Rattle.pool.proofs.Added.{adds_gone, adds_ok, disk_free, only_at}
use Rattle.pool.proofs.Adds.{has_units, listed, may_add}
use Rattle.pool.proofs.Shown.{views_are}
use Rattle.pool.proofs.Pool.take_as_new.Goals as goal

pub add_drive-requires-clause-fit : goal.add_drive-requires-clause-fit
add_drive-requires-clause-fit g c = subst (λ r. IsFit (arrays_in r) (slices_seen g.R.Rack.seen r)) (sym c.inner.ensures.value) c.requires.fit.0

pub add_drive-requires-clause-plan : goal.add_drive-requires-clause-plan
add_drive-requires-clause-plan g c =
    let x = view g.R.Rack.seen g.R.Bay.shelf c.args.self.now in
    let may = may_add x.linear (book x) (x.bay.sectors c.args.disk) c.requires.admitted in
    let some = (listed (book x).state may.whole).0 in
    let few = may.plan.few in
    let count = c.len-place.ensures.value in
    let state = ap (λ (s : State). length s.drives.items) c.state.ensures in
    (refl, subst (λ (r : RaidRack _). MayAppend r.arrays.state c.len-place.result) (sym c.inner.ensures.value) (record { next = omega (arith, count, state); some = omega (arith, count, state, some); few = omega (arith, count, state, few) }))

pub add_drive-requires-clause-serial : goal.add_drive-requires-clause-serial
add_drive-requires-clause-serial g c =
    let x = view g.R.Rack.seen g.R.Bay.shelf c.args.self.now in
    let may = may_add x.linear (book x) (x.bay.sectors c.args.disk) c.requires.admitted in
    let low : (book x).state.serial < 2 ^ 32 = subst (λ n. n < 2 ^ 32) c.serial.ensures c.serial.type_inv in
    let other : (book x).state.serial ≢ 4294967295 = λ last. both_ways ((book x).state.serial == 4294967295) may.plan.serial (eq-eqb (book x).state.serial 4294967295 last) in
    subst (λ (r : RaidRack _). r.arrays.state.serial < 4294967295) (sym c.inner.ensures.value) (omega (arith, low, other))

pub add_drive-requires-clause-units : goal.add_drive-requires-clause-units
add_drive-requires-clause-units g c =
    let x = view g.R.Rack.seen g.R.Bay.shelf c.args.self.now in
    let may = may_add x.linear (book x) (x.bay.sectors c.args.disk) c.requires.admitted in
    let some = (listed (book x).state may.whole).0 in
    subst (λ n. 0 < n) (sym (c.units-units.ensures ∙ ap (λ (k : State). units_of c.sectors-sectors.result k.extent) c.state-2.ensures
    ∙ ap (λ n. units_of n (book x).state.extent)
    (c.sectors-sectors.ensures.number ∙ ap (λ r. (g.R.Rack.seen r).sectors c.args.disk) (c.below-3.ensures ∙ ap below_of (c.below-2.ensures ∙ ap slices_in c.below.ensures))))) (has_units (book x).state (units_of (x.bay.sectors c.args.disk) (book x).state.extent) (c.requires.fit.0.running.set.valid 0 some) some may.plan)

pub add_drive-requires-clause-units_end : goal.add_drive-requires-clause-units_end
add_drive-requires-clause-units_end g c =
    let x = view g.R.Rack.seen g.R.Bay.shelf c.args.self.now in
    let may = may_add x.linear (book x) (x.bay.sectors c.args.disk) c.requires.admitted in
    let valid = c.requires.fit.0.running.set.valid 0 (listed (book x).state may.whole).0 in
    subst (λ n. n < 2 ^ 41) (sym (c.units-units.ensures ∙ ap (λ (k : State). units_of c.sectors-sectors.result k.extent) c.state-2.ensures
    ∙ ap (λ n. units_of n (book x).state.extent)
    (c.sectors-sectors.ensures.number ∙ ap (λ r. (g.R.Rack.seen r).sectors c.args.disk) (c.below-3.ensures ∙ ap below_of (c.below-2.ensures ∙ ap slices_in c.below.ensures)))))
    (units_small (x.bay.sectors c.args.disk) (book x).state.extent (and_parts _ _ valid).0 (g.met.R.Bay.bounded (bay_in c.args.self.now) c.args.disk c.requires.disk))

pub add_drive-requires-clause-disk : goal.add_drive-requires-clause-disk
add_drive-requires-clause-disk g c = subst (λ r. c.args.disk < (g.R.Rack.seen (below_of (slices_in r))).disks) (sym c.inner.ensures.value) c.requires.disk

pub add_drive-requires-clause-free : goal.add_drive-requires-clause-free
add_drive-requires-clause-free g c =
    let x = view g.R.Rack.seen g.R.Bay.shelf c.args.self.now in
    let may = may_add x.linear (book x) (x.bay.sectors c.args.disk) c.requires.admitted in
    subst (λ r. (p : ℕ) → seat_of (tables (slices_in r)) p ≢ Some c.args.disk) (sym c.inner.ensures.value) (disk_free x c.args.disk may.whole c.requires.other)

pub add_drive-requires-clause-room : goal.add_drive-requires-clause-room
add_drive-requires-clause-room g c =
    let x = view g.R.Rack.seen g.R.Bay.shelf c.args.self.now in
    let may = may_add x.linear (book x) (x.bay.sectors c.args.disk) c.requires.admitted in
    let some = has_units (book x).state (units_of (x.bay.sectors c.args.disk) (book x).state.extent) (c.requires.fit.0.running.set.valid 0 (listed (book x).state may.whole).0) (listed (book x).state may.whole).0 may.plan in
    let room = units_room (x.bay.sectors c.args.disk) (book x).state.extent some in
    subst (λ r. 10273 ≤ (g.R.Rack.seen (below_of (slices_in r))).sectors c.args.disk) (sym c.inner.ensures.value) (omega (arith, room))

pub returns-in-Ok-clause-adds : goal.returns-in-Ok-clause-adds
returns-in-Ok-clause-adds g c =
    let seen = g.R.Rack.seen in
    let shelf = g.R.Bay.shelf in
    let p = c.args.self.now in
    let x = view seen shelf p in
    let new = c.add_drive.new.self in
    let last = below_of (slices_in new) in
    let own = c.in-Ok.ensures in
    let reached = c.inner.ensures.value in
    let place = c.len-place.result in
    let refused : refused_in new ≡ x.refused = λ i n. (own.refused n ∙ ap (λ r. refused_in r n) reached) i in
    let views = sym (views_are x.arrays c.requires.fit.0.running.count) in
    let units : c.units-units.result ≡ units_of (x.bay.sectors c.args.disk) (book x).state.extent = (c.units-units.ensures ∙ ap (λ (k : State). units_of c.sectors-sectors.result k.extent) c.state-2.ensures
    ∙ ap (λ n. units_of n (book x).state.extent)
    (c.sectors-sectors.ensures.number ∙ ap (λ r. (g.R.Rack.seen r).sectors c.args.disk) (c.below-3.ensures ∙ ap below_of (c.below-2.ensures ∙ ap slices_in c.below.ensures)))) in
    let takes = subst (λ vs. TakesIn place c.units-units.result (Add place) (joins vs place (x.bay.sectors c.args.disk)) (book x) (raid_in new) (slices_of (tables (slices_in new)) x.bay) (slices_seen seen new)) views
    (subst (λ r. TakesIn place c.units-units.result (Add place) (joins (arrays_by_number r) place ((seen (below_of (slices_in r))).sectors c.args.disk)) (raid_in r) (raid_in new)
    (slices_of (tables (slices_in new)) (seen (below_of (slices_in r)))) (slices_seen seen new)) reached own.takes) in
    let seats = subst (λ vs. SeatsDrive vs place c.args.disk (x.bay.sectors c.args.disk) x.slices (tables (slices_in new))) views
    (subst (λ r. SeatsDrive (arrays_by_number r) place c.args.disk ((seen (below_of (slices_in r))).sectors c.args.disk) (tables (slices_in r)) (tables (slices_in new))) reached own.seats) in
    subst (λ f. AddsBy x (record { bays = x.bays; bay = seen last; shelf = shelf last; slices = tables (slices_in new); arrays = arrays_in new; refused = f; linear = x.linear }) c.args.disk (Ok tt))
    (sym refused)
    (adds_ok x (seen last) (shelf last) (tables (slices_in new)) (arrays_in new) c.args.disk _ c.requires.fit
    (only_at seen reached own.only)
    (g.met.R.Bay.runs_shelf (bay_in p) last (subst (λ r. g.R.Rack.runs (below_of (slices_in r)) last) reached own.runs))
    (slices_in new).orderly own.fit c.units-units.result units place (c.len-place.ensures.value ∙ ap (λ (s : State). length s.drives.items) c.state.ensures) c.requires.admitted
    (subst (λ r. RaisesBy 36 (raid_in r) (raid_in new)) reached own.raises) takes seats c.requires.disk)

pub returns-in-Err-clause-adds : goal.returns-in-Err-clause-adds
returns-in-Err-clause-adds g c =
    let seen = g.R.Rack.seen in
    let shelf = g.R.Bay.shelf in
    let p = c.args.self.now in
    let x = view seen shelf p in
    let new = c.add_drive.new.self in
    let last = below_of (slices_in new) in
    let own = c.in-Err.ensures in
    let reached = c.inner.ensures.value in
    let refused : refused_in new ≡ x.refused = λ i n. (own.refused n ∙ ap (λ r. refused_in r n) reached) i in
    let is = is_gone c.in-Err.field-0 (λ lost. own.whole lost refl) in
    subst (λ f. AddsBy x (record { bays = x.bays; bay = seen last; shelf = shelf last; slices = tables (slices_in new); arrays = arrays_in new; refused = f; linear = x.linear }) c.args.disk (Err Gone))
    (sym refused)
    (adds_gone x (seen last) (shelf last) (tables (slices_in new)) (arrays_in new) c.args.disk _ c.requires.fit
    (only_at seen reached own.only)
    (g.met.R.Bay.runs_shelf (bay_in p) last (subst (λ r. g.R.Rack.runs (below_of (slices_in r)) last) reached own.runs))
    (slices_in new).orderly own.fit c.requires.admitted (own.kept is ∙ ap arrays_in reached) (own.tables ∙ ap (λ r. tables (slices_in r)) reached)
    (subst (λ r. Rose ((seen (below_of (slices_in r))).faults c.args.disk) ((seen last).faults c.args.disk)) reached (own.gone is).gone)
    (subst (λ r. RaisesBy 36 (raid_in r) (raid_in new)) reached own.raises))
  where
    is_gone : (e : EnlistFault) → (◌≡◌ {A = Result (Unit {0}) EnlistFault} (Err e) (Err OfNotWhole) → ⊥) → ◌≡◌ {A = Result (Unit {0}) EnlistFault} (Err e) (Err OfGone)
    is_gone OfGone other = refl
    is_gone OfNotWhole other = absurd (other refl)

pub units-units-requires : goal.units-units-requires
units-units-requires g c =
    let x = view g.R.Rack.seen g.R.Bay.shelf c.args.self.now in
    let may = may_add x.linear (book x) (x.bay.sectors c.args.disk) c.requires.admitted in
    subst (λ (k : State). 0 < k.extent) (sym c.state-2.ensures) (some_extent (book x).state 0 (c.requires.fit.0.running.set.valid 0 (listed (book x).state may.whole).0))
