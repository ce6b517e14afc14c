use Rattle.std.specs.Prelude.{Err}
use Rattle.std.proofs.Common.{◌≡◌, ◌<◌, ◌^◌, sym, ap, subst, ◌∙◌, arith}
use Rattle.std.proofs.lemmas.Bool.{and_parts}
use Rattle.lvm_group.specs.Volume.{linear}
use Rattle.pool_format.proofs.Units.{units_small}
use Rattle.pool_state.specs.declared.contents.State.{State}
use Rattle.raid_rack.specs.declared.arrays.RaidRack.{RaidRack}
use Rattle.raid_rack.specs.RaidRack.{IsFit, arrays_in, slices_in, slices_seen}
use Rattle.shr_base.specs.Units.{units_of}
use Rattle.slice_rack.specs.SliceRack.{below_of}
use Rattle.pool.specs.declared.Pool.{Pool}
use Rattle.pool.specs.View.{bay_in, book, view}
use Rattle.pool.proofs.GrownPools.{keeps_gone, keeps_lost, keeps_tables, may_begin, reached, says_gone, says_lost, says_taken, unseated}
use Rattle.pool.proofs.Pool.take_larger.Goals as goal

pub add_drive-requires-clause-fit : goal.add_drive-requires-clause-fit
add_drive-requires-clause-fit g c = subst (λ r. IsFit (arrays_in r) (slices_seen g.R.Rack.seen r)) (sym c.inner.ensures.value) c.give_up.ensures.fit

pub add_drive-requires-clause-plan : goal.add_drive-requires-clause-plan
add_drive-requires-clause-plan g c =
    let seen = g.R.Rack.seen in
    let shelf = g.R.Bay.shelf in
    let p = c.args.self.now in
    let q = c.give_up.new.self in
    let x = view seen shelf p in
    let units : c.units-units.result ≡ units_of (x.bay.sectors c.args.disk) (book x).state.extent =
    c.units-units.ensures ∙ ap (λ (k : State). units_of c.sectors-sectors.result k.extent) (c.state.ensures ∙ ap (λ (r : RaidRack _). r.arrays.state) c.give_up.ensures.rest)
    ∙ ap (λ n. units_of n (book x).state.extent)
    (c.sectors-sectors.ensures.number ∙ ap (λ r. (seen r).sectors c.args.disk) (c.below-3.ensures ∙ ap below_of (c.below-2.ensures ∙ ap slices_in c.below.ensures) ∙ c.give_up.ensures.bay)) in
    may_begin seen shelf p q c.inner.result.now c.args.place c.args.disk c.inner.ensures.value c.give_up.ensures.rest c.give_up.ensures.bay
    c.units-units.result units c.requires.fit c.requires.listed c.requires.whole c.requires.reaches

pub add_drive-requires-clause-units_end : goal.add_drive-requires-clause-units_end
add_drive-requires-clause-units_end g c =
    let seen = g.R.Rack.seen in
    let shelf = g.R.Bay.shelf in
    let p = c.args.self.now in
    let q = c.give_up.new.self in
    let x = view seen shelf p in
    let units : c.units-units.result ≡ units_of (x.bay.sectors c.args.disk) (book x).state.extent =
    c.units-units.ensures ∙ ap (λ (k : State). units_of c.sectors-sectors.result k.extent) (c.state.ensures ∙ ap (λ (r : RaidRack _). r.arrays.state) c.give_up.ensures.rest)
    ∙ ap (λ n. units_of n (book x).state.extent)
    (c.sectors-sectors.ensures.number ∙ ap (λ r. (seen r).sectors c.args.disk) (c.below-3.ensures ∙ ap below_of (c.below-2.ensures ∙ ap slices_in c.below.ensures) ∙ c.give_up.ensures.bay)) in
    let listed = c.requires.listed in
    let valid = c.requires.fit.0.running.set.valid 0 (omega (arith, listed)) in
    subst (λ n. n < 2 ^ 41) (sym units) (units_small (x.bay.sectors c.args.disk) (book x).state.extent (and_parts _ _ valid).0 (g.met.R.Bay.bounded (bay_in p) c.args.disk c.requires.disk))

pub add_drive-requires-clause-free : goal.add_drive-requires-clause-free
add_drive-requires-clause-free g c =
    let seen = g.R.Rack.seen in
    let shelf = g.R.Bay.shelf in
    let p = c.args.self.now in
    let q = c.give_up.new.self in
    let x = view seen shelf p in
    unseated seen shelf p q c.inner.result.now c.args.place c.args.disk c.inner.ensures.value c.give_up.ensures.rest c.give_up.ensures.bay c.give_up.ensures.tables c.requires.whole c.requires.other

pub returns-in-Ok-clause-enlarges : goal.returns-in-Ok-clause-enlarges
returns-in-Ok-clause-enlarges g c =
    let seen = g.R.Rack.seen in
    let shelf = g.R.Bay.shelf in
    let p = c.args.self.now in
    let q = c.give_up.new.self in
    let x = view seen shelf p in
    let units : c.units-units.result ≡ units_of (x.bay.sectors c.args.disk) (book x).state.extent =
    c.units-units.ensures ∙ ap (λ (k : State). units_of c.sectors-sectors.result k.extent) (c.state.ensures ∙ ap (λ (r : RaidRack _). r.arrays.state) c.give_up.ensures.rest)
    ∙ ap (λ n. units_of n (book x).state.extent)
    (c.sectors-sectors.ensures.number ∙ ap (λ r. (seen r).sectors c.args.disk) (c.below-3.ensures ∙ ap below_of (c.below-2.ensures ∙ ap slices_in c.below.ensures) ∙ c.give_up.ensures.bay)) in
    let new = c.add_drive.new.self in
    let last = below_of (slices_in new) in
    let own = c.add_drive.ensures in
    let there = reached seen shelf p q c.inner.result.now c.args.place c.args.disk c.inner.ensures.value c.give_up.ensures.rest c.give_up.ensures.bay in
    let names = g.met.R.Bay.runs_shelf (bay_in p) last (subst (λ r. g.R.Rack.runs (below_of (slices_in r)) last) there own.runs) in
    says_taken seen shelf p q c.inner.result.now c.args.place c.args.disk c.inner.ensures.value c.give_up.ensures.rest c.give_up.ensures.bay
    new c.units-units.result units c.requires.fit c.requires.disk c.requires.listed (ap (λ (r : Pool _). linear r.volume) c.give_up.ensures.volume) own.refused
    c.give_up.ensures.tables c.give_up.ensures.fit
    (record { fit = g.met.R.Bay.always_fit last; lasting = g.met.R.Bay.lasting last; unspent = g.met.R.Bay.unspent last; small = g.met.R.Bay.bounded last; numbered = g.met.R.Bay.numbered last })
    names _ own.only own.fit c.in-Ok.ensures.takes c.in-Ok.ensures.seats

pub returns-in-Err-Gone-clause-enlarges : goal.returns-in-Err-Gone-clause-enlarges
returns-in-Err-Gone-clause-enlarges g c =
    let seen = g.R.Rack.seen in
    let shelf = g.R.Bay.shelf in
    let p = c.args.self.now in
    let q = c.give_up.new.self in
    let x = view seen shelf p in
    let units : c.units-units.result ≡ units_of (x.bay.sectors c.args.disk) (book x).state.extent =
    c.units-units.ensures ∙ ap (λ (k : State). units_of c.sectors-sectors.result k.extent) (c.state.ensures ∙ ap (λ (r : RaidRack _). r.arrays.state) c.give_up.ensures.rest)
    ∙ ap (λ n. units_of n (book x).state.extent)
    (c.sectors-sectors.ensures.number ∙ ap (λ r. (seen r).sectors c.args.disk) (c.below-3.ensures ∙ ap below_of (c.below-2.ensures ∙ ap slices_in c.below.ensures) ∙ c.give_up.ensures.bay)) in
    let new = c.add_drive.new.self in
    let last = below_of (slices_in new) in
    let own = c.add_drive.ensures in
    let there = reached seen shelf p q c.inner.result.now c.args.place c.args.disk c.inner.ensures.value c.give_up.ensures.rest c.give_up.ensures.bay in
    let names = g.met.R.Bay.runs_shelf (bay_in p) last (subst (λ r. g.R.Rack.runs (below_of (slices_in r)) last) there own.runs) in
    says_gone seen shelf p q c.inner.result.now c.args.place c.args.disk c.inner.ensures.value c.give_up.ensures.rest c.give_up.ensures.bay
    new c.units-units.result units c.requires.fit c.requires.disk c.requires.listed (ap (λ (r : Pool _). linear r.volume) c.give_up.ensures.volume) own.refused
    c.give_up.ensures.tables c.give_up.ensures.fit
    (record { fit = g.met.R.Bay.always_fit last; lasting = g.met.R.Bay.lasting last; unspent = g.met.R.Bay.unspent last; small = g.met.R.Bay.bounded last; numbered = g.met.R.Bay.numbered last })
    names _ own.only own.fit c.in-Err-Gone.ensures.tables (c.in-Err-Gone.ensures.kept (ap Err c.in-Err-Gone.field-0-is)) (c.in-Err-Gone.ensures.gone (ap Err c.in-Err-Gone.field-0-is)).gone

pub returns-in-Err-NotWhole-clause-enlarges : goal.returns-in-Err-NotWhole-clause-enlarges
returns-in-Err-NotWhole-clause-enlarges g c =
    let seen = g.R.Rack.seen in
    let shelf = g.R.Bay.shelf in
    let p = c.args.self.now in
    let q = c.give_up.new.self in
    let x = view seen shelf p in
    let units : c.units-units.result ≡ units_of (x.bay.sectors c.args.disk) (book x).state.extent =
    c.units-units.ensures ∙ ap (λ (k : State). units_of c.sectors-sectors.result k.extent) (c.state.ensures ∙ ap (λ (r : RaidRack _). r.arrays.state) c.give_up.ensures.rest)
    ∙ ap (λ n. units_of n (book x).state.extent)
    (c.sectors-sectors.ensures.number ∙ ap (λ r. (seen r).sectors c.args.disk) (c.below-3.ensures ∙ ap below_of (c.below-2.ensures ∙ ap slices_in c.below.ensures) ∙ c.give_up.ensures.bay)) in
    let new = c.add_drive.new.self in
    let last = below_of (slices_in new) in
    let own = c.add_drive.ensures in
    let there = reached seen shelf p q c.inner.result.now c.args.place c.args.disk c.inner.ensures.value c.give_up.ensures.rest c.give_up.ensures.bay in
    let names = g.met.R.Bay.runs_shelf (bay_in p) last (subst (λ r. g.R.Rack.runs (below_of (slices_in r)) last) there own.runs) in
    says_lost seen shelf p q c.inner.result.now c.args.place c.args.disk c.inner.ensures.value c.give_up.ensures.rest c.give_up.ensures.bay
    new c.units-units.result units c.requires.fit c.requires.disk c.requires.listed (ap (λ (r : Pool _). linear r.volume) c.give_up.ensures.volume) own.refused
    c.give_up.ensures.tables c.give_up.ensures.fit
    (record { fit = g.met.R.Bay.always_fit last; lasting = g.met.R.Bay.lasting last; unspent = g.met.R.Bay.unspent last; small = g.met.R.Bay.bounded last; numbered = g.met.R.Bay.numbered last })
    names _ own.only own.fit c.in-Err-NotWhole.ensures.tables (c.in-Err-NotWhole.ensures.lost (ap Err c.in-Err-NotWhole.field-0-is))

pub returns-in-Err-Gone-clause-loses : goal.returns-in-Err-Gone-clause-loses
returns-in-Err-Gone-clause-loses g c =
    let seen = g.R.Rack.seen in
    let shelf = g.R.Bay.shelf in
    let p = c.args.self.now in
    let q = c.give_up.new.self in
    let x = view seen shelf p in
    let units : c.units-units.result ≡ units_of (x.bay.sectors c.args.disk) (book x).state.extent =
    c.units-units.ensures ∙ ap (λ (k : State). units_of c.sectors-sectors.result k.extent) (c.state.ensures ∙ ap (λ (r : RaidRack _). r.arrays.state) c.give_up.ensures.rest)
    ∙ ap (λ n. units_of n (book x).state.extent)
    (c.sectors-sectors.ensures.number ∙ ap (λ r. (seen r).sectors c.args.disk) (c.below-3.ensures ∙ ap below_of (c.below-2.ensures ∙ ap slices_in c.below.ensures) ∙ c.give_up.ensures.bay)) in
    let new = c.add_drive.new.self in
    let last = below_of (slices_in new) in
    let own = c.add_drive.ensures in
    let there = reached seen shelf p q c.inner.result.now c.args.place c.args.disk c.inner.ensures.value c.give_up.ensures.rest c.give_up.ensures.bay in
    let names = g.met.R.Bay.runs_shelf (bay_in p) last (subst (λ r. g.R.Rack.runs (below_of (slices_in r)) last) there own.runs) in
    keeps_gone seen shelf p q c.inner.result.now c.args.place c.args.disk c.inner.ensures.value c.give_up.ensures.rest c.give_up.ensures.bay
    new c.units-units.result units c.requires.fit c.requires.disk c.requires.listed (ap (λ (r : Pool _). linear r.volume) c.give_up.ensures.volume) own.refused
    c.give_up.ensures.tables c.give_up.ensures.fit
    (record { fit = g.met.R.Bay.always_fit last; lasting = g.met.R.Bay.lasting last; unspent = g.met.R.Bay.unspent last; small = g.met.R.Bay.bounded last; numbered = g.met.R.Bay.numbered last })
    names _ own.only own.fit (c.in-Err-Gone.ensures.kept (ap Err c.in-Err-Gone.field-0-is))

pub returns-in-Err-NotWhole-clause-loses : goal.returns-in-Err-NotWhole-clause-loses
returns-in-Err-NotWhole-clause-loses g c =
    let seen = g.R.Rack.seen in
    let shelf = g.R.Bay.shelf in
    let p = c.args.self.now in
    let q = c.give_up.new.self in
    let x = view seen shelf p in
    let units : c.units-units.result ≡ units_of (x.bay.sectors c.args.disk) (book x).state.extent =
    c.units-units.ensures ∙ ap (λ (k : State). units_of c.sectors-sectors.result k.extent) (c.state.ensures ∙ ap (λ (r : RaidRack _). r.arrays.state) c.give_up.ensures.rest)
    ∙ ap (λ n. units_of n (book x).state.extent)
    (c.sectors-sectors.ensures.number ∙ ap (λ r. (seen r).sectors c.args.disk) (c.below-3.ensures ∙ ap below_of (c.below-2.ensures ∙ ap slices_in c.below.ensures) ∙ c.give_up.ensures.bay)) in
    let new = c.add_drive.new.self in
    let last = below_of (slices_in new) in
    let own = c.add_drive.ensures in
    let there = reached seen shelf p q c.inner.result.now c.args.place c.args.disk c.inner.ensures.value c.give_up.ensures.rest c.give_up.ensures.bay in
    let names = g.met.R.Bay.runs_shelf (bay_in p) last (subst (λ r. g.R.Rack.runs (below_of (slices_in r)) last) there own.runs) in
    keeps_lost seen shelf p q c.inner.result.now c.args.place c.args.disk c.inner.ensures.value c.give_up.ensures.rest c.give_up.ensures.bay
    new c.units-units.result units c.requires.fit c.requires.disk c.requires.listed (ap (λ (r : Pool _). linear r.volume) c.give_up.ensures.volume) own.refused
    c.give_up.ensures.tables c.give_up.ensures.fit
    (record { fit = g.met.R.Bay.always_fit last; lasting = g.met.R.Bay.lasting last; unspent = g.met.R.Bay.unspent last; small = g.met.R.Bay.bounded last; numbered = g.met.R.Bay.numbered last })
    names _ own.only own.fit c.in-Err-NotWhole.ensures.tables (c.in-Err-NotWhole.ensures.lost (ap Err c.in-Err-NotWhole.field-0-is))

pub returns-in-Err-Gone-clause-kept : goal.returns-in-Err-Gone-clause-kept
returns-in-Err-Gone-clause-kept g c was =
    let seen = g.R.Rack.seen in
    let shelf = g.R.Bay.shelf in
    let p = c.args.self.now in
    let q = c.give_up.new.self in
    let x = view seen shelf p in
    let units : c.units-units.result ≡ units_of (x.bay.sectors c.args.disk) (book x).state.extent =
    c.units-units.ensures ∙ ap (λ (k : State). units_of c.sectors-sectors.result k.extent) (c.state.ensures ∙ ap (λ (r : RaidRack _). r.arrays.state) c.give_up.ensures.rest)
    ∙ ap (λ n. units_of n (book x).state.extent)
    (c.sectors-sectors.ensures.number ∙ ap (λ r. (seen r).sectors c.args.disk) (c.below-3.ensures ∙ ap below_of (c.below-2.ensures ∙ ap slices_in c.below.ensures) ∙ c.give_up.ensures.bay)) in
    let new = c.add_drive.new.self in
    let last = below_of (slices_in new) in
    let own = c.add_drive.ensures in
    let there = reached seen shelf p q c.inner.result.now c.args.place c.args.disk c.inner.ensures.value c.give_up.ensures.rest c.give_up.ensures.bay in
    let names = g.met.R.Bay.runs_shelf (bay_in p) last (subst (λ r. g.R.Rack.runs (below_of (slices_in r)) last) there own.runs) in
    keeps_tables seen shelf p q c.inner.result.now c.args.place c.args.disk c.inner.ensures.value c.give_up.ensures.rest c.give_up.ensures.bay
    new c.units-units.result units c.requires.fit c.requires.disk c.requires.listed (ap (λ (r : Pool _). linear r.volume) c.give_up.ensures.volume) own.refused
    c.give_up.ensures.tables c.give_up.ensures.fit
    (record { fit = g.met.R.Bay.always_fit last; lasting = g.met.R.Bay.lasting last; unspent = g.met.R.Bay.unspent last; small = g.met.R.Bay.bounded last; numbered = g.met.R.Bay.numbered last })
    names _ own.only own.fit c.in-Err-Gone.ensures.tables was

pub returns-in-Err-NotWhole-clause-kept : goal.returns-in-Err-NotWhole-clause-kept
returns-in-Err-NotWhole-clause-kept g c was =
    let seen = g.R.Rack.seen in
    let shelf = g.R.Bay.shelf in
    let p = c.args.self.now in
    let q = c.give_up.new.self in
    let x = view seen shelf p in
    let units : c.units-units.result ≡ units_of (x.bay.sectors c.args.disk) (book x).state.extent =
    c.units-units.ensures ∙ ap (λ (k : State). units_of c.sectors-sectors.result k.extent) (c.state.ensures ∙ ap (λ (r : RaidRack _). r.arrays.state) c.give_up.ensures.rest)
    ∙ ap (λ n. units_of n (book x).state.extent)
    (c.sectors-sectors.ensures.number ∙ ap (λ r. (seen r).sectors c.args.disk) (c.below-3.ensures ∙ ap below_of (c.below-2.ensures ∙ ap slices_in c.below.ensures) ∙ c.give_up.ensures.bay)) in
    let new = c.add_drive.new.self in
    let last = below_of (slices_in new) in
    let own = c.add_drive.ensures in
    let there = reached seen shelf p q c.inner.result.now c.args.place c.args.disk c.inner.ensures.value c.give_up.ensures.rest c.give_up.ensures.bay in
    let names = g.met.R.Bay.runs_shelf (bay_in p) last (subst (λ r. g.R.Rack.runs (below_of (slices_in r)) last) there own.runs) in
    keeps_tables seen shelf p q c.inner.result.now c.args.place c.args.disk c.inner.ensures.value c.give_up.ensures.rest c.give_up.ensures.bay
    new c.units-units.result units c.requires.fit c.requires.disk c.requires.listed (ap (λ (r : Pool _). linear r.volume) c.give_up.ensures.volume) own.refused
    c.give_up.ensures.tables c.give_up.ensures.fit
    (record { fit = g.met.R.Bay.always_fit last; lasting = g.met.R.Bay.lasting last; unspent = g.met.R.Bay.unspent last; small = g.met.R.Bay.bounded last; numbered = g.met.R.Bay.numbered last })
    names _ own.only own.fit c.in-Err-NotWhole.ensures.tables was
