use Rattle.std.proofs.Common.{◌⊎◌, refl, sym, ap, subst, arith}
use Rattle.std.specs.Prelude.{is_ok}
use Rattle.slice_rack.specs.SliceRack.{below_of, tables}
use Rattle.growth_laws.specs.Growing.{Lacks}
use Rattle.raid_rack.specs.Growing.{CannotLay}
use Rattle.raid_rack.specs.Growing.{CannotMake}
use Rattle.pool_state.specs.declared.contents.Work.TheVariants.{Resync, Rebuild, TakeOver, Begin, Reshape, Finish, Make, Zero, Ready, Close}
use Rattle.raid_rack.specs.RaidRack.{IsFit, arrays_in, raid_in, slices_in, slices_seen}
use Rattle.pool.proofs.Grows.{ready_grows}
use Rattle.pool.proofs.Trying.{growth_from, row_from, seats_on, goes_on}
use Rattle.pool.proofs.Pool.try_work.Goals as goal

pub work-requires : goal.work-requires
work-requires g c = record { fit = subst (λ r. IsFit (arrays_in r) (slices_seen g.R.Rack.seen r)) (sym c.inner.ensures.value) c.requires.fit.0 }

pub work-requires-in-Rebuild : goal.work-requires-in-Rebuild
work-requires-in-Rebuild g c = record { fit = subst (λ r. IsFit (arrays_in r) (slices_seen g.R.Rack.seen r)) (sym c.inner-in-Rebuild.ensures.value) c.requires.fit.0 }

pub work-requires-in-Close : goal.work-requires-in-Close
work-requires-in-Close g c = record { fit = subst (λ r. IsFit (arrays_in r) (slices_seen g.R.Rack.seen r)) (sym c.inner-in-Close.ensures.value) c.requires.fit.0 }

pub returns-in-Resync-clause-tries : goal.returns-in-Resync-clause-tries
returns-in-Resync-clause-tries g c =
    let own = c.work.ensures in
    row_from g.R.Rack.seen g.R.Bay.shelf g.R.Rack.runs g.met.R.Bay.runs_shelf c.args.self.now c.inner.result.now c.work.new.self c.args.work.now (Resync c.in-Resync.array) c.in-Resync.is
    c.inner.ensures.value c.requires.fit c.work.result refl
    (record { says = record { idle = own.idle; does = own.does; named = own.named }; keeps = own.keeps; ran = own.runs; book = own.book; raises = own.raises })
    (λ w array named why. (named, why))

pub returns-in-Rebuild-clause-tries : goal.returns-in-Rebuild-clause-tries
returns-in-Rebuild-clause-tries g c =
    let own = c.work-in-Rebuild.ensures in
    row_from g.R.Rack.seen g.R.Bay.shelf g.R.Rack.runs g.met.R.Bay.runs_shelf c.args.self.now c.inner-in-Rebuild.result.now c.work-in-Rebuild.new.self c.args.work.now (Rebuild c.in-Rebuild.array c.in-Rebuild.place) c.in-Rebuild.is
    c.inner-in-Rebuild.ensures.value c.requires.fit c.work-in-Rebuild.result refl
    (record { says = record { idle = own.idle; does = own.does; named = own.named }; keeps = own.keeps; ran = own.runs; book = own.book; raises = own.raises })
    (λ w array named why. (named, why))

pub returns-in-Close-clause-tries : goal.returns-in-Close-clause-tries
returns-in-Close-clause-tries g c =
    let own = c.work-in-Close.ensures in
    row_from g.R.Rack.seen g.R.Bay.shelf g.R.Rack.runs g.met.R.Bay.runs_shelf c.args.self.now c.inner-in-Close.result.now c.work-in-Close.new.self c.args.work.now Close c.in-Close.is
    c.inner-in-Close.ensures.value c.requires.fit c.work-in-Close.result refl
    (record { says = record { idle = own.idle; does = own.does; named = own.named }; keeps = own.keeps; ran = own.runs; book = own.book; raises = own.raises })
    (λ w array named why. (named, why))

pub take_over-requires : goal.take_over-requires
take_over-requires g c = record { fit = subst (λ r. IsFit (arrays_in r) (slices_seen g.R.Rack.seen r)) (sym c.inner-in-TakeOver.ensures.value) c.requires.fit.0 }

pub reshape-requires : goal.reshape-requires
reshape-requires g c = record { fit = subst (λ r. IsFit (arrays_in r) (slices_seen g.R.Rack.seen r)) (sym c.inner-in-Reshape.ensures.value) c.requires.fit.0 }

pub finish-requires : goal.finish-requires
finish-requires g c = record { fit = subst (λ r. IsFit (arrays_in r) (slices_seen g.R.Rack.seen r)) (sym c.inner-in-Finish.ensures.value) c.requires.fit.0 }

pub zero-requires : goal.zero-requires
zero-requires g c = record { fit = subst (λ r. IsFit (arrays_in r) (slices_seen g.R.Rack.seen r)) (sym c.inner-in-Zero.ensures.value) c.requires.fit.0 }

pub ready-requires : goal.ready-requires
ready-requires g c = record { fit = subst (λ r. IsFit (arrays_in r) (slices_seen g.R.Rack.seen r)) (sym c.inner-in-Ready.ensures.value) c.requires.fit.0 }

pub begin-requires : goal.begin-requires
begin-requires g c = record { fit = subst (λ r. IsFit (arrays_in r) (slices_seen g.R.Rack.seen r)) (sym c.inner-in-Begin.ensures.value) c.requires.fit.0 }

pub returns-in-TakeOver-clause-tries : goal.returns-in-TakeOver-clause-tries
returns-in-TakeOver-clause-tries g c =
    let own = c.take_over.ensures in
    let fit = subst (λ r. IsFit (arrays_in r) (slices_seen g.R.Rack.seen r)) (sym c.inner-in-TakeOver.ensures.value) c.requires.fit.0 in
    growth_from g.R.Rack.seen g.R.Bay.shelf g.R.Rack.runs g.met.R.Bay.runs_shelf c.args.self.now c.inner-in-TakeOver.result.now c.take_over.new.self c.args.work.now (TakeOver c.in-TakeOver.array) c.in-TakeOver.is
    c.inner-in-TakeOver.ensures.value c.requires.fit c.take_over.result refl
    (0) (λ o. Lacks (TakeOver c.in-TakeOver.array)) 36 (omega arith) (λ mid w lacks. lacks)
    (record { idle = own.idle; grows = own.grows; named = own.named; fit = own.fit; raises = own.raises; seats = seats_on g.R.Rack.seen g.R.Rack.runs c.inner-in-TakeOver.result.now c.take_over.new.self own.runs; goes = goes_on g.R.Rack.seen g.R.Rack.runs c.inner-in-TakeOver.result.now c.take_over.new.self fit own.runs; ran = own.runs.below })
    (λ w array named why. (named, why))

pub returns-in-Reshape-clause-tries : goal.returns-in-Reshape-clause-tries
returns-in-Reshape-clause-tries g c =
    let own = c.reshape.ensures in
    let fit = subst (λ r. IsFit (arrays_in r) (slices_seen g.R.Rack.seen r)) (sym c.inner-in-Reshape.ensures.value) c.requires.fit.0 in
    growth_from g.R.Rack.seen g.R.Bay.shelf g.R.Rack.runs g.met.R.Bay.runs_shelf c.args.self.now c.inner-in-Reshape.result.now c.reshape.new.self c.args.work.now (Reshape c.in-Reshape.array) c.in-Reshape.is
    c.inner-in-Reshape.ensures.value c.requires.fit c.reshape.result refl
    (0) (λ o. Lacks (Reshape c.in-Reshape.array)) 18 (omega arith) (λ mid w lacks. lacks)
    (record { idle = own.idle; grows = own.grows; named = own.named; fit = own.fit; raises = own.raises; seats = seats_on g.R.Rack.seen g.R.Rack.runs c.inner-in-Reshape.result.now c.reshape.new.self own.runs; goes = goes_on g.R.Rack.seen g.R.Rack.runs c.inner-in-Reshape.result.now c.reshape.new.self fit own.runs; ran = own.runs.below })
    (λ w array named why. (named, why))

pub returns-in-Finish-clause-tries : goal.returns-in-Finish-clause-tries
returns-in-Finish-clause-tries g c =
    let own = c.finish.ensures in
    let fit = subst (λ r. IsFit (arrays_in r) (slices_seen g.R.Rack.seen r)) (sym c.inner-in-Finish.ensures.value) c.requires.fit.0 in
    growth_from g.R.Rack.seen g.R.Bay.shelf g.R.Rack.runs g.met.R.Bay.runs_shelf c.args.self.now c.inner-in-Finish.result.now c.finish.new.self c.args.work.now (Finish c.in-Finish.array) c.in-Finish.is
    c.inner-in-Finish.ensures.value c.requires.fit c.finish.result refl
    (0) (λ o. Lacks (Finish c.in-Finish.array)) 18 (omega arith) (λ mid w lacks. lacks)
    (record { idle = own.idle; grows = own.grows; named = own.named; fit = own.fit; raises = own.raises; seats = seats_on g.R.Rack.seen g.R.Rack.runs c.inner-in-Finish.result.now c.finish.new.self own.runs; goes = goes_on g.R.Rack.seen g.R.Rack.runs c.inner-in-Finish.result.now c.finish.new.self fit own.runs; ran = own.runs.below })
    (λ w array named why. (named, why))

pub returns-in-Zero-clause-tries : goal.returns-in-Zero-clause-tries
returns-in-Zero-clause-tries g c =
    let own = c.zero.ensures in
    let fit = subst (λ r. IsFit (arrays_in r) (slices_seen g.R.Rack.seen r)) (sym c.inner-in-Zero.ensures.value) c.requires.fit.0 in
    growth_from g.R.Rack.seen g.R.Bay.shelf g.R.Rack.runs g.met.R.Bay.runs_shelf c.args.self.now c.inner-in-Zero.result.now c.zero.new.self c.args.work.now (Zero c.in-Zero.array) c.in-Zero.is
    c.inner-in-Zero.ensures.value c.requires.fit c.zero.result refl
    (0) (λ o. Lacks (Zero c.in-Zero.array)) 18 (omega arith) (λ mid w lacks. lacks)
    (record { idle = own.idle; grows = own.grows; named = own.named; fit = own.fit; raises = own.raises; seats = seats_on g.R.Rack.seen g.R.Rack.runs c.inner-in-Zero.result.now c.zero.new.self own.runs; goes = goes_on g.R.Rack.seen g.R.Rack.runs c.inner-in-Zero.result.now c.zero.new.self fit own.runs; ran = own.runs.below })
    (λ w array named why. (named, why))

pub returns-in-Ready-clause-tries : goal.returns-in-Ready-clause-tries
returns-in-Ready-clause-tries g c =
    let own = c.ready.ensures in
    let fit = subst (λ r. IsFit (arrays_in r) (slices_seen g.R.Rack.seen r)) (sym c.inner-in-Ready.ensures.value) c.requires.fit.0 in
    growth_from g.R.Rack.seen g.R.Bay.shelf g.R.Rack.runs g.met.R.Bay.runs_shelf c.args.self.now c.inner-in-Ready.result.now c.ready.new.self c.args.work.now (Ready c.in-Ready.array) c.in-Ready.is
    c.inner-in-Ready.ensures.value c.requires.fit c.ready.result refl
    (0) (λ o. Lacks (Ready c.in-Ready.array)) 18 (omega arith) (λ mid w lacks. lacks)
    (record { idle = own.idle; grows = λ due. ready_grows c.in-Ready.array (raid_in c.inner-in-Ready.result.now) (raid_in c.ready.new.self) (slices_seen g.R.Rack.seen c.inner-in-Ready.result.now) (slices_seen g.R.Rack.seen c.ready.new.self) (is_ok c.ready.result) fit.heeded (λ no. let same = own.stuck (due, no) in (ap raid_in same.0, same.1)) own.grows; named = own.named; fit = own.fit; raises = own.raises; seats = seats_on g.R.Rack.seen g.R.Rack.runs c.inner-in-Ready.result.now c.ready.new.self own.runs; goes = goes_on g.R.Rack.seen g.R.Rack.runs c.inner-in-Ready.result.now c.ready.new.self fit own.runs; ran = own.runs.below })
    (λ w array named why. (named, why))

pub returns-in-Begin-clause-tries : goal.returns-in-Begin-clause-tries
returns-in-Begin-clause-tries g c =
    let own = c.begin.ensures in
    growth_from g.R.Rack.seen g.R.Bay.shelf g.R.Rack.runs g.met.R.Bay.runs_shelf c.args.self.now c.inner-in-Begin.result.now c.begin.new.self c.args.work.now (Begin c.in-Begin.array c.in-Begin.place) c.in-Begin.is
    c.inner-in-Begin.ensures.value c.requires.fit c.begin.result refl
    (0) (λ o mid w. Lacks (Begin c.in-Begin.array c.in-Begin.place) mid w ⊎ CannotLay (tables (slices_in o)) (g.R.Rack.seen (below_of (slices_in o))) mid c.in-Begin.place c.in-Begin.array) 36 (omega arith) (λ mid w lacks. lacks)
    (record { idle = own.idle; grows = own.grows; named = own.named; fit = own.fit; raises = own.raises; seats = own.seats; goes = own.goes; ran = own.runs })
    (λ w array named why. (named, why))

pub make-requires : goal.make-requires
make-requires g c = record { fit = subst (λ r. IsFit (arrays_in r) (slices_seen g.R.Rack.seen r)) (sym c.inner-in-Make.ensures.value) c.requires.fit.0 }

pub returns-in-Make-clause-tries : goal.returns-in-Make-clause-tries
returns-in-Make-clause-tries g c =
    let own = c.make.ensures in
    growth_from g.R.Rack.seen g.R.Bay.shelf g.R.Rack.runs g.met.R.Bay.runs_shelf c.args.self.now c.inner-in-Make.result.now c.make.new.self c.args.work.now (Make c.in-Make.array c.in-Make.height) c.in-Make.is
    c.inner-in-Make.ensures.value c.requires.fit c.make.result refl
    (c.inner-in-Make.result.now.seconds) (λ o mid w. Lacks (Make c.in-Make.array c.in-Make.height) mid w ⊎ CannotMake g.R.Rack.seen g.R.Rack.runs (tables (slices_in o)) (below_of (slices_in o)) mid c.in-Make.height) 330 (omega arith) (λ mid w lacks. lacks)
    (record { idle = own.idle; grows = own.grows; named = own.named; fit = own.fit; raises = own.raises; seats = own.seats; goes = own.goes; ran = own.runs })
    (λ w array named why. (named, why))
