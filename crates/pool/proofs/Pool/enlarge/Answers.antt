use Rattle.std.specs.Prelude.{Ok, Err}
use Rattle.std.proofs.Common.{◌≡◌, ◌<◌, true, sym, subst, ◌∙◌, inl, arith}
use Rattle.raid_rack.proofs.Raises.{raises_then}
use Rattle.raid_rack.specs.RaidRack.{slices_in}
use Rattle.shr_base.specs.Units.{units_of}
use Rattle.pool.specs.Replacing.{reaches_own}
use Rattle.pool.specs.View.{arrays_of, book, slices_shown, view}
use Rattle.pool.specs.declared.replacing.GrowFault.TheVariants.{NotWhole}
use Rattle.pool.proofs.Admitted.{unrefused}
use Rattle.pool.proofs.Enlarged.{grown_then}
use Rattle.pool.proofs.EnlargedDrives.{alone_is, enlarged, lost_then, other_lost}
use Rattle.pool.proofs.Late.{never_fault}
use Rattle.pool.proofs.Planning.{some_units}
use Rattle.pool.proofs.ReachedArrays.{still_reached}
use Rattle.pool.proofs.Readying.{many_same}
use Rattle.pool.proofs.Ways.{free_of, other_later, other_marked}
use Rattle.pool.proofs.Pool.enlarge.Goals as goal

pub take_larger-requires-clause-some : goal.take_larger-requires-clause-some
take_larger-requires-clause-some g c =
    let x = view g.R.Rack.seen g.R.Bay.shelf c.args.self.now in
    let free = unrefused x.linear (book x) c.args.place (x.bay.sectors c.args.disk) c.requires.admitted in
    let listed = c.requires.listed in
    some_units (book x).state c.args.place (units_of (x.bay.sectors c.args.disk) (book x).state.extent) (c.requires.fit.0.running.set.valid 0 (omega (arith, listed))) listed free.units

pub take_larger-requires-clause-reaches : goal.take_larger-requires-clause-reaches
take_larger-requires-clause-reaches g c =
    let x = view g.R.Rack.seen g.R.Bay.shelf c.args.self.now in
    let free = unrefused x.linear (book x) c.args.place (x.bay.sectors c.args.disk) c.requires.admitted in
    free.reaches

pub take_larger-requires-2-clause-serial : goal.take_larger-requires-2-clause-serial
take_larger-requires-2-clause-serial g c =
    let x = view g.R.Rack.seen g.R.Bay.shelf c.args.self.now in
    let free = unrefused x.linear (book x) c.args.place (x.bay.sectors c.args.disk) c.requires.admitted in
    free.serial

pub take_larger-requires-2-clause-some : goal.take_larger-requires-2-clause-some
take_larger-requires-2-clause-some g c =
    let x = view g.R.Rack.seen g.R.Bay.shelf c.args.self.now in
    let free = unrefused x.linear (book x) c.args.place (x.bay.sectors c.args.disk) c.requires.admitted in
    let listed = c.requires.listed in
    some_units (book x).state c.args.place (units_of (x.bay.sectors c.args.disk) (book x).state.extent) (c.requires.fit.0.running.set.valid 0 (omega (arith, listed))) listed free.units

pub take_larger-requires-2-clause-reaches : goal.take_larger-requires-2-clause-reaches
take_larger-requires-2-clause-reaches g c =
    let x = view g.R.Rack.seen g.R.Bay.shelf c.args.self.now in
    let free = unrefused x.linear (book x) c.args.place (x.bay.sectors c.args.disk) c.requires.admitted in
    free.reaches

pub returns-then-not-has_drive-clause-enlarges : goal.returns-then-not-has_drive-clause-enlarges
returns-then-not-has_drive-clause-enlarges g c =
    let x = view g.R.Rack.seen g.R.Bay.shelf c.args.self.now in
    let free = unrefused x.linear (book x) c.args.place (x.bay.sectors c.args.disk) c.requires.admitted in
    let y = view g.R.Rack.seen g.R.Bay.shelf c.take_larger.new.self in
    let own = c.take_larger.ensures in
    enlarged x y c.args.place c.args.disk c.take_larger.result c.requires.disk c.requires.admitted c.requires.units 36 (omega arith) own.raises
    (λ same. other_marked x y c.args.place (inl (sym c.has_drive.ensures ∙ c.if-not-has_drive.true)) (own.lost same)) own.enlarges

pub returns-in-Ok-clause-enlarges : goal.returns-in-Ok-clause-enlarges
returns-in-Ok-clause-enlarges g c =
    let x = view g.R.Rack.seen g.R.Bay.shelf c.args.self.now in
    let free = unrefused x.linear (book x) c.args.place (x.bay.sectors c.args.disk) c.requires.admitted in
    let y = view g.R.Rack.seen g.R.Bay.shelf c.take_larger-2.new.self in
    enlarged x y c.args.place c.args.disk (Ok tt) c.requires.disk c.requires.admitted c.requires.units 36 (omega arith) c.take_larger-2.ensures.raises
    (λ same. absurd (never_fault NotWhole same)) c.in-Ok.ensures.enlarges

pub lacks_alone-requires : goal.lacks_alone-requires
lacks_alone-requires g c =
    let x = view g.R.Rack.seen g.R.Bay.shelf c.args.self.now in
    let free = unrefused x.linear (book x) c.args.place (x.bay.sectors c.args.disk) c.requires.admitted in
    let m = view g.R.Rack.seen g.R.Bay.shelf c.take_larger-2.new.self in
    let own = c.in-Err.ensures in
    let was = sym c.has_drive.ensures ∙ c.if-not-has_drive.false in
    let listed = c.requires.listed in
    let count = many_same (book x).state (book m).state own.loses.marks in
    omega (arith, listed, count)

pub take_larger-requires-then-lacks_alone-clause-listed : goal.take_larger-requires-then-lacks_alone-clause-listed
take_larger-requires-then-lacks_alone-clause-listed g c =
    let x = view g.R.Rack.seen g.R.Bay.shelf c.args.self.now in
    let free = unrefused x.linear (book x) c.args.place (x.bay.sectors c.args.disk) c.requires.admitted in
    let m = view g.R.Rack.seen g.R.Bay.shelf c.take_larger-2.new.self in
    let own = c.in-Err.ensures in
    let was = sym c.has_drive.ensures ∙ c.if-not-has_drive.false in
    let listed = c.requires.listed in
    let count = many_same (book x).state (book m).state own.loses.marks in
    omega (arith, listed, count)

pub take_larger-requires-then-lacks_alone-clause-other : goal.take_larger-requires-then-lacks_alone-clause-other
take_larger-requires-then-lacks_alone-clause-other g c =
    let x = view g.R.Rack.seen g.R.Bay.shelf c.args.self.now in
    let free = unrefused x.linear (book x) c.args.place (x.bay.sectors c.args.disk) c.requires.admitted in
    let m = view g.R.Rack.seen g.R.Bay.shelf c.take_larger-2.new.self in
    let own = c.in-Err.ensures in
    let was = sym c.has_drive.ensures ∙ c.if-not-has_drive.false in
    other_later x m c.args.place c.args.disk (own.kept was) (free_of x c.args.place c.args.disk was free.whole c.requires.other)

pub take_larger-requires-then-lacks_alone-clause-some : goal.take_larger-requires-then-lacks_alone-clause-some
take_larger-requires-then-lacks_alone-clause-some g c =
    let x = view g.R.Rack.seen g.R.Bay.shelf c.args.self.now in
    let free = unrefused x.linear (book x) c.args.place (x.bay.sectors c.args.disk) c.requires.admitted in
    let m = view g.R.Rack.seen g.R.Bay.shelf c.take_larger-2.new.self in
    let own = c.in-Err.ensures in
    let was = sym c.has_drive.ensures ∙ c.if-not-has_drive.false in
    let listed = c.requires.listed in
    subst (λ n. 0 < units_of n (book m).state.extent) (sym (own.enlarges.continues.proceeds.disks.sectors c.args.disk c.requires.disk))
    (subst (λ n. 0 < units_of (x.bay.sectors c.args.disk) n) (sym own.loses.marks.same.extent)
    (some_units (book x).state c.args.place (units_of (x.bay.sectors c.args.disk) (book x).state.extent) (c.requires.fit.0.running.set.valid 0 (omega (arith, listed))) listed free.units))

pub take_larger-requires-then-lacks_alone-clause-reaches : goal.take_larger-requires-then-lacks_alone-clause-reaches
take_larger-requires-then-lacks_alone-clause-reaches g c =
    let x = view g.R.Rack.seen g.R.Bay.shelf c.args.self.now in
    let free = unrefused x.linear (book x) c.args.place (x.bay.sectors c.args.disk) c.requires.admitted in
    let m = view g.R.Rack.seen g.R.Bay.shelf c.take_larger-2.new.self in
    let own = c.in-Err.ensures in
    let was = sym c.has_drive.ensures ∙ c.if-not-has_drive.false in
    subst (λ n. reaches_own (book m) c.args.place n ≡ true) (sym (own.enlarges.continues.proceeds.disks.sectors c.args.disk c.requires.disk))
    (still_reached x.arrays m.arrays (slices_shown x) (slices_shown m) c.requires.fit.0.running own.enlarges.continues.proceeds.fit.0.running own.loses.marks own.loses.arrays c.args.place
    (x.bay.sectors c.args.disk) free.reaches)

pub returns-then-lacks_alone-clause-enlarges : goal.returns-then-lacks_alone-clause-enlarges
returns-then-lacks_alone-clause-enlarges g c =
    let x = view g.R.Rack.seen g.R.Bay.shelf c.args.self.now in
    let free = unrefused x.linear (book x) c.args.place (x.bay.sectors c.args.disk) c.requires.admitted in
    let m = view g.R.Rack.seen g.R.Bay.shelf c.take_larger-2.new.self in
    let own = c.in-Err.ensures in
    let was = sym c.has_drive.ensures ∙ c.if-not-has_drive.false in
    let y = view g.R.Rack.seen g.R.Bay.shelf c.take_larger-then-lacks_alone.new.self in
    let then = c.take_larger-then-lacks_alone.ensures in
    let alone = alone_is m c.args.place (sym c.lacks_alone.ensures ∙ c.if-lacks_alone.true) in
    let by = grown_then x m y c.args.place c.args.disk c.requires.fit (slices_in (arrays_of c.args.self.now)).orderly c.requires.disk was c.in-Err.fault own.enlarges own.loses (own.kept was) alone.0 alone.1
    c.take_larger-then-lacks_alone.result then.enlarges in
    enlarged x y c.args.place c.args.disk c.take_larger-then-lacks_alone.result c.requires.disk c.requires.admitted c.requires.units 72 (omega arith)
    (raises_then 36 36 (book x) (book m) (book y) own.loses.marks.same.made c.take_larger-2.ensures.raises then.raises)
    (λ same. lost_then x m y c.args.place own.loses.marks (other_marked m y c.args.place (inl alone.0) (then.lost same))) by

pub returns-else-lacks_alone-clause-enlarges : goal.returns-else-lacks_alone-clause-enlarges
returns-else-lacks_alone-clause-enlarges g c =
    let x = view g.R.Rack.seen g.R.Bay.shelf c.args.self.now in
    let free = unrefused x.linear (book x) c.args.place (x.bay.sectors c.args.disk) c.requires.admitted in
    let m = view g.R.Rack.seen g.R.Bay.shelf c.take_larger-2.new.self in
    let own = c.in-Err.ensures in
    let was = sym c.has_drive.ensures ∙ c.if-not-has_drive.false in
    enlarged x m c.args.place c.args.disk (Err c.in-Err.fault) c.requires.disk c.requires.admitted c.requires.units 36 (omega arith) c.take_larger-2.ensures.raises
    (λ same. other_lost x m c.args.place free.whole own.loses.marks (sym c.lacks_alone.ensures ∙ c.if-lacks_alone.false) (own.lost same)) own.enlarges
