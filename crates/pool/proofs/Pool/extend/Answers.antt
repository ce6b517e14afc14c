use Rattle.std.proofs.Common.{◌≡◌, slice_get, sym, ap, ◌∙◌, subst, inr}
use Rattle.lvm_group.specs.Extending.{extended}
use Rattle.lvm_group.specs.Growth.{AreBelow}
use Rattle.lvm_group.specs.Volume.{linear}
use Rattle.pool.specs.declared.Pool.{Pool}
use Rattle.pool.specs.Growing.{can_extend, target_of}
use Rattle.pool.specs.View.{arrays_of, book, view}
use Rattle.pool.proofs.Extends.{may_extend}
use Rattle.pool.proofs.ExtensionTried.{loses_by, numbers_are, volume_grows}
use Rattle.pool.proofs.Grows.{extend_done}
use Rattle.pool.proofs.Pool.extend.Goals as goal

pub extend-requires-clause-below : goal.extend-requires-clause-below
extend-requires-clause-below g c =
    let l = linear c.args.self.now.volume in
    let v = book (view g.R.Rack.seen g.R.Bay.shelf c.args.self.now) in
    let may = may_extend l v c.target-extents.result.items (ap (can_extend l v) (sym c.as_slice.ensures.value) ∙ sym c.can_extend.ensures ∙ c.if-not-can_extend.false) in
    subst AreBelow (sym c.as_slice-2.ensures.value) may.below

pub extend-requires-clause-holds : goal.extend-requires-clause-holds
extend-requires-clause-holds g c place number at =
    let l = linear c.args.self.now.volume in
    let v = book (view g.R.Rack.seen g.R.Bay.shelf c.args.self.now) in
    let may = may_extend l v c.target-extents.result.items (ap (can_extend l v) (sym c.as_slice.ensures.value) ∙ sym c.can_extend.ensures ∙ c.if-not-can_extend.false) in
    may.holds place number (ap (λ xs. slice_get xs place) (sym c.as_slice-2.ensures.value) ∙ at)

pub returns-in-Ok-clause-tries : goal.returns-in-Ok-clause-tries
returns-in-Ok-clause-tries g c =
    let seen = g.R.Rack.seen in
    let shelf = g.R.Bay.shelf in
    let p = c.args.self.now in
    let q : Pool g.row.R.Denot = record { volume = c.extend.new.self } in
    let v = book (view seen shelf p) in
    let own = c.in-Ok.ensures in
    let numbers : c.as_slice-2.result.now ≡ target_of v =
    c.as_slice-2.ensures.value ∙ numbers_are (linear p.volume) v c.state.result.now c.progress.result c.target-extents.result.items c.state.ensures c.progress.ensures.value c.target-extents.ensures.extents in
    record {
      keeps = volume_grows seen shelf g.R.Rack.runs g.met.R.Bay.runs_shelf p q _ c.requires.fit own.fit own.kept c.as_slice-2.ensures.fits own.several;
      done = (extend_done v (book (view seen shelf q)) (loses_by seen g.R.Rack.runs (arrays_of p) (arrays_of q) own.kept), own.volume ∙ ap (extended (linear p.volume)) numbers);
      stuck = tt;
    }

pub returns-in-Err-clause-tries : goal.returns-in-Err-clause-tries
returns-in-Err-clause-tries g c =
    let seen = g.R.Rack.seen in
    let shelf = g.R.Bay.shelf in
    let p = c.args.self.now in
    let q : Pool g.row.R.Denot = record { volume = c.extend.new.self } in
    let own = c.in-Err.ensures in
    record {
      keeps = volume_grows seen shelf g.R.Rack.runs g.met.R.Bay.runs_shelf p q _ c.requires.fit own.fit own.kept c.as_slice-2.ensures.fits own.several;
      done = tt;
      stuck = (own.same.0, inr (loses_by seen g.R.Rack.runs (arrays_of p) (arrays_of q) own.kept, own.changes.puts.gone.0, own.changes.puts.spent tt));
    }
