use Rattle.std.specs.Prelude.{IfErr, is_ok}
use Rattle.std.proofs.Common.{◌≡◌, ℕ, ◌-◌, true, false, Some, Err, Ok, Result, sym, ap, subst, ◌∙◌}
use Rattle.rack.specs.Seen.{RackView}
use Rattle.array_image.specs.SoundArray.{first_unsynced}
use Rattle.array_model.specs.View.{rows_of}
use Rattle.growth_laws.specs.Growing.{MovesRows, is_due, moves, zeroes}
use Rattle.reshape_laws.specs.Ahead.{next_row}
use Rattle.std.proofs.lemmas.Result.{err_from_is_err_and}
use Rattle.lvm_group.specs.Volume.{linear}
use Rattle.raid_rack.specs.RaidRack.{IsFit, KeepsRack, SliceRuns, arrays_in, raid_in, raid_seen, slices_in, slices_seen, written_in}
use Rattle.raid_rack.specs.declared.arrays.RaidRack.{RaidRack}
use Rattle.raid_rack.specs.declared.works.Stuck.{Stuck}
use Rattle.pool_state.specs.declared.contents.Work.{Work}
use Rattle.pool_state.specs.declared.contents.Work.TheVariants.{Reshape, Zero}
use Rattle.raid_laws.specs.Moves.{RaisesBy}
use Rattle.raid_laws.specs.Runs.{RaidRuns}
use Rattle.pool.specs.Growing.{TriesFirst}
use Rattle.pool.specs.View.{arrays_of, book, view}
use Rattle.pool.proofs.Grows.{first_tried, none_tried}
use Rattle.pool.proofs.RowsTried.{RowsSay, moves_tried, rows_tried, zeros_tried}
use Rattle.pool.proofs.Stepping.{SaysOf, some_drive}
use Rattle.pool.proofs.Pool.try_first.Goals as goal

pub works-requires-clause-fit : goal.works-requires-clause-fit
works-requires-clause-fit g c = subst (λ r. IsFit (arrays_in r) (slices_seen g.R.Rack.seen r)) (sym c.inner-then-is_row.ensures.value) c.requires.fit.0

pub returns-then-is_row-clause-tries : goal.returns-then-is_row-clause-tries
returns-then-is_row-clause-tries g c =
    let seen = g.R.Rack.seen in
    let shelf = g.R.Bay.shelf in
    let p = c.args.self.now in
    let most = c.args.most in
    let new = c.works.new.self in
    let own = c.works.ensures in
    let work = c.in-Some.work in
    let reached = c.inner-then-is_row.ensures.value in
    let says : SaysOf seen work most c.works.result c.works.result (arrays_of p) new =
    subst (λ old. SaysOf seen work most c.works.result c.works.result old new) reached (record { idle = own.idle; does = own.does; named = own.named }) in
    rows_tried seen shelf g.R.Rack.runs g.met.R.Rack.sound g.met.R.Bay.runs_shelf p new work most c.requires.fit (sym c.in-Some.ensures.first) c.requires.some
    c.works.result (sym c.is_row.ensures ∙ c.if-is_row.true) says
    (subst (λ old. KeepsRack (raid_seen seen old) (raid_seen seen new)) reached own.keeps)
    (subst (λ old. SliceRuns seen g.R.Rack.runs (slices_in old) (slices_in new)) reached own.runs)
    (subst (λ old. RaidRuns (written_in old) (written_in new) (raid_in old) (raid_in new) (slices_seen seen old) (slices_seen seen new)) reached own.book)
    (subst (λ old. RaisesBy 18 (raid_in old) (raid_in new)) reached own.raises)

pub try_work-requires-clause-listed : goal.try_work-requires-clause-listed
try_work-requires-clause-listed g c =
    let p = c.args.self.now in
    some_drive (linear p.volume) (book (view g.R.Rack.seen g.R.Bay.shelf p)) c.in-Some.work (sym c.in-Some.ensures.first)

pub returns-in_ok-try_work-in-Some-clause-tries : goal.returns-in_ok-try_work-in-Some-clause-tries
returns-in_ok-try_work-in-Some-clause-tries g c =
    let p = c.args.self.now in
    first_tried g.R.Rack.seen g.R.Bay.shelf g.R.Rack.runs c.args.most p c.try_work.new.self c.in-Some.work (Ok c.in_ok-try_work-in-Some.field-0)
    c.requires.some c.requires.fit (sym c.in-Some.ensures.first) c.in_ok-try_work-in-Some.ensures.tries

pub returns-in_err-try_work-in-Some-clause-tries : goal.returns-in_err-try_work-in-Some-clause-tries
returns-in_err-try_work-in-Some-clause-tries g c =
    let p = c.args.self.now in
    let x = view g.R.Rack.seen g.R.Bay.shelf p in
    let y = view g.R.Rack.seen g.R.Bay.shelf c.try_work.new.self in
    let error = err_from_is_err_and c.from_residual.result c.from_residual.ensures.1 in
    subst (λ (r : Result ℕ Stuck). TriesFirst c.args.most x y g.R.Rack.runs r) (sym (error.1 ∙ ap (λ (e : Stuck). Err e) error.2))
    (first_tried g.R.Rack.seen g.R.Bay.shelf g.R.Rack.runs c.args.most p c.try_work.new.self c.in-Some.work (Err _) c.requires.some c.requires.fit (sym c.in-Some.ensures.first)
    c.in_err-try_work-in-Some.ensures.tries)

pub returns-in-None-clause-tries : goal.returns-in-None-clause-tries
returns-in-None-clause-tries g c =
    none_tried c.args.most (view g.R.Rack.seen g.R.Bay.shelf c.args.self.now) g.R.Rack.runs c.requires.some c.requires.fit (sym c.in-None.ensures.first)

-- what the call says of rows of a reshape, but for what contents hold in it
moves_say : {R : Type 0} (seen : R → RackView) (runs : R → R → Type 0) (m most : ℕ) (r : Result ℕ Stuck) (old new : RaidRack R)
    → (is_due (raid_in old) (Reshape m) ≡ false → (is_ok r ≡ false) × (new ≡ old))
    → (is_due (raid_in old) (Reshape m) ≡ true → MovesRows m most (raid_in old) (raid_in new) (slices_seen seen old) (slices_seen seen new) r)
    → IfErr r (λ e. e.array ≡ m) → IsFit (arrays_in new) (slices_seen seen new) → RaisesBy 18 (raid_in old) (raid_in new) → SliceRuns seen runs (slices_in old) (slices_in new)
    → RowsSay seen runs (Reshape m) m (moves m) (λ u. rows_of (u.arrays m) - next_row (u.arrays m)) most r old new
moves_say seen runs m most r old new idle grows named fit raises ran = record {
  idle = idle;
  grows = λ due. let does = grows due in record { rows = does.rows; some = does.some; few = does.few; left = does.left; steps = does.steps.grows; answer = does.answer };
  named = named;
  fit = fit;
  raises = raises;
  ran = ran;
}

pub reshape_rows-requires-clause-fit : goal.reshape_rows-requires-clause-fit
reshape_rows-requires-clause-fit g c = subst (λ r. IsFit (arrays_in r) (slices_seen g.R.Rack.seen r)) (sym c.inner.ensures.value) c.requires.fit.0

pub returns-in-Some-Reshape-clause-tries : goal.returns-in-Some-Reshape-clause-tries
returns-in-Some-Reshape-clause-tries g c =
    let seen = g.R.Rack.seen in
    let p = c.args.self.now in
    let new = c.reshape_rows.new.self in
    let own = c.reshape_rows.ensures in
    let m = c.in-Some-Reshape.array in
    let says = subst (λ old. RowsSay seen g.R.Rack.runs (Reshape m) m (moves m) (λ u. rows_of (u.arrays m) - next_row (u.arrays m)) c.args.most c.reshape_rows.result old new)
    c.inner.ensures.value
    (moves_say seen g.R.Rack.runs m c.args.most c.reshape_rows.result _ new own.idle own.grows own.named own.fit own.raises own.runs) in
    moves_tried seen g.R.Bay.shelf g.R.Rack.runs g.met.R.Bay.runs_shelf p new m c.args.most c.requires.fit c.requires.some
    (sym c.in-Some-Reshape.ensures.first ∙ ap (λ (w : Work). Some w) c.in-Some-Reshape.field-0-is) c.reshape_rows.result says

pub zero_rows-requires-clause-fit : goal.zero_rows-requires-clause-fit
zero_rows-requires-clause-fit g c = subst (λ r. IsFit (arrays_in r) (slices_seen g.R.Rack.seen r)) (sym c.inner-in-Some-Zero.ensures.value) c.requires.fit.0

pub returns-in-Some-Zero-clause-tries : goal.returns-in-Some-Zero-clause-tries
returns-in-Some-Zero-clause-tries g c =
    let seen = g.R.Rack.seen in
    let p = c.args.self.now in
    let new = c.zero_rows.new.self in
    let own = c.zero_rows.ensures in
    let m = c.in-Some-Zero.array in
    let says : RowsSay seen g.R.Rack.runs (Zero m) m (zeroes m) (λ u. rows_of (u.arrays m) - first_unsynced (u.arrays m).truth) c.args.most c.zero_rows.result (arrays_of p) new =
    subst (λ old. RowsSay seen g.R.Rack.runs (Zero m) m (zeroes m) (λ u. rows_of (u.arrays m) - first_unsynced (u.arrays m).truth) c.args.most c.zero_rows.result old new)
    c.inner-in-Some-Zero.ensures.value
    (record { idle = own.idle; grows = own.grows; named = own.named; fit = own.fit; raises = own.raises; ran = own.runs }) in
    zeros_tried seen g.R.Bay.shelf g.R.Rack.runs g.met.R.Bay.runs_shelf p new m c.args.most c.requires.fit c.requires.some
    (sym c.in-Some-Zero.ensures.first ∙ ap (λ (w : Work). Some w) c.in-Some-Zero.field-0-is) c.zero_rows.result says
