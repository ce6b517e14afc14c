use Rattle.std.proofs.Common.{Err, ◌≡◌, ◌+◌, ◌*◌, ℕ, List, true, sym, ap, subst, ◌∙◌, arith}
use Rattle.std.specs.List.{slice_index_or}
use Rattle.array_core.specs.Seats.{names}
use Rattle.array_image.specs.States.{is_current}
use Rattle.slice_rack.specs.SliceRack.{below_of}
use Rattle.raid_rack.specs.declared.arrays.Arrays.{Arrays}
use Rattle.raid_rack.specs.RaidRack.{raid_in, slices_in}
use Rattle.raid_rack.proofs.Entered.{HasEntered, entered_cannot, entered_lost, entered_more, entered_none, named_at, more_entered}
use Rattle.raid_rack.proofs.Raises.{raises_more}
use Rattle.raid_rack.proofs.arrays.RaidRack.add_entries.Goals.{in-Ok, in-Err-Gone}
use Rattle.raid_rack.proofs.arrays.RaidRack.add_entries.Goals as goal

pub loop-place-init : goal.loop-place-init
loop-place-init g c = entered_none g.R.Rack.seen g.R.Rack.runs g.met.R.Rack.runs_then c.args.self.now c.requires.fit (g.met.R.Rack.runs_same (below_of (slices_in c.args.self.now)))

pub loop-place-preserved-then-not-is_current : goal.loop-place-preserved-then-not-is_current
loop-place-preserved-then-not-is_current g c =
    more_entered g.R.Rack.seen g.R.Rack.runs c.loop-place.place-index c.args.self.now c.loop-place.self c.loop-place.invariant

pub returns-in-Err-NoTable-clause-cannot : goal.returns-in-Err-NoTable-clause-cannot
returns-in-Err-NoTable-clause-cannot g c is =
    let ps = c.as_slice-place-items.result.now in
    let place = slice_index_or ps c.loop-place.place-index 0 in (
      place,
      subst (λ (qs : List ℕ). names qs place ≡ true) c.as_slice-place-items.ensures.value (named_at ps c.loop-place.place-index c.loop-place-test.true),
      ap (λ (a : Arrays). is_current a.state place) c.add_entry.ensures.arrays ∙ sym c.is_current.ensures ∙ c.if-not-is_current.false,
      entered_cannot g.R.Rack.seen g.R.Rack.runs g.met.R.Rack.runs_then c.loop-place.place-index place c.args.first c.args.sectors c.args.self.now c.loop-place.self
          c.loop-place.invariant (c.in-Err-NoTable.ensures.cannot (ap Err c.in-Err-NoTable.field-0-is)),
    )

pub returns-in-Err-NoTable-clause-caused : goal.returns-in-Err-NoTable-clause-caused
returns-in-Err-NoTable-clause-caused g c =
    let done = c.add_entry.ensures in
    (entered_more g.R.Rack.seen g.R.Rack.runs g.met.R.Rack.runs_then c.loop-place.place-index c.args.self.now c.loop-place.self c.add_entry.new.self c.loop-place.invariant
    done.arrays done.refused done.written done.seconds done.tables done.goes done.runs).caused

pub returns-in-Err-NoTable-clause-fit : goal.returns-in-Err-NoTable-clause-fit
returns-in-Err-NoTable-clause-fit g c =
    let done = c.add_entry.ensures in
    (entered_more g.R.Rack.seen g.R.Rack.runs g.met.R.Rack.runs_then c.loop-place.place-index c.args.self.now c.loop-place.self c.add_entry.new.self c.loop-place.invariant
    done.arrays done.refused done.written done.seconds done.tables done.goes done.runs).fit

pub returns-in-Err-NoTable-clause-raises : goal.returns-in-Err-NoTable-clause-raises
returns-in-Err-NoTable-clause-raises g c =
    let done = c.add_entry.ensures in
    let few = c.as_slice-place-items.ensures.fits in
    let low = c.loop-place-test.true in
    raises_more (17 * c.loop-place.place-index) 272 (raid_in c.args.self.now) (raid_in c.add_entry.new.self) (omega (arith, few, low))
    (entered_more g.R.Rack.seen g.R.Rack.runs g.met.R.Rack.runs_then c.loop-place.place-index c.args.self.now c.loop-place.self c.add_entry.new.self c.loop-place.invariant
    done.arrays done.refused done.written done.seconds done.tables done.goes done.runs).raises

pub lose_place-requires-clause-running : goal.lose_place-requires-clause-running
lose_place-requires-clause-running g c =
    let done = c.add_entry.ensures in
    (entered_more g.R.Rack.seen g.R.Rack.runs g.met.R.Rack.runs_then c.loop-place.place-index c.args.self.now c.loop-place.self c.add_entry.new.self c.loop-place.invariant
    done.arrays done.refused done.written done.seconds done.tables done.goes done.runs).fit.running

pub loop-place-preserved : goal.loop-place-preserved
loop-place-preserved g c =
    let done = c.add_entry.ensures in
    let k = c.loop-place.place-index in
    let p = c.args.self.now in
    let q = c.loop-place.self in
    let s = c.add_entry.new.self in
    let more =
    entered_more g.R.Rack.seen g.R.Rack.runs g.met.R.Rack.runs_then k p q s c.loop-place.invariant done.arrays done.refused done.written done.seconds done.tables done.goes
    done.runs in
    elim c.match-add_entry.branch [
      | in-Ok w ↦ subst (HasEntered g.R.Rack.seen g.R.Rack.runs (k + 1) p) (sym w.self-is) (more_entered g.R.Rack.seen g.R.Rack.runs k p s more)
      | in-Err-Gone w ↦
          let place = slice_index_or c.as_slice-place-items.result.now k 0 in
          let current = ap (λ (a : Arrays). is_current a.state place) done.arrays ∙ sym c.is_current.ensures ∙ c.if-not-is_current.false in
          subst (HasEntered g.R.Rack.seen g.R.Rack.runs (k + 1) p) (sym w.self-is)
          (entered_lost g.R.Rack.seen g.R.Rack.runs g.met.R.Rack.runs_then k place p q s w.lose_place.new.self w.lose_place.new.rack c.loop-place.invariant more current
          (w.in-Err-Gone.ensures.gone (ap Err w.in-Err-Gone.field-0-is)) w.lose_place.ensures.mends w.lose_place.ensures.raises w.lose_place.ensures.running w.lose_place.ensures.runs)
    ]

pub returns-clause-raises : goal.returns-clause-raises
returns-clause-raises g c =
    let few = c.as_slice-place-items.ensures.fits in
    let low = c.loop-place.auto.place-index-end in
    raises_more (17 * c.loop-place.place-index) 272 (raid_in c.args.self.now) (raid_in c.loop-place.self) (omega (arith, few, low)) c.loop-place.invariant.raises
