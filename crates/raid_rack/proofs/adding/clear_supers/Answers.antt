use Rattle.std.proofs.Common.{◌≡◌, ◌+◌, Ok, Err, length, ap, sym, subst, ◌∙◌, arith}
use Rattle.rack.specs.Sequences.{WritesDurably}
use Rattle.growth_laws.specs.NewDrives as spec
use Rattle.growth_laws.proofs.Reached.{clears_gone, clears_next, clears_over}
use Rattle.raid_rack.proofs.adding.clear_supers.Goals.{then-may_join+in_default, else-may_join}
use Rattle.raid_rack.proofs.adding.clear_supers.Goals as goal

pub returns-in-Err-clause-clears : goal.returns-in-Err-clause-clears
returns-in-Err-clause-clears g c =
    let a = g.R.Rack.seen c.args.rack.now in
    let disk = c.args.disk in
    let arrays = c.args.arrays.now in
    let n = c.loop-number.number in
    clears_gone disk arrays (spec.may_join c.args.extent arrays c.args.place c.args.units (a.sectors disk)) a (g.R.Rack.seen c.loop-number.rack) (g.R.Rack.seen c.write_durably.new.rack) n (length arrays) c.in-Err.gone
    (ap (λ k. spec.may_join c.args.extent arrays c.args.place c.args.units k n) (sym c.sectors-sectors.ensures.number) ∙ sym c.may_join.ensures ∙ c.if-may_join.true) c.loop-number.invariant.clears
    (subst (λ k. WritesDurably (g.R.Rack.seen c.loop-number.rack) (g.R.Rack.seen c.write_durably.new.rack) disk (k + 8) _ {X = Unit {0}} (Err c.in-Err.gone)) c.first_in-sector.ensures.first c.in-Err.ensures.writes)

pub returns-in-Err-clause-runs : goal.returns-in-Err-clause-runs
returns-in-Err-clause-runs g c = g.met.R.Rack.runs_then _ _ _ c.loop-number.invariant.runs c.in-Err.ensures.runs

pub loop-number-preserved : goal.loop-number-preserved
loop-number-preserved g c =
    let a = g.R.Rack.seen c.args.rack.now in
    let disk = c.args.disk in
    let arrays = c.args.arrays.now in
    let n = c.loop-number.number in
    let joined = spec.may_join c.args.extent arrays c.args.place c.args.units (a.sectors disk) in
    let same = ap (λ k. spec.may_join c.args.extent arrays c.args.place c.args.units k n) (sym c.sectors-sectors.ensures.number) ∙ sym c.may_join.ensures in
    elim c.if-may_join.branch [
      | then-may_join+in_default w ↦ record {
        clears =
            subst (λ r. spec.ClearsSupers a (g.R.Rack.seen r) disk arrays joined (n + 1) {X = Unit {0}} (Ok tt)) (sym w.rack-is)
            (clears_next disk arrays joined a (g.R.Rack.seen c.loop-number.rack) (g.R.Rack.seen w.write_durably.new.rack) n (same ∙ w.if-may_join.true) c.loop-number.invariant.clears
            (subst (λ k. WritesDurably (g.R.Rack.seen c.loop-number.rack) (g.R.Rack.seen w.write_durably.new.rack) disk (k + 8) _ {X = Unit {0}} (Ok tt)) w.first_in-sector.ensures.first w.in_default.ensures.writes));
        runs =
            subst (λ r. g.R.Rack.runs c.args.rack.now r) (sym w.rack-is)
            (g.met.R.Rack.runs_then _ _ _ c.loop-number.invariant.runs w.in_default.ensures.runs);
      }
      | else-may_join w ↦ record {
        clears =
            subst (λ r. spec.ClearsSupers a (g.R.Rack.seen r) disk arrays joined (n + 1) {X = Unit {0}} (Ok tt)) (sym w.rack-is)
            (clears_over disk arrays joined a (g.R.Rack.seen c.loop-number.rack) n (same ∙ w.if-may_join.false) c.loop-number.invariant.clears);
        runs = subst (λ r. g.R.Rack.runs c.args.rack.now r) (sym w.rack-is) c.loop-number.invariant.runs;
      }
    ]

pub returns-clause-clears : goal.returns-clause-clears
returns-clause-clears g c =
    let a = g.R.Rack.seen c.args.rack.now in
    let disk = c.args.disk in
    let arrays = c.args.arrays.now in
    let past = c.loop-number-test.false in
    let ends = c.loop-number.auto.number-end in
    subst (λ k. spec.ClearsSupers a (g.R.Rack.seen c.loop-number.rack) disk arrays (spec.may_join c.args.extent arrays c.args.place c.args.units (a.sectors disk)) k {X = Unit {0}} (Ok tt))
    (let e : c.loop-number.number ≡ length arrays = omega (arith, past, ends) in e) c.loop-number.invariant.clears
