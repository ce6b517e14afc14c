use Rattle.std.proofs.Common.{◌≡◌, None, sym, ap, subst, ◌∙◌, inl, inr, arith}
use Rattle.std.proofs.lemmas.Result.{err_from_is_err_and}
use Rattle.rack.specs.Seen.{Rose}
use Rattle.rack.specs.Joins.{rose_since}
use Rattle.gpt_table.specs.Format.{IsWritable}
use Rattle.gpt_table.specs.Changes.{changed}
use Rattle.gpt_table.specs.Disk.{first_table, now_on}
use Rattle.gpt_table.specs.declared.Entry.{Entry}
use Rattle.gpt_table.specs.declared.TableFault.TheVariants.{Gone, NoTable}
use Rattle.slice_rack.specs.SliceRack.{below_of, tables}
use Rattle.raid_rack.specs.RaidRack.{slices_in}
use Rattle.raid_rack.proofs.Entered.{entered_writable, fault_at, same_error}
use Rattle.raid_rack.proofs.arrays.RaidRack.add_entry.Goals as goal

pub returns-in_err-found-clause-gone : goal.returns-in_err-found-clause-gone
returns-in_err-found-clause-gone g c is =
    let t = tables (slices_in c.args.self.now) in
    let seat = sym c.disk_of.ensures ∙ c.in-Some.is in
    let error = err_from_is_err_and c.from_residual.result c.from_residual.ensures.1 in
    fault_at t (g.R.Rack.seen (below_of (slices_in c.args.self.now))) (g.R.Rack.seen c.read_table.new.rack) c.args.place c.in-Some.disk seat
    (subst (λ r. Rose ((g.R.Rack.seen r).faults c.in-Some.disk) ((g.R.Rack.seen c.read_table.new.rack).faults c.in-Some.disk)) c.inner-rack.ensures.value
    (c.read_table.ensures.gone (same_error c.read_table.result c.from_residual.result c.in_err-found.field-0.0 Gone error.0 c.in_err-found.was error.1 error.2 is)))

pub returns-in_err-found-clause-cannot : goal.returns-in_err-found-clause-cannot
returns-in_err-found-clause-cannot g c is =
    let r = below_of (slices_in c.args.self.now) in
    let seat = sym c.disk_of.ensures ∙ c.in-Some.is in
    let error = err_from_is_err_and c.from_residual.result c.from_residual.ensures.1 in
    inr (inl (
      c.in-Some.disk,
      seat,
      (
        r,
        g.met.R.Rack.runs_same r,
        subst (λ k. (g.R.Rack.seen k).told c.in-Some.disk → first_table ((g.R.Rack.seen k).sectors c.in-Some.disk) (now_on (g.R.Rack.seen k) c.in-Some.disk) ≡ None) c.inner-rack.ensures.value
            (c.read_table.ensures.none (same_error c.read_table.result c.from_residual.result c.in_err-found.field-0.0 NoTable error.0 c.in_err-found.was error.1 error.2 is)),
      ),
    ))

pub change_entry-requires-clause-disk : goal.change_entry-requires-clause-disk
change_entry-requires-clause-disk g c =
    let low = c.requires.fit.1.seats c.args.place c.in-Some.disk (sym c.disk_of.ensures ∙ c.in-Some.is) in
    let disks = c.read_table.ensures.only.stays.disks ∙ ap (λ r. (g.R.Rack.seen r).disks) c.inner-rack.ensures.value in
    omega (arith, low, disks)

pub change_entry-requires-clause-writable : goal.change_entry-requires-clause-writable
change_entry-requires-clause-writable g c =
    let table = c.in_ok-found.found.table in
    let on = c.in_ok-found.ensures.writable in
    let total : table.sectors ≡ c.sectors.result =
    on.size ∙ ap (λ r. (g.R.Rack.seen r).sectors c.in-Some.disk) (c.inner-rack.ensures.value ∙ sym c.below.ensures) ∙ sym c.sectors.ensures.number in
    subst (λ (e : Entry). IsWritable (changed e table)) (sym c.entry_of-entry.ensures)
    (entered_writable table c.drive_id-drive.result.0 c.args.number c.args.first c.args.sectors c.sectors.result on.writable total c.requires.number c.requires.some (omega (arith, c.if-first-sectors.false)))

pub returns-in-Ok-clause-runs : goal.returns-in-Ok-clause-runs
returns-in-Ok-clause-runs g c =
    g.met.R.Rack.runs_then _ _ _ (subst (λ r. g.R.Rack.runs r c.read_table.new.rack) c.inner-rack.ensures.value c.read_table.ensures.runs) c.change_entry.ensures.runs

pub returns-in-Err-clause-gone : goal.returns-in-Err-clause-gone
returns-in-Err-clause-gone g c is =
    let t = tables (slices_in c.args.self.now) in
    let seat = sym c.disk_of.ensures ∙ c.in-Some.is in
    fault_at t (g.R.Rack.seen (below_of (slices_in c.args.self.now))) (g.R.Rack.seen c.change_entry.new.rack) c.args.place c.in-Some.disk seat
    (subst (λ r. Rose ((g.R.Rack.seen r).faults c.in-Some.disk) ((g.R.Rack.seen c.change_entry.new.rack).faults c.in-Some.disk)) c.inner-rack.ensures.value
    (rose_since (c.read_table.ensures.only.stays.faults c.in-Some.disk) c.in-Err.ensures.changes.gone.1))

pub returns-in-Err-clause-runs : goal.returns-in-Err-clause-runs
returns-in-Err-clause-runs g c =
    g.met.R.Rack.runs_then _ _ _ (subst (λ r. g.R.Rack.runs r c.read_table.new.rack) c.inner-rack.ensures.value c.read_table.ensures.runs) c.change_entry.ensures.runs
