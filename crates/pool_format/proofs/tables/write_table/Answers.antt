use Rattle.std.proofs.Common.{◌≡◌, ℕ, List, subst, sym, ap, ap₂, ◌∙◌}
use Rattle.gpt_table.specs.declared.Entry.{Entry}
use Rattle.gpt_table.specs.declared.Table.{Table}
use Rattle.gpt_table.specs.Format.{IsWritable}
use Rattle.gpt_table.specs.Plans.{WritesTable}
use Rattle.array_image.specs.Places.{drive_id}
use Rattle.pool_format.specs.declared.planning.NewArray.{NewArray}
use Rattle.pool_format.specs.Plan.{AreLow}
use Rattle.pool_format.specs.Parts.{entries_of, new_table}
use Rattle.pool_format.proofs.Planned.{plan_low}
use Rattle.pool_format.proofs.Entries.{table_writable}
use Rattle.pool_format.proofs.tables.write_table.Goals as goal

pub entries_of-requires-clause-room : goal.entries_of-requires-clause-room
entries_of-requires-clause-room g c =
    subst AreLow (sym c.as_slice.ensures.value) (plan_low c.args.plan.now (g.R.Rack.seen c.args.rack.now) c.requires.plan c.requires.room)

-- the table that is made
made : List ℕ → ℕ → List Entry → Table
made drive sectors entries = record { disk_id = record { 0 = drive }; sectors = sectors; entries = record { items = entries } }

pub write_whole-requires-clause-writable : goal.write_whole-requires-clause-writable
unfolding made
write_whole-requires-clause-writable g c =
    let id = drive_id c.args.birth.now.pool c.args.place in
    let sectors = (g.R.Rack.seen c.args.rack.now).sectors c.args.place in
    let same : made c.new_drive_id-drive.result.0 c.sectors.result c.entries_of.result.items ≡ new_table c.args.plan.now c.args.birth.now c.args.place sectors =
    ap₂ (λ drive n. made drive n c.entries_of.result.items) c.new_drive_id-drive.ensures c.sectors.ensures.number
    ∙ ap (λ (es : List Entry). made id sectors es)
    (c.entries_of.ensures ∙ ap₂ (λ (drive : List ℕ) (arrays : List NewArray). entries_of drive c.args.place arrays) c.new_drive_id-drive.ensures c.as_slice.ensures.value) in
    subst IsWritable (sym same) (table_writable c.args.plan.now c.args.birth.now (g.R.Rack.seen c.args.rack.now) c.requires.plan c.requires.room c.args.place c.requires.place)

pub returns-clause-writes : goal.returns-clause-writes
unfolding made
returns-clause-writes g c =
    let id = drive_id c.args.birth.now.pool c.args.place in
    let sectors = (g.R.Rack.seen c.args.rack.now).sectors c.args.place in
    let same : made c.new_drive_id-drive.result.0 c.sectors.result c.entries_of.result.items ≡ new_table c.args.plan.now c.args.birth.now c.args.place sectors =
    ap₂ (λ drive n. made drive n c.entries_of.result.items) c.new_drive_id-drive.ensures c.sectors.ensures.number
    ∙ ap (λ (es : List Entry). made id sectors es)
    (c.entries_of.ensures ∙ ap₂ (λ (drive : List ℕ) (arrays : List NewArray). entries_of drive c.args.place arrays) c.new_drive_id-drive.ensures c.as_slice.ensures.value) in
    subst (λ (t : Table). WritesTable (g.R.Rack.seen c.args.rack.now) (g.R.Rack.seen c.write_whole.new.rack) c.args.place t c.write_whole.result) same c.write_whole.ensures.writes
