use Rattle.std.proofs.Common.{◌≡◌, List, Ok, Err, length, arith, ap, subst, ◌∙◌}
use Rattle.rack.specs.declared.Gone.{Gone}
use Rattle.gpt_table.specs.declared.Entry.{Entry}
use Rattle.gpt_table.specs.declared.Table.{Table}
use Rattle.gpt_table.specs.declared.TableCopy.TheVariants.{Primary, Backup}
use Rattle.gpt_table.specs.Changes.{changed, with_entry, ReplacesCopy}
use Rattle.gpt_table.proofs.Chosen.{few_entries}
use Rattle.gpt_table.proofs.Tables.{change_refused, change_made}
use Rattle.gpt_table.proofs.changing.change_entry.Goals as goal

-- a table with these entries
abbrev with_items : Table → List Entry → Table
with_items table items = record { disk_id = table.disk_id; sectors = table.sectors; entries = record { items = items } }

pub with_entry-table-requires : goal.with_entry-table-requires
with_entry-table-requires g c =
    let few = few_entries (changed c.args.entry.now c.args.table.now) c.requires.writable in
    let same = ap (λ (es : List Entry). length (with_entry c.args.entry.now es)) c.as_slice.ensures.value in
    omega (arith, few, same)

pub returns-in-Err-clause-changes : goal.returns-in-Err-clause-changes
returns-in-Err-clause-changes g c =
    let items : c.with_entry-table.result.items ≡ with_entry c.args.entry.now c.args.table.now.entries.items =
    c.with_entry-table.ensures ∙ ap (with_entry c.args.entry.now) c.as_slice.ensures.value in
    change_refused (g.R.Rack.seen c.args.rack.now) (g.R.Rack.seen c.replace_copy.new.rack) c.args.disk c.args.table.now
    (changed c.args.entry.now c.args.table.now) c.in-Err.gone c.requires.writable.room c.in-Err.ensures.named
    (subst
    (λ (es : List Entry).
    ReplacesCopy (g.R.Rack.seen c.args.rack.now) (g.R.Rack.seen c.replace_copy.new.rack) c.args.disk Backup (with_items c.args.table.now es)
    {X = Unit {0}} {E = Gone} (Err c.in-Err.gone))
    items c.in-Err.ensures.replaced)

pub returns-clause-changes : goal.returns-clause-changes
returns-clause-changes g c =
    let items : c.with_entry-table.result.items ≡ with_entry c.args.entry.now c.args.table.now.entries.items =
    c.with_entry-table.ensures ∙ ap (with_entry c.args.entry.now) c.as_slice.ensures.value in
    change_made (g.R.Rack.seen c.args.rack.now) (g.R.Rack.seen c.replace_copy.new.rack) (g.R.Rack.seen c.replace_copy-2.new.rack) c.args.disk c.args.table.now
    (changed c.args.entry.now c.args.table.now) c.replace_copy-2.result c.requires.writable.room c.replace_copy-2.ensures.named
    (subst
    (λ (es : List Entry).
    ReplacesCopy (g.R.Rack.seen c.args.rack.now) (g.R.Rack.seen c.replace_copy.new.rack) c.args.disk Backup (with_items c.args.table.now es)
    {X = Unit {0}} {E = Gone} (Ok tt))
    items c.in_default.ensures.replaced)
    (subst
    (λ (es : List Entry).
    ReplacesCopy (g.R.Rack.seen c.replace_copy.new.rack) (g.R.Rack.seen c.replace_copy-2.new.rack) c.args.disk Primary (with_items c.args.table.now es)
    c.replace_copy-2.result)
    items c.replace_copy-2.ensures.replaced)
