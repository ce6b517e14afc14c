use Rattle.std.proofs.Common.{◌≡◌, ◌∙◌, sym, ap, subst₂, ℕ}
use Rattle.gpt_table.specs.Format.{header_sector, entries_sector}
use Rattle.gpt_table.specs.Plans.{copy_plan, WritesSectors}
use Rattle.gpt_table.proofs.Planned.{plan_holds, plan_sized, plan_within}
use Rattle.gpt_table.proofs.writing.write_copy.Goals as goal

pub returns-clause-writes : goal.returns-clause-writes
returns-clause-writes g c =
    let sectors = c.args.table.now.sectors in
    let header = c.encode_header-header.result in
    let bytes = c.encode_entries-bytes.result in
    let same : c.sectors-sectors.result ≡ sectors = c.sectors-sectors.ensures.number ∙ sym c.requires.size in
    let own : c.header_sector-own.result ≡ header_sector c.args.copy sectors = c.header_sector-own.ensures ∙ ap (header_sector c.args.copy) same in
    let first : c.entries_sector-first.result ≡ entries_sector c.args.copy sectors = c.entries_sector-first.ensures ∙ ap (entries_sector c.args.copy) same in
    record {
      plan = copy_plan (header_sector c.args.copy sectors) header (entries_sector c.args.copy sectors) bytes;
      within = plan_within c.args.copy sectors header bytes;
      sized = plan_sized c.args.copy sectors header bytes c.encode_header-header.ensures.long c.encode_entries-bytes.ensures.long;
      says = λ contents holds.
          plan_holds c.args.copy c.args.table.now header bytes contents c.requires.writable.room c.encode_entries-bytes.ensures.long
          c.encode_header-header.ensures.written holds;
      writes = subst₂ (λ (o f : ℕ). WritesSectors (g.R.Rack.seen c.args.rack.now) (g.R.Rack.seen c.write_sectors.new.rack) c.args.disk (copy_plan o header f bytes) c.write_sectors.result)
          own first c.write_sectors.ensures.writes;
    }
