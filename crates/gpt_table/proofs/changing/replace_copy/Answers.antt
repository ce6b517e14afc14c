use Rattle.std.proofs.Common.{◌≡◌, ◌∙◌, sym, ap, inl, arith, refl}
use Rattle.gpt_table.specs.Format.{header_sector, entries_sector}
use Rattle.gpt_table.proofs.Copies.{copy_is_on_disk, entries_on_disk}
use Rattle.gpt_table.proofs.Planned.{sector_durable}
use Rattle.gpt_table.proofs.Replaced.{replaced_gone_first, replaced_gone_second, replaced_by}
use Rattle.gpt_table.proofs.changing.replace_copy.Goals as goal

pub write_durably-requires-clause-sector : goal.write_durably-requires-clause-sector
write_durably-requires-clause-sector g c =
    let inside = copy_is_on_disk c.args.copy c.args.table.now.sectors (header_sector c.args.copy c.args.table.now.sectors) c.requires.writable.room (inl refl) in
    let same : c.sectors-sectors.result ≡ c.args.table.now.sectors = c.sectors-sectors.ensures.number ∙ sym c.requires.size in
    let own = c.header_sector-own.ensures ∙ ap (header_sector c.args.copy) same in
    omega (arith, inside, own, c.requires.size)

pub returns-in-Err-clause-replaced : goal.returns-in-Err-clause-replaced
returns-in-Err-clause-replaced g c =
    let sectors = c.args.table.now.sectors in
    let same : c.sectors-sectors.result ≡ sectors = c.sectors-sectors.ensures.number ∙ sym c.requires.size in
    let own : c.header_sector-own.result ≡ header_sector c.args.copy sectors = c.header_sector-own.ensures ∙ ap (header_sector c.args.copy) same in
    replaced_gone_first (g.R.Rack.seen c.args.rack.now) (g.R.Rack.seen c.write_durably.new.rack) c.args.disk c.args.copy c.args.table.now c.in-Err.gone
    (rw (← own) (sector_durable _ _ _ _ _ _ c.in-Err.ensures.writes))

pub write_entries_durably-requires-clause-within : goal.write_entries_durably-requires-clause-within
write_entries_durably-requires-clause-within g c =
    let stays = c.write_durably.ensures.writes.stays.sectors c.args.disk in
    let inside = entries_on_disk c.args.copy c.args.table.now.sectors c.requires.writable.room in
    let same : c.sectors-sectors.result ≡ c.args.table.now.sectors = c.sectors-sectors.ensures.number ∙ sym c.requires.size in
    let first = c.entries_sector-first.ensures ∙ ap (entries_sector c.args.copy) same in
    omega (arith, inside, first, c.requires.size, stays)

pub write_entries_durably-requires-clause-bounded : goal.write_entries_durably-requires-clause-bounded
write_entries_durably-requires-clause-bounded g c =
    let inside = entries_on_disk c.args.copy c.args.table.now.sectors c.requires.writable.room in
    let same : c.sectors-sectors.result ≡ c.args.table.now.sectors = c.sectors-sectors.ensures.number ∙ sym c.requires.size in
    let first = c.entries_sector-first.ensures ∙ ap (entries_sector c.args.copy) same in
    omega (arith, inside, first, same, c.sectors-sectors.ensures.bounded)

pub returns-in-Err-write_entries_durably-clause-replaced : goal.returns-in-Err-write_entries_durably-clause-replaced
returns-in-Err-write_entries_durably-clause-replaced g c =
    let sectors = c.args.table.now.sectors in
    let same : c.sectors-sectors.result ≡ sectors = c.sectors-sectors.ensures.number ∙ sym c.requires.size in
    let own : c.header_sector-own.result ≡ header_sector c.args.copy sectors = c.header_sector-own.ensures ∙ ap (header_sector c.args.copy) same in
    let first : c.entries_sector-first.result ≡ entries_sector c.args.copy sectors = c.entries_sector-first.ensures ∙ ap (entries_sector c.args.copy) same in
    replaced_gone_second (g.R.Rack.seen c.args.rack.now) (g.R.Rack.seen c.write_durably.new.rack) (g.R.Rack.seen c.write_entries_durably.new.rack) c.args.disk c.args.copy
    c.args.table.now c.encode_header-header.result c.encode_entries-bytes.result c.in-Err-write_entries_durably.gone
    (record { room = c.requires.writable.room; own = c.encode_header-header.ensures.long; long = c.encode_entries-bytes.ensures.long; says = c.encode_header-header.ensures.written })
    (rw (← own) (sector_durable _ _ _ _ _ _ c.in_default.ensures.writes)) (rw (← first) c.in-Err-write_entries_durably.ensures.writes)

pub write_durably-requires-2-clause-sector : goal.write_durably-requires-2-clause-sector
write_durably-requires-2-clause-sector g c =
    let stays = c.write_durably.ensures.writes.stays.sectors c.args.disk in
    let later = c.write_entries_durably.ensures.writes.follows.stays.sectors c.args.disk in
    let inside = copy_is_on_disk c.args.copy c.args.table.now.sectors (header_sector c.args.copy c.args.table.now.sectors) c.requires.writable.room (inl refl) in
    let same : c.sectors-sectors.result ≡ c.args.table.now.sectors = c.sectors-sectors.ensures.number ∙ sym c.requires.size in
    let own = c.header_sector-own.ensures ∙ ap (header_sector c.args.copy) same in
    omega (arith, inside, own, c.requires.size, stays, later)

pub returns-clause-replaced : goal.returns-clause-replaced
returns-clause-replaced g c =
    let sectors = c.args.table.now.sectors in
    let same : c.sectors-sectors.result ≡ sectors = c.sectors-sectors.ensures.number ∙ sym c.requires.size in
    let own : c.header_sector-own.result ≡ header_sector c.args.copy sectors = c.header_sector-own.ensures ∙ ap (header_sector c.args.copy) same in
    let first : c.entries_sector-first.result ≡ entries_sector c.args.copy sectors = c.entries_sector-first.ensures ∙ ap (entries_sector c.args.copy) same in
    replaced_by (g.R.Rack.seen c.args.rack.now) (g.R.Rack.seen c.write_durably.new.rack) (g.R.Rack.seen c.write_entries_durably.new.rack)
    (g.R.Rack.seen c.write_durably-2.new.rack) c.args.disk c.args.copy c.args.table.now c.encode_header-header.result c.encode_entries-bytes.result c.write_durably-2.result
    (record { room = c.requires.writable.room; own = c.encode_header-header.ensures.long; long = c.encode_entries-bytes.ensures.long; says = c.encode_header-header.ensures.written })
    (rw (← own) (sector_durable _ _ _ _ _ _ c.in_default.ensures.writes)) (rw (← first) c.in_default-write_entries_durably.ensures.writes) (rw (← own) (sector_durable _ _ _ _ _ _ c.write_durably-2.ensures.writes))
