use Rattle.std.proofs.Common.{◌≡◌, true, false, ap, sym, ◌∙◌, List}
use Rattle.std.specs.List.{list_all}
use Rattle.gpt_table.specs.declared.Entry.{Entry}
use Rattle.gpt_table.specs.Format.{is_inside, entries_of}
use Rattle.gpt_table.proofs.Decoded.{decodes_to, invalid_entries}
use Rattle.gpt_table.proofs.Writable.{if_writable}
use Rattle.gpt_table.proofs.codec.decode.Goals as goal

pub returns-then-not-all_inside-clause-table : goal.returns-then-not-all_inside-clause-table
returns-then-not-all_inside-clause-table c =
    let read : c.deref.result.now ≡ entries_of c.args.bytes.now = c.deref.ensures.0 ∙ c.entries_in-entries.ensures in
    let outside : list_all (λ (e : Entry). is_inside c.args.sectors e.slice) (entries_of c.args.bytes.now) ≡ false =
    ap (λ (es : List Entry). list_all (λ (e : Entry). is_inside c.args.sectors e.slice) es) (sym read)
    ∙ sym c.all_inside.ensures ∙ c.if-not-all_inside.true in
    sym (invalid_entries c.args.copy c.args.sectors c.args.header.now c.args.bytes.now outside)

pub returns-clause-table : goal.returns-clause-table
returns-clause-table c =
    let read : c.deref.result.now ≡ entries_of c.args.bytes.now = c.deref.ensures.0 ∙ c.entries_in-entries.ensures in
    let inside : list_all (λ (e : Entry). is_inside c.args.sectors e.slice) (entries_of c.args.bytes.now) ≡ true =
    ap (λ (es : List Entry). list_all (λ (e : Entry). is_inside c.args.sectors e.slice) es) (sym read)
    ∙ sym c.all_inside.ensures ∙ c.if-not-all_inside.false in
    decodes_to c.args.copy c.args.sectors c.args.header.now c.args.bytes.now c.guid_at-disk_id.result c.entries_in-entries.result c.requires
    (sym c.is_header.ensures ∙ c.if-not-is_header.false)
    (sym c.u32_at.ensures ∙ c.if-u32_at-crc32.false ∙ c.crc32.ensures) inside
    c.guid_at-disk_id.ensures c.entries_in-entries.ensures

pub returns-clause-writable : goal.returns-clause-writable
returns-clause-writable c =
    if_writable c.args.copy c.args.sectors c.args.header.now c.args.bytes.now _ (returns-clause-table c)
