use Rattle.std.proofs.Common.{◌≡◌, ◌∙◌, sym, ap, ℕ, List, replicate, take, Some}
use Rattle.std.proofs.lemmas.List.Sums.{list_all-from_AllPass}
use Rattle.byteorder.specs.Endian.{little_bytes}
use Rattle.shr_base.specs.Blocks.{put_at, put_all, number_at, bytes_at}
use Rattle.shr_base.specs.Ids.{guid_order}
use Rattle.shr_base.specs.Crc.{crc32_of}
use Rattle.gpt_table.specs.declared.Entry.{Entry}
use Rattle.gpt_table.specs.Format.{is_header, is_inside, header_fields, written_header, table_of}
use Rattle.std.specs.List.{list_all}
use Rattle.gpt_table.proofs.Headers.{summed_fields, header_reads, header_entries_sum, header_disk_id}
use Rattle.gpt_table.proofs.Decoded.{decodes_to}
use Rattle.gpt_table.proofs.encoding.encode_header.Goals as goal

pub returns-clause-written : goal.returns-clause-written
unfolding written_header
returns-clause-written c =
    let table = c.args.table.now in
    let guid = c.guid_bytes-guid.result in
    let entries_sum = c.crc32.result in
    let sum = c.crc32-sum.result in
    let long = c.header_without_sum-header.ensures.guid_fits in
    let is : c.put_u32.new.block ≡ put_all (summed_fields c.args.copy table.sectors guid entries_sum sum) (replicate 512 0) =
    c.put_u32.ensures.written ∙ ap (put_at 16 4 (little_bytes 4 sum)) c.header_without_sum-header.ensures.written in
    let whole = header_reads c.args.copy table.sectors guid entries_sum sum c.requires.writable.room c.header_without_sum-header.ensures.sectors_fit long
    c.crc32-sum.type_inv (c.crc32-sum.ensures ∙ ap (λ (h : List ℕ). crc32_of (take 92 h)) c.header_without_sum-header.ensures.written) in
    let plain : List ℕ = put_all (header_fields c.args.copy table.sectors (guid_order table.disk_id.0) (crc32_of c.args.bytes.now)) (replicate 512 0) in
    let before : c.header_without_sum-header.result ≡ plain =
    c.header_without_sum-header.ensures.written
    ∙ ap (λ (g : List ℕ). put_all (header_fields c.args.copy table.sectors g entries_sum) (replicate 512 0)) c.guid_bytes-guid.ensures.stored
    ∙ ap (λ (s : ℕ). put_all (header_fields c.args.copy table.sectors (guid_order table.disk_id.0) s) (replicate 512 0)) c.crc32.ensures in
    let says : table_of c.args.copy table.sectors c.put_u32.new.block c.args.bytes.now ≡ Some table =
    sym (decodes_to c.args.copy table.sectors c.put_u32.new.block c.args.bytes.now table.disk_id table.entries c.requires.writable.room
    (ap (is_header c.args.copy table.sectors) is ∙ whole)
    (ap (number_at 88 4) is ∙ header_entries_sum c.args.copy table.sectors guid entries_sum sum long c.header_without_sum-header.ensures.sum_fits ∙ c.crc32.ensures)
    (ap (list_all (λ (e : Entry). is_inside table.sectors e.slice)) c.requires.entries
    ∙ list_all-from_AllPass (λ (e : Entry). is_inside table.sectors e.slice) table.entries.items c.requires.writable.inside)
    (sym (ap (λ (h : List ℕ). guid_order (bytes_at 56 16 h)) is ∙ ap guid_order (header_disk_id c.args.copy table.sectors guid entries_sum sum long)
    ∙ c.guid_bytes-guid.ensures.inverse))
    (sym c.requires.entries)) in
    record {
      says = says;
      header_is =
          c.put_u32.ensures.written
          ∙ ap (λ (s : ℕ). put_at 16 4 (little_bytes 4 s) c.header_without_sum-header.result) c.crc32-sum.ensures
          ∙ ap (λ (h : List ℕ). put_at 16 4 (little_bytes 4 (crc32_of (take 92 h))) h) before;
      slots = c.requires.written;
    }
