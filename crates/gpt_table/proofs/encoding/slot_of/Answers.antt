use Rattle.std.proofs.Common.{◌∙◌, ap, ℕ, List, ◌==◌, replicate}
use Rattle.shr_base.specs.Ids.{guid_order}
use Rattle.std.specs.List.{list_all}
use Rattle.gpt_table.specs.declared.Slice.{Slice}
use Rattle.shr_base.specs.Blocks.{put_all}
use Rattle.gpt_table.specs.Format.{slice_of, is_unused, slot_fields}
use Rattle.gpt_table.proofs.Slots.{slot_reads, slot_used}
use Rattle.gpt_table.proofs.encoding.slot_of.Goals as goal

pub returns-clause-reads : goal.returns-clause-reads
returns-clause-reads c =
    let first = c.args.slice.now.first in
    let last = c.args.slice.now.last in
    ap slice_of c.slot_with.ensures.written
    ∙ slot_reads c.guid_bytes-kind.result c.guid_bytes-id.result first last c.slot_with.ensures.kind_fits c.slot_with.ensures.id_fits
    c.slot_with.ensures.first_fits c.slot_with.ensures.last_fits
    ∙ ap (λ (k : List ℕ). let s : Slice = record { kind = record { 0 = k }; id = record { 0 = guid_order c.guid_bytes-id.result }; first = first; last = last } in s) c.guid_bytes-kind.ensures.inverse
    ∙ ap (λ (i : List ℕ). let s : Slice = record { kind = c.args.slice.now.kind; id = record { 0 = i }; first = first; last = last } in s) c.guid_bytes-id.ensures.inverse

pub returns-clause-written : goal.returns-clause-written
returns-clause-written c =
    let first = c.args.slice.now.first in
    let last = c.args.slice.now.last in
    c.slot_with.ensures.written
    ∙ ap (λ (k : List ℕ). put_all (slot_fields k c.guid_bytes-id.result first last) (replicate 128 0)) c.guid_bytes-kind.ensures.stored
    ∙ ap (λ (i : List ℕ). put_all (slot_fields (guid_order c.args.slice.now.kind.0) i first last) (replicate 128 0)) c.guid_bytes-id.ensures.stored

pub returns-clause-used : goal.returns-clause-used
returns-clause-used c = λ used.
    ap is_unused c.slot_with.ensures.written
    ∙ slot_used c.guid_bytes-kind.result c.guid_bytes-id.result c.args.slice.now.first c.args.slice.now.last
    c.slot_with.ensures.kind_fits c.slot_with.ensures.id_fits (ap (list_all (λ b. b == 0)) c.guid_bytes-kind.ensures.inverse ∙ used)
