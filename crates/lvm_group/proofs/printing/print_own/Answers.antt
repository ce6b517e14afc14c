use Rattle.std.proofs.Common.{◌≡◌, ◌+◌, ◌++◌, List, ℕ, ap, arith, refl, sym, subst, ◌∙◌, length, length-append, map}
use Rattle.std.specs.Prelude.{slice_index}
use Rattle.lvm_text.specs.Printed.{IsId, bare_group, group_head, lv_head, printed, segment_total}
use Rattle.lvm_text.proofs.ReadBack.{reads_back}
use Rattle.lvm_group.specs.Ids.{group_id, group_name, lv_id, lv_name, text_id}
use Rattle.lvm_group.proofs.Assembled.{assembled}
use Rattle.lvm_group.specs.Own.{own_group, own_pvs, segment_of}
use Rattle.lvm_group.proofs.OwnText.{length_map, length_own_pvs}
use Rattle.lvm_group.proofs.printing.print_own.Goals as goal

pub returns-clause-text : goal.returns-clause-text
returns-clause-text c =
    let group = c.as_slice.ensures.value ∙ c.text_id-id.ensures.text ∙ ap text_id c.child_id.ensures in
    let lv = c.as_slice-2.ensures.value ∙ c.text_id-id-2.ensures.text ∙ ap text_id c.child_id-2.ensures in
    assembled c.args.into.now.bytes c.print_group_head.new.into.bytes c.append.new.self.bytes c.print_pvs.new.into.bytes c.append-2.new.self.bytes c.print_lv_head.new.into.bytes
    c.print_runs.new.into.bytes c.append-3.new.self.bytes group_name (text_id (group_id c.args.pool.now.0)) c.args.seqno c.args.extent (own_pvs c.args.pool.now.0 (slice_index c.args.sectors.now) 0 c.args.numbers.now)
    lv_name (text_id (lv_id c.args.pool.now.0)) (map segment_of c.args.runs.now)
    (c.print_group_head.ensures.text ∙ ap (λ (id : List ℕ). c.args.into.now.bytes ++ group_head (bare_group group_name id c.args.seqno c.args.extent)) group)
    c.append.ensures.bytes c.print_pvs.ensures.text c.append-2.ensures.bytes
    (c.print_lv_head.ensures.text ∙ ap (λ (id : List ℕ). c.append-2.new.self.bytes ++ lv_head lv_name id (length c.args.runs.now)) lv
    ∙ ap (λ (n : ℕ). c.append-2.new.self.bytes ++ lv_head lv_name (text_id (lv_id c.args.pool.now.0)) n) (sym (length_map segment_of c.args.runs.now)))
    c.print_runs.ensures.text c.append-3.ensures.bytes

pub returns-clause-most : goal.returns-clause-most
returns-clause-most c =
    let whole = ap length (returns-clause-text c) in
    let sum : length (c.args.into.now.bytes ++ printed (own_group c.args.pool.now.0 c.args.extent (slice_index c.args.sectors.now) c.args.seqno c.args.numbers.now c.args.runs.now)) ≡ length c.args.into.now.bytes + length (printed (own_group c.args.pool.now.0 c.args.extent (slice_index c.args.sectors.now) c.args.seqno c.args.numbers.now c.args.runs.now)) = simp length-append in
    let first = simp length-append at (ap length c.append.ensures.bytes) in
    let second = simp length-append at (ap length c.append-2.ensures.bytes) in
    let third = simp length-append at (ap length c.append-3.ensures.bytes) in
    let pvs = c.requires.few in
    let segments = c.requires.short in
    omega arith

pub returns-clause-read_back : goal.returns-clause-read_back
unfolding segment_total
returns-clause-read_back c =
    let few = c.requires.few in
    let short = c.requires.short in
    let pvs = length_own_pvs c.args.pool.now.0 (slice_index c.args.sectors.now) 0 c.args.numbers.now in
    let segments = length_map segment_of c.args.runs.now in
    reads_back (own_group c.args.pool.now.0 c.args.extent (slice_index c.args.sectors.now) c.args.seqno c.args.numbers.now c.args.runs.now)
    (record {
      name = record { some = omega arith; short = omega arith; bytes = refl };
      id = subst IsId (c.text_id-id.ensures.text ∙ ap text_id c.child_id.ensures) c.text_id-id.ensures.is_id;
      few_pvs = omega arith;
      few_lvs = omega arith;
      few_segments = omega arith;
      pvs = c.print_pvs.ensures.printable;
      lvs = (
        record {
          name = record { some = omega arith; short = omega arith; bytes = refl };
          id = subst IsId (c.text_id-id-2.ensures.text ∙ ap text_id c.child_id-2.ensures) c.text_id-id-2.ensures.is_id;
          segments = c.print_runs.ensures.printable;
        },
        tt,
      );
    })
    (record {
      seqno = c.print_group_head.ensures.range.0;
      extent_size = c.print_group_head.ensures.range.1;
      pvs = c.print_pvs.ensures.range;
      lvs = (record { count = omega arith; segments = c.print_runs.ensures.range }, tt);
    })
