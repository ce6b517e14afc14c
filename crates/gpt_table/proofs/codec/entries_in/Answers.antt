use Rattle.std.proofs.Common.{◌≡◌, ◌∷◌, ◌++◌, [], length, arith, ap, ◌∙◌, sym, filter_map, Some, None, append-nil}
use Rattle.std.specs.List.{range_with_len}
use Rattle.arrayvec.specs.ArrayVec.{ArrayVec}
use Rattle.gpt_table.specs.declared.Entry.{Entry}
use Rattle.gpt_table.specs.Format.{entry_of, entries_of}
use Rattle.gpt_table.proofs.Ranges.{filter_map_more}
use Rattle.gpt_table.proofs.codec.entries_in.Goals as goal
use Rattle.gpt_table.proofs.codec.entries_in.Goals.{in-Some, in_default}

pub loop-place-preserved : goal.loop-place-preserved
loop-place-preserved c =
    elim c.match-entry_at.branch [
      | in-Some w ↦
          let more = filter_map_more (entry_of c.args.bytes.now) c.loop-place.place (Some w.in-Some.entry) (sym w.in-Some.is ∙ c.entry_at.ensures) in
          record {
            kept = ap (λ (v : ArrayVec Entry). v.items) w.entries-is ∙ w.push.ensures.items ∙ ap (λ done. done ++ w.in-Some.entry ∷ []) c.loop-place.invariant.kept ∙ sym more;
            few = omega (arith, ap (λ (v : ArrayVec Entry). length v.items) w.entries-is, w.push.ensures.len);
          }
      | in_default w ↦
          let more = filter_map_more (entry_of c.args.bytes.now) c.loop-place.place None (sym w.in_default.is ∙ c.entry_at.ensures) in
          record {
            kept = ap (λ (v : ArrayVec Entry). v.items) w.entries-is ∙ c.loop-place.invariant.kept ∙ sym (append-nil _) ∙ sym more;
            few = omega (arith, ap (λ (v : ArrayVec Entry). length v.items) w.entries-is);
          }
    ]

pub returns : goal.returns
unfolding entries_of
returns c =
    let all : c.loop-place.place ≡ 128 = omega arith in
    c.loop-place.invariant.kept ∙ ap (λ n. filter_map (entry_of c.args.bytes.now) (range_with_len 0 n)) all
