use Rattle.std.proofs.Common.{◌≡◌, ◌++◌, [], ◌∷◌, List, length, if◌then◌else◌, ap, ap₂, refl, sym, ◌∙◌, arith, length-append}
use Rattle.arrayvec.specs.ArrayVec.{ArrayVec}
use Rattle.gpt_table.specs.declared.Entry.{Entry}
use Rattle.raid_laws.specs.NewDrive as spec
use Rattle.raid_rack.proofs.LayingDrive.{entries_more}
use Rattle.raid_rack.proofs.new_drive.table_of.Goals.{then-joins, else-joins}
use Rattle.raid_rack.proofs.new_drive.table_of.Goals as goal

pub loop-number-preserved : goal.loop-number-preserved
loop-number-preserved c =
    let n = c.loop-number.number in
    let drive = c.args.drive.0 in
    let arrays = c.args.arrays.now in
    let place = c.args.place in
    let sectors = c.args.sectors in
    let inv = c.loop-number.invariant in
    let many = inv.many in
    let more = entries_more drive arrays place sectors n in
    elim c.if-joins.branch [
      | then-joins w ↦
          let items = ap (λ (v : ArrayVec Entry). v.items) w.entries-is ∙ w.push-then-joins.ensures.items in
          let long = ap length items ∙ length-append c.loop-number.entries.items (w.member_entry.result ∷ []) in
          record {
            items =
                items ∙ ap₂ (λ es (e : Entry). es ++ e ∷ []) inv.items w.member_entry.ensures
                ∙ sym (more ∙ ap (λ b. spec.entries_of drive arrays place sectors n ++ (if b then spec.member_entry drive arrays n ∷ [] else [])) (sym c.joins.ensures ∙ w.if-joins.true));
            many = omega (arith, long, many);
          }
      | else-joins w ↦
          let items = ap (λ (v : ArrayVec Entry). v.items) w.entries-is in
          let long = ap length items in
          record {
            items =
                items ∙ inv.items ∙ sym (append_nil (spec.entries_of drive arrays place sectors n))
                ∙ sym (more ∙ ap (λ b. spec.entries_of drive arrays place sectors n ++ (if b then spec.member_entry drive arrays n ∷ [] else [])) (sym c.joins.ensures ∙ w.if-joins.false));
            many = omega (arith, long, many);
          }
    ]
  where
    append_nil : {X : Type 0} (xs : List X) → xs ++ [] ≡ xs
    append_nil [] = refl
    append_nil (x ∷ xs) = ap (λ ys. x ∷ ys) (append_nil xs)
