use Rattle.std.proofs.Common.{◌≡◌, ◌++◌, [], ◌∷◌, List, length, if◌then◌else◌, ap, ap₂, refl, sym, ◌∙◌, arith, length-append}
use Rattle.arrayvec.specs.ArrayVec.{ArrayVec}
use Rattle.gpt_table.specs.declared.Entry.{Entry}
use Rattle.raid_laws.specs.NewDrive.{member_entry}
use Rattle.growth_laws.specs.NewDrives as spec
use Rattle.growth_laws.proofs.Reached.{entries_next}
use Rattle.raid_rack.proofs.adding.reached_table.Goals.{then-reaches, else-reaches}
use Rattle.raid_rack.proofs.adding.reached_table.Goals as goal

pub loop-number-preserved : goal.loop-number-preserved
loop-number-preserved c =
    let n = c.loop-number.number in
    let drive = c.args.drive.0 in
    let arrays = c.args.arrays.now in
    let reached = spec.reaches c.args.extent arrays c.args.units c.args.sectors in
    let inv = c.loop-number.invariant in
    let many = inv.many in
    let more = entries_next drive arrays reached n in
    elim c.if-reaches.branch [
      | then-reaches w ↦
          let items = ap (λ (v : ArrayVec Entry). v.items) w.entries-is ∙ w.push-then-reaches.ensures.items in
          let long = ap length items ∙ length-append c.loop-number.entries.items (w.member_entry.result ∷ []) in
          record {
            items =
                items ∙ ap₂ (λ es (e : Entry). es ++ e ∷ []) inv.items w.member_entry.ensures
                ∙ sym (more ∙ ap (λ b. spec.reached_entries drive arrays reached n ++ (if b then member_entry drive arrays n ∷ [] else [])) (sym c.reaches.ensures ∙ w.if-reaches.true));
            many = omega (arith, long, many);
          }
      | else-reaches w ↦
          let items = ap (λ (v : ArrayVec Entry). v.items) w.entries-is in
          let long = ap length items in
          record {
            items =
                items ∙ inv.items ∙ sym (append_nil (spec.reached_entries drive arrays reached n))
                ∙ sym (more ∙ ap (λ b. spec.reached_entries drive arrays reached n ++ (if b then member_entry drive arrays n ∷ [] else [])) (sym c.reaches.ensures ∙ w.if-reaches.false));
            many = omega (arith, long, many);
          }
    ]
  where
    append_nil : {X : Type 0} (xs : List X) → xs ++ [] ≡ xs
    append_nil [] = refl
    append_nil (x ∷ xs) = ap (λ ys. x ∷ ys) (append_nil xs)
