use Rattle.std.proofs.Common.{◌≡◌, List, true, map, refl, sym, ap, subst, ◌∙◌, arith}
use Rattle.std.specs.List.{list_all}
use Rattle.std.specs.Prelude.{ℕ, nat_lt, ◌≤◌, ◌/◌}
use Rattle.md_super.specs.declared.superblock.Super.{Super}
use Rattle.array_image.specs.SoundArray.{first_unsynced}
use Rattle.array_core.specs.declared.slots.Slot.{Slot}
use Rattle.array_core.specs.Slots.{places_by}
use Rattle.array_core.specs.Model.{is_truth}
use Rattle.array_core.specs.Blank.{blank_truth}
use Rattle.array_core.proofs.blank.ArrayDefault.default.Goals as goal

blank_is : is_truth blank_truth ≡ true
blank_is = refl

pub invariant_of-result : goal.invariant_of-result
invariant_of-result c =
    let t : c.blank_truth.result ≡ blank_truth = c.blank_truth.ensures in
    record {
      few = omega arith;
      truth = ap is_truth t ∙ blank_is;
      slots = ap (map (λ (s : Slot). s.place)) c.blank_slots.ensures ∙ sym (ap places_by t);
      unsynced = subst (λ (u : Super). first_unsynced u ≤ 2176 / 128) (sym t) (omega arith);
      synced = subst (λ (u : Super). 2176 / 128 ≤ u.size / 128) (sym t) (omega arith);
      went = ap (list_all (λ (place : ℕ). nat_lt place 16)) c.new.ensures;
    }
