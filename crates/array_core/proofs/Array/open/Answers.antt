use Rattle.std.specs.List.{list_all}
use Rattle.std.proofs.Common.{nat_lt, ◌≡◌, ◌≤◌, ◌/◌, ℕ, true, map, refl, ap, subst, sym, ◌∙◌}
use Rattle.md_super.specs.declared.superblock.Super.{Super}
use Rattle.array_image.specs.SoundArray.{first_unsynced}
use Rattle.array_core.specs.declared.slots.Slot.{Slot}
use Rattle.array_core.specs.Model.{is_truth}
use Rattle.array_core.specs.Slots.{places_by}
use Rattle.array_core.specs.Opening.{slot_by, super_at}
use Rattle.array_core.proofs.Lists.{map_back}
use Rattle.array_core.proofs.Truths.{truth_few, unsynced_left, synced_few}
use Rattle.array_core.proofs.Array.open.Goals as goal

pub slots_found-slots-requires : goal.slots_found-slots-requires
slots_found-slots-requires c = truth_few c.in-Some.truth.now (c.requires.truth c.in-Some.truth.now (sym c.in-Some.ensures))

pub invariant_of-result : goal.invariant_of-result
invariant_of-result c =
    let t = c.in-Some.truth.now in
    let is = sym c.copied.ensures in
    record {
      few = c.requires.few;
      truth = subst (λ (u : Super). is_truth u ≡ true) is (c.requires.truth t (sym c.in-Some.ensures));
      slots =
          ap (map (λ (s : Slot). s.place)) c.slots_found-slots.ensures
          ∙ map_back (λ place. slot_by place (super_at c.args.found.now place)) (λ s. s.place) (λ place. refl) (places_by t)
          ∙ ap places_by is;
      unsynced = subst (λ (u : Super). first_unsynced u ≤ c.resync_by.result) is (subst (λ (n : ℕ). first_unsynced t ≤ n) (sym c.resync_by.ensures) (unsynced_left c.args.young t));
      synced = subst (λ (u : Super). c.resync_by.result ≤ u.size / 128) is (subst (λ (n : ℕ). n ≤ t.size / 128) (sym c.resync_by.ensures) (synced_few c.args.young t));
      went = ap (list_all (λ place. nat_lt place 16)) c.new.ensures;
    }
