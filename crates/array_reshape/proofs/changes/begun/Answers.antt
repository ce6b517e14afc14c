use Rattle.std.proofs.Common.{◌≡◌, ◌<◌, ◌+◌, ◌-◌, ◌%◌, pos, None, length, set, true, sym, ap, subst, ◌∙◌, arith}
use Rattle.md_super.specs.declared.superblock.Super.{Super}
use Rattle.array_image.specs.Places.{member_id}
use Rattle.array_model.specs.Members.{slice_on}
use Rattle.array_model.specs.declared.Seat.TheVariants.{Whole}
use Rattle.array_core.specs.declared.Change.{Change}
use Rattle.array_core.specs.Model.{is_truth}
use Rattle.array_core.specs.Superblocks.{raised}
use Rattle.reshape_laws.specs.Ahead.{begun}
use Rattle.reshape_laws.proofs.Beginning.{no_mirror_now}
use Rattle.reshape_laws.proofs.Joining.{roles_long, room_for, spare_role}
use Rattle.reshape_laws.proofs.Truths.{begun_truth}
use Rattle.array_reshape.proofs.changes.begun.Goals as goal

pub with_role-truth-requires-clause-place : goal.with_role-truth-requires-clause-place
with_role-truth-requires-clause-place c =
    let long = roles_long c.args.array.now c.args.place c.rules.ensures c.truth_rules.ensures c.requires.place c.requires.joins in
    let low = c.requires.place in
    subst (λ (u : Super). c.args.place < length u.roles.items) (sym (c.copied-truth.ensures ∙ c.truth.ensures)) (omega (arith, long, low))

pub returns-clause-truth : goal.returns-clause-truth
returns-clause-truth c =
    let v = c.args.array.now in
    let place = c.args.place in
    subst (λ (d : Change). is_truth d.truth ≡ true) (sym c.of_truth.ensures)
    (subst (λ r. is_truth (record (begun (record v { truth = c.copied-truth.result }) c.raised.result place Whole c.child_id-truth.result).truth { roles = r }) ≡ true) (sym c.with_role-truth.ensures)
    (subst (λ (u : Super). is_truth (begun (record v { truth = u }) c.raised.result place Whole c.child_id-truth.result).truth ≡ true) (sym (c.copied-truth.ensures ∙ c.truth.ensures))
    (begun_truth v c.raised.result place Whole c.child_id-truth.result c.requires.raid5 (no_mirror_now v c.requires.raid5) c.rules.ensures
    (room_for v place c.rules.ensures c.truth_rules.ensures c.requires.place c.requires.joins) c.requires.place
    (roles_long v place c.rules.ensures c.truth_rules.ensures c.requires.place c.requires.joins)
    (spare_role v place c.rules.ensures c.truth_rules.ensures c.requires.place c.requires.joins)
    c.truth_rules.ensures)))

pub returns-clause-change : goal.returns-clause-change
returns-clause-change c =
    let v = c.args.array.now in
    let few = c.rules.ensures.few in
    let slice : c.slice_at.result ≡ slice_on c.args.array.now 0 = c.slice_at.ensures in
    let number : c.slice_at.result % 17 - 1 ≡ c.args.array.now.number = omega (arith, slice, few) in
    let id : c.child_id-truth.result.0 ≡ member_id c.args.drive.now.0 c.args.array.now.number = c.child_id-truth.ensures ∙ ap (member_id c.args.drive.now.0) number in
    let truth : c.copied-truth.result ≡ c.args.array.now.truth = c.copied-truth.ensures ∙ c.truth.ensures in
    let events : c.raised.result ≡ raised c.args.array.now.truth.events = c.raised.ensures ∙ ap (λ (t : Super). raised t.events) truth in
    let roles : c.with_role-truth.result ≡ record { items = set c.args.array.now.truth.roles.items c.args.place c.args.array.now.truth.raid_disks } =
    c.with_role-truth.ensures ∙ (λ i. record { items = set (truth i).roles.items c.args.place (truth i).raid_disks }) in
    c.of_truth.ensures
    ∙ (λ i. record {
      truth = record (truth i) {
        events = events i;
        feature_map = 4;
        raid_disks = (truth i).raid_disks + 1;
        new_level = pos 5;
        delta_disks = pos 1;
        reshape_position = 0;
        new_layout = 2;
        new_chunk = 128;
        device_id = record { 0 = id i };
        roles = roles i;
      };
      place = None;
      to = 0;
    })
