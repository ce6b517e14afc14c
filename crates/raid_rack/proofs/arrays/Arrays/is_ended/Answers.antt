use Rattle.std.proofs.Common.{List, ℕ, ◌==◌, ◌||◌, length, ap, ◌∙◌}
use Rattle.raid_laws.specs.Raid.{is_used_up}
use Rattle.raid_rack.specs.RaidRack.{raid_by}
use Rattle.raid_rack.proofs.Ended.{empty_by}
use Rattle.raid_rack.proofs.arrays.Arrays.is_ended.Goals as goal

pub returns-then-is_empty : goal.returns-then-is_empty
returns-then-is_empty c =
    let v = raid_by c.args.self.now in
    c.if-is_empty.true
    ∙ ap (λ b. b || is_used_up v)
    (c.if-is_empty.ensures ∙ ap (λ (ps : List ℕ). length ps == 0) c.current_places.ensures ∙ empty_by v c.requires.few c.requires.heeded)

pub returns-else-is_empty : goal.returns-else-is_empty
returns-else-is_empty c =
    let v = raid_by c.args.self.now in
    c.is_used_up.ensures
    ∙ ap (λ b. b || is_used_up v)
    (c.if-is_empty.ensures ∙ ap (λ (ps : List ℕ). length ps == 0) c.current_places.ensures ∙ empty_by v c.requires.few c.requires.heeded)
