use Rattle.std.proofs.Common.{◌+◌, nat_le, ◌^◌, sym, ap, ap₂, ◌∙◌}
use Rattle.raid_laws.specs.NewDrive.{first_in}
use Rattle.raid_rack.proofs.Grown.{views_items}
use Rattle.raid_rack.proofs.arrays.Arrays.has_room.Goals as goal

pub returns : goal.returns
returns c =
    ap (λ k. nat_le (k + 33) (2 ^ 48))
    (c.first_in.ensures.first ∙ ap₂ first_in (c.as_slice.ensures.value ∙ sym (views_items c.args.self.now c.requires.count)) (c.len.ensures.value ∙ c.requires.count))
