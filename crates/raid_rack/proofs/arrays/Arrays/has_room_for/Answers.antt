use Rattle.std.proofs.Common.{ℕ, ◌+◌, ◌*◌, nat_le, ◌^◌, sym, ap, ap₂, ◌∙◌, arith}
use Rattle.raid_laws.specs.NewDrive.{first_in}
use Rattle.raid_rack.proofs.Grown.{views_items}
use Rattle.raid_rack.proofs.arrays.Arrays.has_room_for.Goals as goal

pub returns : goal.returns
returns c =
    let first = c.first_in-first.ensures.first ∙ ap₂ first_in (c.as_slice.ensures.value ∙ sym (views_items c.args.self.now c.requires.count)) (c.len.ensures.value ∙ c.requires.count) in
    ap₂ (λ (k e : ℕ). nat_le (k + c.args.height * e + 4096 + 33) (2 ^ 48)) first c.from-extent.ensures
    ∙ ap (λ k. nat_le k (2 ^ 48)) (omega arith)
