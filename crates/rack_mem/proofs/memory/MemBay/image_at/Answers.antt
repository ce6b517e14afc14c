use Rattle.std.proofs.Common.{◌<◌, ◌^◌, [], sym, subst, ◌∙◌}
use Rattle.std.specs.Prelude.{All}
use Rattle.rack_mem.specs.Memory.{Memory, IsNew}
use Rattle.rack_mem.specs.MemBay.{memory}
use Rattle.rack_mem.specs.Table.{stored}
use Rattle.rack_mem.proofs.Images.{all_small, image_of}
use Rattle.rack_mem.proofs.memory.MemBay.image_at.Goals as goal

pub new-requires-2-clause-sectors : goal.new-requires-2-clause-sectors
new-requires-2-clause-sectors c =
    subst (All (λ disk. disk.sectors < 2 ^ 48)) (sym c.in_ok-shelf.ensures) (all_small c.shelf.result.now (2 ^ 48) c.shelf.ensures.small)

pub returns : goal.returns
returns c =
    let a : Memory = memory c.args.self.now in
    let fresh : IsNew (memory c.in_ok-image.image) a.shelf [] a.room =
    subst (λ shelf. IsNew (memory c.in_ok-image.image) shelf [] a.room) (c.in_ok-shelf.ensures ∙ c.shelf.ensures.shelf)
    (subst (λ failing. IsNew (memory c.in_ok-image.image) c.in_ok-shelf.shelf.items failing a.room) c.new.ensures.items
    (subst (λ room. IsNew (memory c.in_ok-image.image) c.in_ok-shelf.shelf.items c.new.result.items room) c.room.ensures c.in_ok-image.ensures.new)) in
    image_of a (memory c.in_ok-image.image) (memory c.put_base.new.self) c.args.moment c.args.pick (stored c.in_ok-base.base) fresh
    c.in_ok-base.ensures.taken c.in_ok-base.ensures.others c.put_base.ensures
