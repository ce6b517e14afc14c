use Rattle.std.proofs.Common.{ap, ◌∙◌, arith}
use Rattle.array_core.specs.Slots.{place_by}
use Rattle.array_core.specs.Superblocks.{adopted_slot}
use Rattle.array_core.proofs.Lists.{made_more}
use Rattle.array_core.proofs.superblocks.adopted_slots.Goals as goal

pub loop-position-preserved : goal.loop-position-preserved
loop-position-preserved c =
    let made = c.adopted_slot.ensures ∙ ap (adopted_slot c.args.slots.now c.args.change.now) c.place_by-place.ensures in
    record {
      made =
          made_more (adopted_slot c.args.slots.now c.args.change.now) (place_by c.args.change.now.truth) c.loop-position.position
          c.loop-position.adopted.items c.push.new.self.items c.adopted_slot.result c.loop-position.invariant.made c.push.ensures.items made;
      many = omega arith;
    }
