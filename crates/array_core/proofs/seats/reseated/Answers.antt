use Rattle.std.proofs.Common.{map, ap, ◌∙◌, arith}
use Rattle.std.proofs.lemmas.List.{take_all}
use Rattle.array_core.specs.Seats.{reseated}
use Rattle.array_core.proofs.Lists.{mapped_more}
use Rattle.array_core.proofs.seats.reseated.Goals as goal

pub loop-slot-preserved : goal.loop-slot-preserved
loop-slot-preserved c =
    record {
      made =
          mapped_more (reseated c.args.places.now c.args.seat c.args.device) c.args.slots.now c.loop-slot.slot-index _
          c.loop-slot.changed.items c.push.new.self.items c.with_seat.result c.loop-slot-test.true
          c.loop-slot.invariant.made c.push.ensures.items c.with_seat.ensures;
      many = omega arith;
    }

pub returns : goal.returns
returns c =
    c.loop-slot.invariant.made
    ∙ ap (map (reseated c.args.places.now c.args.seat c.args.device)) (take_all c.loop-slot.slot-index c.args.slots.now (omega arith))
