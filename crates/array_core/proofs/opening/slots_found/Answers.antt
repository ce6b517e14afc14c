use Rattle.std.proofs.Common.{ℕ, ap, ◌∙◌, arith}
use Rattle.array_core.specs.Slots.{place_by}
use Rattle.array_core.specs.Opening.{slot_by, super_at}
use Rattle.array_core.proofs.Lists.{made_more}
use Rattle.array_core.proofs.opening.slots_found.Goals as goal

pub loop-position-preserved : goal.loop-position-preserved
loop-position-preserved c =
    let found = c.args.found.now in
    let made =
    c.slot_by.ensures ∙ ap (slot_by c.place_by-place.result) c.super_at.ensures
    ∙ ap (λ (place : ℕ). slot_by place (super_at found place)) c.place_by-place.ensures in
    record {
      made =
          made_more (λ place. slot_by place (super_at found place)) (place_by c.args.truth.now) c.loop-position.position
          c.loop-position.slots.items c.push.new.self.items c.slot_by.result c.loop-position.invariant.made c.push.ensures.items made;
      many = omega arith;
    }
