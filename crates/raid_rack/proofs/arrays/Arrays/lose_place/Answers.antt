use Rattle.std.proofs.Common.{◌∷◌, [], option_map, slice_get, ap, subst, ◌∙◌}
use Rattle.arrayvec.specs.ArrayVec.{with_items}
use Rattle.commit_log.proofs.Deciding.{names_first}
use Rattle.array_core.specs.Seats.{gone}
use Rattle.raid_laws.specs.Raid.{Raid}
use Rattle.raid_laws.specs.Moves.{Mends}
use Rattle.raid_rack.specs.RaidRack.{raid_by}
use Rattle.raid_rack.proofs.Mended.{each_items}
use Rattle.raid_rack.proofs.RaisedCalls.{raises_noted}
use Rattle.raid_rack.proofs.Dropped.{dropped_running, dropped_raid}
use Rattle.raid_rack.proofs.TruthTurns.{noted_truths}
use Rattle.raid_rack.proofs.arrays.Arrays.lose_place.Goals as goal

pub mend-requires : goal.mend-requires
mend-requires g c =
    let a = c.args.self.now in
    let each = each_items a.all c.as_mut_slice.result.now c.note_gone.new.arrays (gone (c.args.place ∷ [])) c.as_mut_slice.ensures.value
    (λ n. c.note_gone.ensures n ∙ ap (λ ps. option_map (gone ps) (slice_get c.as_mut_slice.result.now n)) c.one_place.ensures) in
    record {
      running = dropped_running a (with_items a.all c.note_gone.new.arrays) (c.args.place ∷ []) c.args.place (g.S.Rack.seen c.args.rack.now) c.requires.running each.0 each.1
          (names_first c.args.place []) c.requires.place;
    }

pub returns-clause-mends : goal.returns-clause-mends
returns-clause-mends g c =
    let a = c.args.self.now in
    let each = each_items a.all c.as_mut_slice.result.now c.note_gone.new.arrays (gone (c.args.place ∷ [])) c.as_mut_slice.ensures.value
    (λ n. c.note_gone.ensures n ∙ ap (λ ps. option_map (gone ps) (slice_get c.as_mut_slice.result.now n)) c.one_place.ensures) in
    subst (λ (v : Raid). Mends v (raid_by c.mend.new.self) (g.S.Rack.seen c.args.rack.now) (g.S.Rack.seen c.mend.new.rack))
    (dropped_raid a (with_items a.all c.note_gone.new.arrays) (c.args.place ∷ []) c.requires.running.count each.0 each.1) c.mend.ensures.mends

pub returns-clause-raises : goal.returns-clause-raises
returns-clause-raises g c =
    let a = c.args.self.now in
    let each = each_items a.all c.as_mut_slice.result.now c.note_gone.new.arrays (gone (c.args.place ∷ [])) c.as_mut_slice.ensures.value
    (λ n. c.note_gone.ensures n ∙ ap (λ ps. option_map (gone ps) (slice_get c.as_mut_slice.result.now n)) c.one_place.ensures) in
    raises_noted 17 a c.mend.new.self (with_items a.all c.note_gone.new.arrays) (c.args.place ∷ []) c.requires.running.count each.0 c.mend.ensures.raises

pub returns-clause-truths : goal.returns-clause-truths
returns-clause-truths g c =
    let a = c.args.self.now in
    let each = each_items a.all c.as_mut_slice.result.now c.note_gone.new.arrays (gone (c.args.place ∷ [])) c.as_mut_slice.ensures.value
    (λ n. c.note_gone.ensures n ∙ ap (λ ps. option_map (gone ps) (slice_get c.as_mut_slice.result.now n)) c.one_place.ensures) in
    noted_truths a c.mend.new.self (with_items a.all c.note_gone.new.arrays) (c.args.place ∷ []) (g.S.Rack.seen c.args.rack.now) (g.S.Rack.seen c.mend.new.rack) c.requires.running
    each.0 c.mend.ensures.truths
