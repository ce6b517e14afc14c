use Rattle.std.proofs.Common.{◌≡◌, [], ap, sym, ◌∙◌}
use Rattle.arrayvec.specs.ArrayVec.{with_items}
use Rattle.log_laws.specs.View.{LogView}
use Rattle.array_core.specs.Seats.{heeded}
use Rattle.raid_laws.specs.Losses.{newly_gone}
use Rattle.raid_rack.proofs.Mended.{each_items}
use Rattle.raid_rack.proofs.Restating.{HasSettled, RestatesAll, has_settled, restates_early}
use Rattle.raid_rack.proofs.Rounds.{no_length, some_length}
use Rattle.raid_rack.proofs.SettledWhole.{lost_marked, settles_whole}
use Rattle.raid_rack.specs.RaidRack.{raid_by}
use Rattle.raid_rack.proofs.Truths.{makes_keeps}
use Rattle.raid_rack.proofs.TruthTurns.{early_made}
use Rattle.raid_laws.proofs.Unlost.{unlost_reads, unlost_then}
use Rattle.raid_rack.proofs.arrays.Arrays.settle_whole.Given.{Over}
use Rattle.raid_rack.proofs.arrays.Arrays.settle_whole.Goals.{After-heed_all, After-mend}
use Rattle.raid_rack.proofs.arrays.Arrays.settle_whole.Goals as goal

early : (g : Over) (c : After-mend g) → RestatesAll c.args.self.now c.mend.new.self (g.S.Rack.seen c.args.rack.now) (g.S.Rack.seen c.mend.new.rack)
early g c =
    let s = c.settle_all.new.self in
    restates_early c.args.self.now s c.mend.new.self c.clear.new.self c.newly_gone-lost.result.items (g.S.Rack.seen c.args.rack.now) (g.S.Rack.seen c.settle_all.new.rack)
    (g.S.Rack.seen c.mend.new.rack) c.requires.heeded (ap (λ (l : LogView). l.number) c.clear.ensures) c.settle_all.ensures.settles c.settle_all.ensures.running
    (c.newly_gone-lost.ensures ∙ ap (newly_gone s.state) c.as_slice.ensures.value)
    (some_length c.newly_gone-lost.result.items (sym c.is_empty.ensures ∙ c.if-not-is_empty.true)) c.mend.ensures.mends c.mend.ensures.raises

pub returns-then-not-is_empty-clause-mends : goal.returns-then-not-is_empty-clause-mends
returns-then-not-is_empty-clause-mends g c off = (early g (goal.at.returns-then-not-is_empty-clause-mends g c).After-mend).mends

pub returns-then-not-is_empty-clause-raises : goal.returns-then-not-is_empty-clause-raises
returns-then-not-is_empty-clause-raises g c = (early g (goal.at.returns-then-not-is_empty-clause-raises g c).After-mend).raises

pub returns-then-not-is_empty-clause-lost : goal.returns-then-not-is_empty-clause-lost
returns-then-not-is_empty-clause-lost g c off =
    let s = c.settle_all.new.self in
    lost_marked c.args.self.now s c.mend.new.self c.clear.new.self c.newly_gone-lost.result.items (g.S.Rack.seen c.args.rack.now) (g.S.Rack.seen c.settle_all.new.rack)
    (g.S.Rack.seen c.mend.new.rack) c.requires.heeded (ap (λ (l : LogView). l.number) c.clear.ensures) c.settle_all.ensures.settles c.settle_all.ensures.running
    (c.newly_gone-lost.ensures ∙ ap (newly_gone s.state) c.as_slice.ensures.value)
    (some_length c.newly_gone-lost.result.items (sym c.is_empty.ensures ∙ c.if-not-is_empty.true)) c.mend.ensures.mends

has : (g : Over) (c : After-heed_all g)
    → HasSettled c.args.self.now (record c.settle_all.new.self { all = with_items c.settle_all.new.self.all c.heed_all.new.arrays }) (g.S.Rack.seen c.args.rack.now) (g.S.Rack.seen c.settle_all.new.rack)
has g c =
    let s = c.settle_all.new.self in
    let lost = c.newly_gone-lost.result.items in
    let each = each_items s.all c.as_mut_slice.result.now c.heed_all.new.arrays heeded c.as_mut_slice.ensures.value c.heed_all.ensures in
    has_settled c.args.self.now s (with_items s.all c.heed_all.new.arrays) c.clear.new.self lost (g.S.Rack.seen c.args.rack.now) (g.S.Rack.seen c.settle_all.new.rack)
    c.requires.heeded (ap (λ (l : LogView). l.number) c.clear.ensures) c.settle_all.ensures.settles c.settle_all.ensures.running
    (c.newly_gone-lost.ensures ∙ ap (newly_gone s.state) c.as_slice.ensures.value) (no_length lost (sym c.is_empty.ensures ∙ c.if-not-is_empty.false)) each.0 each.1

pub returns-clause-whole : goal.returns-clause-whole
returns-clause-whole g c on =
    (settles_whole c.args.self.now _ c.clear-2.new.self (g.S.Rack.seen c.args.rack.now) (g.S.Rack.seen c.settle_all.new.rack) (has g (goal.at.returns-clause-whole g c).After-heed_all)
    (ap (λ (l : LogView). l.number) c.clear-2.ensures)).0

pub returns-clause-raises : goal.returns-clause-raises
returns-clause-raises g c =
    (settles_whole c.args.self.now _ c.clear-2.new.self (g.S.Rack.seen c.args.rack.now) (g.S.Rack.seen c.settle_all.new.rack) (has g (goal.at.returns-clause-raises g c).After-heed_all)
    (ap (λ (l : LogView). l.number) c.clear-2.ensures)).1.0

pub returns-clause-running : goal.returns-clause-running
returns-clause-running g c =
    (settles_whole c.args.self.now _ c.clear-2.new.self (g.S.Rack.seen c.args.rack.now) (g.S.Rack.seen c.settle_all.new.rack) (has g (goal.at.returns-clause-running g c).After-heed_all)
    (ap (λ (l : LogView). l.number) c.clear-2.ensures)).1.1

pub returns-then-not-is_empty-clause-truths : goal.returns-then-not-is_empty-clause-truths
returns-then-not-is_empty-clause-truths g c off =
    let s = c.settle_all.new.self in
    makes_keeps (raid_by c.args.self.now) (raid_by c.mend.new.self) (g.S.Rack.seen c.args.rack.now) (g.S.Rack.seen c.mend.new.rack)
    (early_made c.args.self.now s c.mend.new.self c.clear.new.self c.newly_gone-lost.result.items (g.S.Rack.seen c.args.rack.now) (g.S.Rack.seen c.settle_all.new.rack)
    (g.S.Rack.seen c.mend.new.rack) c.requires.running.set.lasting (ap (λ (l : LogView). l.number) c.clear.ensures) c.settle_all.ensures.settles c.settle_all.ensures.running
    (c.newly_gone-lost.ensures ∙ ap (newly_gone s.state) c.as_slice.ensures.value)
    (some_length c.newly_gone-lost.result.items (sym c.is_empty.ensures ∙ c.if-not-is_empty.true)) c.mend.ensures.makes)

pub returns-then-not-is_empty-clause-unlost : goal.returns-then-not-is_empty-clause-unlost
returns-then-not-is_empty-clause-unlost g c off =
    let s = c.args.self.now.state in
    let t = c.settle_all.new.self.state in
    let x = g.S.Rack.seen c.args.rack.now in
    let y = g.S.Rack.seen c.settle_all.new.rack in
    let settles = c.settle_all.ensures.settles in
    unlost_then s t c.mend.new.self.state x y (g.S.Rack.seen c.mend.new.rack) settles.moves.stays c.mend.ensures.mends.moves.stays settles.moves.book c.mend.ensures.mends.moves.book
    (unlost_reads s t x y settles.same settles.reads) c.mend.ensures.unlost
