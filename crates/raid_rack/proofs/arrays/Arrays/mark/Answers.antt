use Rattle.std.proofs.Common.{◌≡◌, ◌==◌, length, get_or, ap, sym, ◌∙◌, eqb-true}
use Rattle.std.proofs.lemmas.Bool.{both_ways, eq-eqb}
use Rattle.std.proofs.lemmas.Option.{slice_get-get_or}
use Rattle.std.specs.Cmp.Lexicographic.{same_text, other_text}
use Rattle.arrayvec.specs.ArrayVec.{with_items}
use Rattle.log_laws.specs.View.{LogView}
use Rattle.array_core.specs.Seats.{gone as without}
use Rattle.raid_laws.specs.Losses.{newly_gone}
use Rattle.raid_laws.specs.Settling.{IsMarking}
use Rattle.raid_laws.proofs.Adding.{are_valid, all_apart, all_had}
use Rattle.raid_rack.proofs.Mended.{HasNoted, IsTurn, each_items, has_noted, marking_of, ends_turn, ends_empty, ends_early, on_named, on_valid, on_logs, some_copies, not_of_true, not_of_false}
use Rattle.raid_rack.specs.RaidRack.{raid_by}
use Rattle.raid_rack.proofs.arrays.Arrays.mark.Given.{Over}
use Rattle.raid_rack.proofs.arrays.Arrays.mark.Goals.{After-add_copies, After-clear, After-mark_missing}
use Rattle.raid_rack.proofs.arrays.Arrays.mark.Goals as goal

turn : (g : Over) (c : After-clear g) → IsTurn c.args.self.now c.args.lost.now.items (g.S.Rack.seen c.args.rack.now)
turn g c = record { running = c.requires.running; lost_are = c.requires.lost; some = c.requires.some }

noted : (g : Over) (c : After-clear g)
    → HasNoted c.args.self.now (record c.args.self.now { all = with_items c.args.self.now.all c.note_gone.new.arrays; log = c.clear.new.self }) c.args.lost.now.items (g.S.Rack.seen c.args.rack.now)
noted g c =
    let a = c.args.self.now in
    let each = each_items a.all c.as_mut_slice.result.now c.note_gone.new.arrays (without c.args.lost.now.items) c.as_mut_slice.ensures.value c.note_gone.ensures in
    has_noted a (with_items a.all c.note_gone.new.arrays) c.clear.new.self c.args.lost.now.items (g.S.Rack.seen c.args.rack.now) (turn g c) each.0 each.1 (ap (λ (l : LogView). l.number) c.clear.ensures)

pub settle_all-requires-clause-running : goal.settle_all-requires-clause-running
settle_all-requires-clause-running g c = (noted g (goal.at.settle_all-requires-clause-running g c).After-clear).running

pub returns-then-ne-clause-ends : goal.returns-then-ne-clause-ends
returns-then-ne-clause-ends g c =
    let at = (goal.at.returns-then-ne-clause-ends g c).After-clear in
    let s = c.settle_all.new.self in
    let gone_is : c.newly_gone-gone.result.items ≡ newly_gone s.state s.all.items = c.newly_gone-gone.ensures ∙ ap (newly_gone s.state) c.as_slice.ensures.value in
    ends_early c.args.self.now _ s c.args.lost.now.items (g.S.Rack.seen c.args.rack.now) (g.S.Rack.seen c.settle_all.new.rack) (turn g at) (noted g at)
    c.settle_all.ensures.settles c.settle_all.ensures.book c.settle_all.ensures.running
    (λ same.
    other_text c.as_slice-2.result.now c.as_slice-3.result.now (sym (not_of_true _ (sym c.ne.ensures ∙ c.if-ne.true)))
    (c.as_slice-2.ensures.value ∙ gone_is ∙ same ∙ sym c.as_slice-3.ensures.value))

-- nobody else went meanwhile
same : (g : Over) (c : After-mark_missing g) → newly_gone c.settle_all.new.self.state c.settle_all.new.self.all.items ≡ c.args.lost.now.items
same g c =
    sym (c.newly_gone-gone.ensures ∙ ap (newly_gone c.settle_all.new.self.state) c.as_slice.ensures.value) ∙ sym c.as_slice-2.ensures.value
    ∙ same_text c.as_slice-2.result.now c.as_slice-3.result.now (sym (not_of_false _ (sym c.ne.ensures ∙ c.if-ne.false)))
    ∙ c.as_slice-3.ensures.value

pub returns-then-is_empty-clause-ends : goal.returns-then-is_empty-clause-ends
returns-then-is_empty-clause-ends g c =
    let at = goal.at.returns-then-is_empty-clause-ends g c in
    let on = c.current_places-on.result.items in
    ends_empty c.args.self.now _ c.settle_all.new.self c.mark_missing.new.state c.args.lost.now.items on (g.S.Rack.seen c.args.rack.now) (g.S.Rack.seen c.settle_all.new.rack)
    (noted g at.After-clear) c.settle_all.ensures.settles c.settle_all.ensures.book c.settle_all.ensures.running (same g at.After-mark_missing) c.mark_missing.ensures c.current_places-on.ensures
    (eqb-true (length on) 0 (sym c.if-is_empty.ensures))

pub add_copies-requires-clause-valid : goal.add_copies-requires-clause-valid
add_copies-requires-clause-valid g c n place at =
    (on_valid c.args.lost.now.items c.settle_all.new.self c.mark_missing.new.state c.current_places-on.result.items n place (g.S.Rack.seen c.settle_all.new.rack)
    c.settle_all.ensures.running c.mark_missing.ensures c.current_places-on.ensures at).0

pub add_copies-requires-clause-places : goal.add_copies-requires-clause-places
add_copies-requires-clause-places g c n place at =
    (on_valid c.args.lost.now.items c.settle_all.new.self c.mark_missing.new.state c.current_places-on.result.items n place (g.S.Rack.seen c.settle_all.new.rack)
    c.settle_all.ensures.running c.mark_missing.ensures c.current_places-on.ensures at).1

pub commit-gone-requires-clause-logs : goal.commit-gone-requires-clause-logs
commit-gone-requires-clause-logs g c j low =
    let lost = c.args.lost.now.items in
    let s = c.settle_all.new.self in
    let t = c.mark_missing.new.state in
    let y = g.S.Rack.seen c.settle_all.new.rack in
    let on = c.current_places-on.result.items in
    let here = slice_get-get_or on j 0 low in (
      (on_valid lost s t on j (get_or on j 0) y c.settle_all.ensures.running c.mark_missing.ensures c.current_places-on.ensures here).1,
      on_logs lost s t (get_or on j 0) y c.settle_all.ensures.running (same g (goal.at.commit-gone-requires-clause-logs g c).After-mark_missing) c.mark_missing.ensures
          (on_named t on j (get_or on j 0) c.current_places-on.ensures here),
    )

pub commit-gone-requires-clause-some : goal.commit-gone-requires-clause-some
commit-gone-requires-clause-some g c =
    some_copies c.mark_missing.new.state c.current_places-on.result.items c.settle_all.new.self.log.added c.add_copies.new.log.added c.add_copies.ensures.added
    (λ none. both_ways (length c.current_places-on.result.items == 0) (sym c.if-is_empty.ensures) (eq-eqb (length c.current_places-on.result.items) 0 none))

marking : (g : Over) (c : After-add_copies g)
    → HasNoted c.args.self.now (record c.args.self.now { all = with_items c.args.self.now.all c.note_gone.new.arrays; log = c.clear.new.self }) c.args.lost.now.items (g.S.Rack.seen c.args.rack.now)
    → newly_gone c.settle_all.new.self.state c.settle_all.new.self.all.items ≡ c.args.lost.now.items
    → IsMarking (raid_by c.settle_all.new.self) c.args.lost.now.items c.current_places-on.result.items c.add_copies.new.log c.settle_all.new.self.log.added (g.S.Rack.seen c.settle_all.new.rack)
marking g c noted same =
    marking_of c.args.self.now _ c.settle_all.new.self c.args.lost.now.items c.current_places-on.result.items c.add_copies.new.log c.mark_missing.new.state (g.S.Rack.seen c.args.rack.now)
    (g.S.Rack.seen c.settle_all.new.rack) noted c.settle_all.ensures.settles c.settle_all.ensures.running same c.mark_missing.ensures c.current_places-on.ensures c.add_copies.ensures.added
    (ap (λ (m : LogView). m.number) c.add_copies.ensures.log)

pub commit-gone-requires-clause-valid : goal.commit-gone-requires-clause-valid
commit-gone-requires-clause-valid g c =
    let at = goal.at.commit-gone-requires-clause-valid g c in
    are_valid (raid_by c.settle_all.new.self) c.args.lost.now.items c.current_places-on.result.items c.add_copies.new.log c.settle_all.new.self.log.added (g.S.Rack.seen c.settle_all.new.rack)
    (marking g at.After-add_copies (noted g at.After-clear) (same g at.After-mark_missing))

pub commit-gone-requires-clause-apart : goal.commit-gone-requires-clause-apart
commit-gone-requires-clause-apart g c =
    let at = goal.at.commit-gone-requires-clause-apart g c in
    all_apart (raid_by c.settle_all.new.self) c.args.lost.now.items c.current_places-on.result.items c.add_copies.new.log c.settle_all.new.self.log.added (g.S.Rack.seen c.settle_all.new.rack)
    (marking g at.After-add_copies (noted g at.After-clear) (same g at.After-mark_missing))

pub commit-gone-requires-clause-had : goal.commit-gone-requires-clause-had
commit-gone-requires-clause-had g c =
    let at = goal.at.commit-gone-requires-clause-had g c in
    all_had (raid_by c.settle_all.new.self) c.args.lost.now.items c.current_places-on.result.items c.add_copies.new.log c.settle_all.new.self.log.added (g.S.Rack.seen c.settle_all.new.rack)
    (marking g at.After-add_copies (noted g at.After-clear) (same g at.After-mark_missing))

pub returns-clause-ends : goal.returns-clause-ends
returns-clause-ends g c =
    let at = goal.at.returns-clause-ends g c in
    let s = c.settle_all.new.self in
    let after = each_items s.all c.as_mut_slice-2.result.now c.note_gone-2.new.arrays (without c.commit-gone.result.items) c.as_mut_slice-2.ensures.value c.note_gone-2.ensures in
    ends_turn c.args.self.now _ s (with_items s.all c.note_gone-2.new.arrays) c.commit-gone.new.self c.add_copies.new.log c.mark_missing.new.state c.args.lost.now.items
    c.current_places-on.result.items c.commit-gone.result.items (g.S.Rack.seen c.args.rack.now) (g.S.Rack.seen c.settle_all.new.rack) (g.S.Rack.seen c.commit-gone.new.rack)
    (noted g at.After-clear) c.settle_all.ensures.settles c.settle_all.ensures.book c.settle_all.ensures.running c.mark_missing.ensures
    (marking g at.After-add_copies (noted g at.After-clear) (same g at.After-mark_missing)) c.commit-gone.ensures.commits after.0 after.1 (ap (λ (m : LogView). m.number) c.commit-gone.ensures.log)
