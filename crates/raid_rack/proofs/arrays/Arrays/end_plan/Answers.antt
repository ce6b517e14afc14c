use Rattle.std.proofs.Common.{◌≡◌, ◌<◌, List, [], length, get_or, ap, sym, subst, ◌∙◌, eqb-true}
use Rattle.std.proofs.lemmas.Option.{slice_get-get_or}
use Rattle.arrayvec.specs.ArrayVec.{with_items}
use Rattle.rack.specs.Targets.{Target}
use Rattle.pool_state.specs.declared.contents.State.{State}
use Rattle.log_laws.specs.View.{LogView}
use Rattle.array_core.specs.Seats.{gone as without}
use Rattle.raid_laws.specs.Losses.{AddsCopies}
use Rattle.raid_rack.proofs.Mended.{each_items}
use Rattle.raid_rack.proofs.Worked.{AreCopied, HasClosed, close_places, closed_copied, closes_alone, closes_empty, closes_one, closes_raise, closes_turn, closing_of, copies_distinct, copies_had, copies_valid, has_closed}
use Rattle.raid_rack.proofs.TruthTurns.{closed_truths}
use Rattle.raid_rack.specs.RaidRack.{raid_by}
use Rattle.transition_laws.proofs.LossesMade.{no_losses}
use Rattle.raid_rack.proofs.arrays.Arrays.end_plan.Given.{Over}
use Rattle.raid_rack.proofs.arrays.Arrays.end_plan.Goals.{After-add_copies, After-current_places-on, After-note_gone}
use Rattle.raid_rack.proofs.arrays.Arrays.end_plan.Goals as goal

-- ---- nobody is left

empty : (g : Over) (c : After-current_places-on g) → length c.current_places-on.result.items ≡ 0
    → HasClosed c.args.self.now (record c.args.self.now { state = c.end_plan.new.state; log = c.clear.new.self }) (g.S.Rack.seen c.args.rack.now) (g.S.Rack.seen c.args.rack.now)
empty g c none =
    closes_empty c.args.self.now c.end_plan.new.state c.clear.new.self c.current_places-on.result.items (g.S.Rack.seen c.args.rack.now) c.requires.running c.requires.heeded
    c.end_plan.ensures c.current_places-on.ensures none (ap (λ (l : LogView). l.number) c.clear.ensures)

pub returns-then-is_empty-clause-closes : goal.returns-then-is_empty-clause-closes
returns-then-is_empty-clause-closes g c due =
    let at = (goal.at.returns-then-is_empty-clause-closes g c).After-current_places-on in
    let x = g.S.Rack.seen c.args.rack.now in
    closes_alone c.args.self.now _ x x (λ n low. c.requires.heeded n (subst (λ (s : State). n < s.made) c.end_plan.ensures low))
    (empty g at (eqb-true (length c.current_places-on.result.items) 0 (sym c.if-is_empty.ensures))) due

pub returns-then-is_empty-clause-running : goal.returns-then-is_empty-clause-running
returns-then-is_empty-clause-running g c =
    let at = (goal.at.returns-then-is_empty-clause-running g c).After-current_places-on in
    (empty g at (eqb-true (length c.current_places-on.result.items) 0 (sym c.if-is_empty.ensures))).running

pub returns-then-is_empty-clause-truths : goal.returns-then-is_empty-clause-truths
returns-then-is_empty-clause-truths g c =
    let at = (goal.at.returns-then-is_empty-clause-truths g c).After-current_places-on in
    (empty g at (eqb-true (length c.current_places-on.result.items) 0 (sym c.if-is_empty.ensures))).truths

pub returns-then-is_empty-clause-contents : goal.returns-then-is_empty-clause-contents
returns-then-is_empty-clause-contents g c due =
    let at = (goal.at.returns-then-is_empty-clause-contents g c).After-current_places-on in
    let x = g.S.Rack.seen c.args.rack.now in
    let b = record c.args.self.now { state = c.end_plan.new.state; log = c.clear.new.self } in
    closes_turn c.args.self.now b b x x x (empty g at (eqb-true (length c.current_places-on.result.items) 0 (sym c.if-is_empty.ensures)))
    (λ d run. no_losses d (raid_by b) x c.requires.running.set.fit run) due

-- ---- the commit

pub add_copies-requires-clause-valid : goal.add_copies-requires-clause-valid
add_copies-requires-clause-valid g c n place at =
    (close_places c.args.self.now c.end_plan.new.state c.current_places-on.result.items n place (g.S.Rack.seen c.args.rack.now) c.requires.running c.requires.heeded
    c.end_plan.ensures c.current_places-on.ensures at).0

pub add_copies-requires-clause-places : goal.add_copies-requires-clause-places
add_copies-requires-clause-places g c n place at =
    (close_places c.args.self.now c.end_plan.new.state c.current_places-on.result.items n place (g.S.Rack.seen c.args.rack.now) c.requires.running c.requires.heeded
    c.end_plan.ensures c.current_places-on.ensures at).1

pub commit-gone-requires-clause-logs : goal.commit-gone-requires-clause-logs
commit-gone-requires-clause-logs g c j low =
    let on = c.current_places-on.result.items in
    let at = close_places c.args.self.now c.end_plan.new.state on j (get_or on j 0) (g.S.Rack.seen c.args.rack.now) c.requires.running c.requires.heeded
    c.end_plan.ensures c.current_places-on.ensures (slice_get-get_or on j 0 low) in
    (at.1, at.2)

-- the copies alone are added, since the log was cleared
added : (g : Over) (c : After-add_copies g) → AddsCopies c.end_plan.new.state c.current_places-on.result.items [] c.add_copies.new.log.added
added g c =
    subst (λ (xs : List Target). AddsCopies c.end_plan.new.state c.current_places-on.result.items xs c.add_copies.new.log.added) (ap (λ (l : LogView). l.added) c.clear.ensures)
    c.add_copies.ensures.added

copied : (g : Over) (c : After-add_copies g) → AreCopied c.end_plan.new.state c.current_places-on.result.items c.add_copies.new.log (g.S.Rack.seen c.args.rack.now)
copied g c =
    closed_copied c.args.self.now c.end_plan.new.state c.current_places-on.result.items c.add_copies.new.log (g.S.Rack.seen c.args.rack.now) c.requires.running c.requires.heeded
    c.end_plan.ensures c.current_places-on.ensures (added g c)

pub commit-gone-requires-clause-valid : goal.commit-gone-requires-clause-valid
commit-gone-requires-clause-valid g c =
    copies_valid c.end_plan.new.state c.current_places-on.result.items c.add_copies.new.log (g.S.Rack.seen c.args.rack.now)
    (copied g (goal.at.commit-gone-requires-clause-valid g c).After-add_copies)

pub commit-gone-requires-clause-apart : goal.commit-gone-requires-clause-apart
commit-gone-requires-clause-apart g c =
    copies_distinct c.end_plan.new.state c.current_places-on.result.items c.add_copies.new.log (g.S.Rack.seen c.args.rack.now)
    (copied g (goal.at.commit-gone-requires-clause-apart g c).After-add_copies)

pub commit-gone-requires-clause-had : goal.commit-gone-requires-clause-had
commit-gone-requires-clause-had g c =
    copies_had c.end_plan.new.state c.current_places-on.result.items c.add_copies.new.log (g.S.Rack.seen c.args.rack.now)
    (copied g (goal.at.commit-gone-requires-clause-had g c).After-add_copies)

-- ---- after it

one : (g : Over) (c : After-note_gone g) → AddsCopies c.end_plan.new.state c.current_places-on.result.items [] c.add_copies.new.log.added
    → HasClosed c.args.self.now (record c.args.self.now { state = c.end_plan.new.state; all = with_items c.args.self.now.all c.note_gone.new.arrays; log = c.commit-gone.new.self })
    (g.S.Rack.seen c.args.rack.now) (g.S.Rack.seen c.commit-gone.new.rack)
one g c added =
    let a = c.args.self.now in
    let x = g.S.Rack.seen c.args.rack.now in
    let y = g.S.Rack.seen c.commit-gone.new.rack in
    let on = c.current_places-on.result.items in
    let gone = c.commit-gone.result.items in
    let after = each_items a.all c.as_mut_slice.result.now c.note_gone.new.arrays (without gone) c.as_mut_slice.ensures.value c.note_gone.ensures in
    has_closed a (with_items a.all c.note_gone.new.arrays) c.end_plan.new.state c.commit-gone.new.self c.add_copies.new.log on gone x y c.requires.running
    (closing_of a (with_items a.all c.note_gone.new.arrays) c.end_plan.new.state c.add_copies.new.log on gone x y c.requires.running c.requires.heeded c.end_plan.ensures c.current_places-on.ensures
    added (ap (λ (l : LogView). l.number) c.add_copies.ensures.log ∙ ap (λ (l : LogView). l.number) c.clear.ensures) c.commit-gone.ensures.commits after.0)
    c.end_plan.ensures after.1 (ap (λ (l : LogView). l.number) c.commit-gone.ensures.log)

pub mend-requires : goal.mend-requires
mend-requires g c =
    let at = goal.at.mend-requires g c in
    record { running = (one g at.After-note_gone (added g at.After-add_copies)).running }

pub returns-clause-closes : goal.returns-clause-closes
returns-clause-closes g c due =
    let at = goal.at.returns-clause-closes g c in
    closes_one c.args.self.now _ c.mend.new.self (g.S.Rack.seen c.args.rack.now) (g.S.Rack.seen c.commit-gone.new.rack) (g.S.Rack.seen c.mend.new.rack)
    (one g at.After-note_gone (added g at.After-add_copies)) c.mend.ensures.mends due

pub returns-clause-raises : goal.returns-clause-raises
returns-clause-raises g c =
    let at = goal.at.returns-clause-raises g c in
    closes_raise c.args.self.now _ c.mend.new.self (g.S.Rack.seen c.args.rack.now) (g.S.Rack.seen c.commit-gone.new.rack) (one g at.After-note_gone (added g at.After-add_copies)) c.mend.ensures.raises

pub returns-clause-truths : goal.returns-clause-truths
returns-clause-truths g c =
    let at = goal.at.returns-clause-truths g c in
    closed_truths c.args.self.now _ c.mend.new.self (g.S.Rack.seen c.args.rack.now) (g.S.Rack.seen c.commit-gone.new.rack) (g.S.Rack.seen c.mend.new.rack)
    (one g at.After-note_gone (added g at.After-add_copies)) c.mend.ensures.truths

pub returns-clause-contents : goal.returns-clause-contents
returns-clause-contents g c due =
    let at = goal.at.returns-clause-contents g c in
    closes_turn c.args.self.now _ c.mend.new.self (g.S.Rack.seen c.args.rack.now) (g.S.Rack.seen c.commit-gone.new.rack) (g.S.Rack.seen c.mend.new.rack)
    (one g at.After-note_gone (added g at.After-add_copies)) c.mend.ensures.losses due
