use Rattle.std.proofs.Common.{◌≡◌, ◌==◌, [], get_or, length, ap, sym, ◌∙◌, eq-eqb}
use Rattle.std.proofs.lemmas.Bool.{both_ways}
use Rattle.std.proofs.lemmas.Option.{slice_get-get_or}
use Rattle.arrayvec.specs.ArrayVec.{with_items}
use Rattle.log_laws.specs.View.{LogView}
use Rattle.array_core.specs.Seats.{gone as without, heeded}
use Rattle.raid_laws.specs.Losses.{newly_gone}
use Rattle.raid_laws.specs.Settling.{IsMarking}
use Rattle.raid_laws.proofs.Adding.{all_apart, all_had, are_valid}
use Rattle.raid_rack.specs.RaidRack.{raid_by}
use Rattle.raid_rack.proofs.Mended.{each_items, on_logs, on_named, on_valid, some_copies}
use Rattle.raid_rack.proofs.Restating.{HasRestated, HasSettled, RestatesAll, has_restated, has_settled, marking_anew, restates_alone, restates_early, restates_then}
use Rattle.raid_rack.proofs.Rounds.{no_length, some_length}
use Rattle.raid_rack.proofs.TruthTurns.{alone_made, early_made, restated_made}
use Rattle.raid_rack.proofs.arrays.Arrays.restate.Given.{Over}
use Rattle.raid_rack.proofs.arrays.Arrays.restate.Goals.{After-add_copies, After-heed_all, After-mend, After-mend-2, After-note_gone}
use Rattle.raid_rack.proofs.arrays.Arrays.restate.Goals as goal

-- ---- somebody went before the commit

early : (g : Over) (c : After-mend g) → RestatesAll c.args.self.now c.mend.new.self (g.S.Rack.seen c.args.rack.now) (g.S.Rack.seen c.mend.new.rack)
early g c =
    let s = c.settle_all.new.self in
    restates_early c.args.self.now s c.mend.new.self c.clear.new.self c.newly_gone-lost.result.items (g.S.Rack.seen c.args.rack.now) (g.S.Rack.seen c.settle_all.new.rack)
    (g.S.Rack.seen c.mend.new.rack) c.requires.heeded (ap (λ (l : LogView). l.number) c.clear.ensures) c.settle_all.ensures.settles c.settle_all.ensures.running
    (c.newly_gone-lost.ensures ∙ ap (newly_gone s.state) c.as_slice.ensures.value)
    (some_length c.newly_gone-lost.result.items (sym c.is_empty.ensures ∙ c.if-not-is_empty.true)) c.mend.ensures.mends c.mend.ensures.raises

pub returns-then-not-is_empty-clause-mends : goal.returns-then-not-is_empty-clause-mends
returns-then-not-is_empty-clause-mends g c = (early g (goal.at.returns-then-not-is_empty-clause-mends g c).After-mend).mends

pub returns-then-not-is_empty-clause-supers : goal.returns-then-not-is_empty-clause-supers
returns-then-not-is_empty-clause-supers g c = (early g (goal.at.returns-then-not-is_empty-clause-supers g c).After-mend).supers

pub returns-then-not-is_empty-clause-raises : goal.returns-then-not-is_empty-clause-raises
returns-then-not-is_empty-clause-raises g c = (early g (goal.at.returns-then-not-is_empty-clause-raises g c).After-mend).raises

-- ---- nobody did

none : (g : Over) (c : After-heed_all g) → c.newly_gone-lost.result.items ≡ []
none g c = no_length c.newly_gone-lost.result.items (sym c.is_empty.ensures ∙ c.if-not-is_empty.false)

has : (g : Over) (c : After-heed_all g)
    → HasSettled c.args.self.now (record c.settle_all.new.self { all = with_items c.settle_all.new.self.all c.heed_all.new.arrays }) (g.S.Rack.seen c.args.rack.now) (g.S.Rack.seen c.settle_all.new.rack)
has g c =
    let s = c.settle_all.new.self in
    let each = each_items s.all c.as_mut_slice.result.now c.heed_all.new.arrays heeded c.as_mut_slice.ensures.value c.heed_all.ensures in
    has_settled c.args.self.now s (with_items s.all c.heed_all.new.arrays) c.clear.new.self c.newly_gone-lost.result.items (g.S.Rack.seen c.args.rack.now) (g.S.Rack.seen c.settle_all.new.rack)
    c.requires.heeded (ap (λ (l : LogView). l.number) c.clear.ensures) c.settle_all.ensures.settles c.settle_all.ensures.running
    (c.newly_gone-lost.ensures ∙ ap (newly_gone s.state) c.as_slice.ensures.value) (none g c) each.0 each.1

pub returns-then-is_empty-clause-truths : goal.returns-then-is_empty-clause-truths
returns-then-is_empty-clause-truths g c =
    let at = (goal.at.returns-then-is_empty-clause-truths g c).After-heed_all in
    let on = c.current_places-on.result.items in
    alone_made c.args.self.now _ c.mark_missing.new.state c.newly_gone-lost.result.items on (g.S.Rack.seen c.args.rack.now) (g.S.Rack.seen c.settle_all.new.rack) (has g at) (none g at)
    c.mark_missing.ensures c.current_places-on.ensures (no_length on (sym c.is_empty-2.ensures ∙ c.if-is_empty.true))

pub returns-then-is_empty-clause-mends : goal.returns-then-is_empty-clause-mends
returns-then-is_empty-clause-mends g c =
    let at = (goal.at.returns-then-is_empty-clause-mends g c).After-heed_all in
    let on = c.current_places-on.result.items in
    (restates_alone c.args.self.now _ c.mark_missing.new.state c.newly_gone-lost.result.items on (g.S.Rack.seen c.args.rack.now) (g.S.Rack.seen c.settle_all.new.rack) (has g at) (none g at)
    c.mark_missing.ensures c.current_places-on.ensures (no_length on (sym c.is_empty-2.ensures ∙ c.if-is_empty.true))).0.mends

pub returns-then-is_empty-clause-supers : goal.returns-then-is_empty-clause-supers
returns-then-is_empty-clause-supers g c =
    let at = (goal.at.returns-then-is_empty-clause-supers g c).After-heed_all in
    let on = c.current_places-on.result.items in
    (restates_alone c.args.self.now _ c.mark_missing.new.state c.newly_gone-lost.result.items on (g.S.Rack.seen c.args.rack.now) (g.S.Rack.seen c.settle_all.new.rack) (has g at) (none g at)
    c.mark_missing.ensures c.current_places-on.ensures (no_length on (sym c.is_empty-2.ensures ∙ c.if-is_empty.true))).0.supers

pub returns-then-is_empty-clause-raises : goal.returns-then-is_empty-clause-raises
returns-then-is_empty-clause-raises g c =
    let at = (goal.at.returns-then-is_empty-clause-raises g c).After-heed_all in
    let on = c.current_places-on.result.items in
    (restates_alone c.args.self.now _ c.mark_missing.new.state c.newly_gone-lost.result.items on (g.S.Rack.seen c.args.rack.now) (g.S.Rack.seen c.settle_all.new.rack) (has g at) (none g at)
    c.mark_missing.ensures c.current_places-on.ensures (no_length on (sym c.is_empty-2.ensures ∙ c.if-is_empty.true))).0.raises

pub returns-then-is_empty-clause-running : goal.returns-then-is_empty-clause-running
returns-then-is_empty-clause-running g c =
    let at = (goal.at.returns-then-is_empty-clause-running g c).After-heed_all in
    let on = c.current_places-on.result.items in
    (restates_alone c.args.self.now _ c.mark_missing.new.state c.newly_gone-lost.result.items on (g.S.Rack.seen c.args.rack.now) (g.S.Rack.seen c.settle_all.new.rack) (has g at) (none g at)
    c.mark_missing.ensures c.current_places-on.ensures (no_length on (sym c.is_empty-2.ensures ∙ c.if-is_empty.true))).1

-- ---- the commit

-- the places that it is written on are valid ones of the state
pub add_copies-requires-clause-valid : goal.add_copies-requires-clause-valid
add_copies-requires-clause-valid g c n place at =
    (on_valid c.newly_gone-lost.result.items _ c.mark_missing.new.state c.current_places-on.result.items n place (g.S.Rack.seen c.settle_all.new.rack)
    (has g (goal.at.add_copies-requires-clause-valid g c).After-heed_all).running c.mark_missing.ensures c.current_places-on.ensures at).0

pub add_copies-requires-clause-places : goal.add_copies-requires-clause-places
add_copies-requires-clause-places g c n place at =
    (on_valid c.newly_gone-lost.result.items _ c.mark_missing.new.state c.current_places-on.result.items n place (g.S.Rack.seen c.settle_all.new.rack)
    (has g (goal.at.add_copies-requires-clause-places g c).After-heed_all).running c.mark_missing.ensures c.current_places-on.ensures at).1

pub commit-went-requires-clause-logs : goal.commit-went-requires-clause-logs
commit-went-requires-clause-logs g c j low =
    let s = c.settle_all.new.self in
    let lost = c.newly_gone-lost.result.items in
    let y = g.S.Rack.seen c.settle_all.new.rack in
    let t = c.mark_missing.new.state in
    let on = c.current_places-on.result.items in
    let here = slice_get-get_or on j 0 low in (
      (on_valid lost _ t on j (get_or on j 0) y (has g (goal.at.commit-went-requires-clause-logs g c).After-heed_all).running c.mark_missing.ensures c.current_places-on.ensures here).1,
      on_logs lost s t (get_or on j 0) y c.settle_all.ensures.running (sym (c.newly_gone-lost.ensures ∙ ap (newly_gone s.state) c.as_slice.ensures.value)) c.mark_missing.ensures
          (on_named t on j (get_or on j 0) c.current_places-on.ensures here),
    )

pub commit-went-requires-clause-some : goal.commit-went-requires-clause-some
commit-went-requires-clause-some g c =
    let on = c.current_places-on.result.items in
    some_copies c.mark_missing.new.state on c.settle_all.new.self.log.added c.add_copies.new.log.added c.add_copies.ensures.added
    (λ none. both_ways (length on == 0) (sym c.is_empty-2.ensures ∙ c.if-is_empty.false) (eq-eqb (length on) 0 none))

marking : (g : Over) (c : After-add_copies g)
    → HasSettled c.args.self.now (record c.settle_all.new.self { all = with_items c.settle_all.new.self.all c.heed_all.new.arrays }) (g.S.Rack.seen c.args.rack.now) (g.S.Rack.seen c.settle_all.new.rack) → c.newly_gone-lost.result.items ≡ []
    → IsMarking (raid_by (record c.settle_all.new.self { all = with_items c.settle_all.new.self.all c.heed_all.new.arrays })) c.newly_gone-lost.result.items c.current_places-on.result.items
    c.add_copies.new.log c.settle_all.new.self.log.added (g.S.Rack.seen c.settle_all.new.rack)
marking g c has nobody =
    marking_anew c.args.self.now _ c.newly_gone-lost.result.items c.current_places-on.result.items c.add_copies.new.log c.mark_missing.new.state (g.S.Rack.seen c.args.rack.now)
    (g.S.Rack.seen c.settle_all.new.rack) has nobody c.mark_missing.ensures c.current_places-on.ensures c.add_copies.ensures.added
    (ap (λ (m : LogView). m.number) c.add_copies.ensures.log)

pub commit-went-requires-clause-valid : goal.commit-went-requires-clause-valid
commit-went-requires-clause-valid g c =
    let at = goal.at.commit-went-requires-clause-valid g c in
    are_valid _ c.newly_gone-lost.result.items c.current_places-on.result.items c.add_copies.new.log c.settle_all.new.self.log.added (g.S.Rack.seen c.settle_all.new.rack)
    (marking g at.After-add_copies (has g at.After-heed_all) (none g at.After-heed_all))

pub commit-went-requires-clause-apart : goal.commit-went-requires-clause-apart
commit-went-requires-clause-apart g c =
    let at = goal.at.commit-went-requires-clause-apart g c in
    all_apart _ c.newly_gone-lost.result.items c.current_places-on.result.items c.add_copies.new.log c.settle_all.new.self.log.added (g.S.Rack.seen c.settle_all.new.rack)
    (marking g at.After-add_copies (has g at.After-heed_all) (none g at.After-heed_all))

pub commit-went-requires-clause-had : goal.commit-went-requires-clause-had
commit-went-requires-clause-had g c =
    let at = goal.at.commit-went-requires-clause-had g c in
    all_had _ c.newly_gone-lost.result.items c.current_places-on.result.items c.add_copies.new.log c.settle_all.new.self.log.added (g.S.Rack.seen c.settle_all.new.rack)
    (marking g at.After-add_copies (has g at.After-heed_all) (none g at.After-heed_all))

one : (g : Over) (c : After-note_gone g)
    → HasSettled c.args.self.now (record c.settle_all.new.self { all = with_items c.settle_all.new.self.all c.heed_all.new.arrays }) (g.S.Rack.seen c.args.rack.now) (g.S.Rack.seen c.settle_all.new.rack)
    → IsMarking (raid_by (record c.settle_all.new.self { all = with_items c.settle_all.new.self.all c.heed_all.new.arrays })) c.newly_gone-lost.result.items c.current_places-on.result.items
    c.add_copies.new.log c.settle_all.new.self.log.added (g.S.Rack.seen c.settle_all.new.rack)
    → HasRestated c.args.self.now (record c.settle_all.new.self {
      state = c.mark_missing.new.state;
      all = with_items (with_items c.settle_all.new.self.all c.heed_all.new.arrays) c.note_gone.new.arrays;
      log = c.commit-went.new.self;
    }) (g.S.Rack.seen c.args.rack.now) (g.S.Rack.seen c.commit-went.new.rack)
one g c has marking =
    let gone = c.commit-went.result.items in
    let now = with_items c.settle_all.new.self.all c.heed_all.new.arrays in
    let after = each_items now c.as_mut_slice-2.result.now c.note_gone.new.arrays (without gone) c.as_mut_slice-2.ensures.value c.note_gone.ensures in
    has_restated c.args.self.now _ (with_items now c.note_gone.new.arrays) c.commit-went.new.self c.add_copies.new.log c.mark_missing.new.state c.newly_gone-lost.result.items
    c.current_places-on.result.items gone (g.S.Rack.seen c.args.rack.now) (g.S.Rack.seen c.settle_all.new.rack) (g.S.Rack.seen c.commit-went.new.rack) has c.mark_missing.ensures
    marking c.commit-went.ensures.commits after.0 after.1 (ap (λ (m : LogView). m.number) c.commit-went.ensures.log)

pub mend-requires-2 : goal.mend-requires-2
mend-requires-2 g c =
    let at = goal.at.mend-requires-2 g c in
    record { running = (one g at.After-note_gone (has g at.After-heed_all) (marking g at.After-add_copies (has g at.After-heed_all) (none g at.After-heed_all))).running }

all : (g : Over) (c : After-mend-2 g)
    → HasRestated c.args.self.now (record c.settle_all.new.self {
      state = c.mark_missing.new.state;
      all = with_items (with_items c.settle_all.new.self.all c.heed_all.new.arrays) c.note_gone.new.arrays;
      log = c.commit-went.new.self;
    }) (g.S.Rack.seen c.args.rack.now) (g.S.Rack.seen c.commit-went.new.rack)
    → RestatesAll c.args.self.now c.mend-2.new.self (g.S.Rack.seen c.args.rack.now) (g.S.Rack.seen c.mend-2.new.rack)
all g c one =
    restates_then c.args.self.now _ c.mend-2.new.self (g.S.Rack.seen c.args.rack.now) (g.S.Rack.seen c.commit-went.new.rack) (g.S.Rack.seen c.mend-2.new.rack) c.requires.heeded
    one c.mend-2.ensures.mends
    (λ are. let idle = c.mend-2.ensures.idle are in (idle.0, ap g.S.Rack.seen idle.1)) c.mend-2.ensures.raises

pub returns-clause-mends : goal.returns-clause-mends
returns-clause-mends g c =
    let at = goal.at.returns-clause-mends g c in
    (all g at.After-mend-2 (one g at.After-note_gone (has g at.After-heed_all) (marking g at.After-add_copies (has g at.After-heed_all) (none g at.After-heed_all)))).mends

pub returns-clause-supers : goal.returns-clause-supers
returns-clause-supers g c =
    let at = goal.at.returns-clause-supers g c in
    (all g at.After-mend-2 (one g at.After-note_gone (has g at.After-heed_all) (marking g at.After-add_copies (has g at.After-heed_all) (none g at.After-heed_all)))).supers

pub returns-clause-raises : goal.returns-clause-raises
returns-clause-raises g c =
    let at = goal.at.returns-clause-raises g c in
    (all g at.After-mend-2 (one g at.After-note_gone (has g at.After-heed_all) (marking g at.After-add_copies (has g at.After-heed_all) (none g at.After-heed_all)))).raises

pub returns-clause-runs : goal.returns-clause-runs
returns-clause-runs g c =
    g.met.S.Rack.runs_then _ _ _ c.settle_all.ensures.runs (g.met.S.Rack.runs_then _ _ _ c.commit-went.ensures.runs c.mend-2.ensures.runs)

pub returns-then-not-is_empty-clause-truths : goal.returns-then-not-is_empty-clause-truths
returns-then-not-is_empty-clause-truths g c =
    let s = c.settle_all.new.self in
    early_made c.args.self.now s c.mend.new.self c.clear.new.self c.newly_gone-lost.result.items (g.S.Rack.seen c.args.rack.now) (g.S.Rack.seen c.settle_all.new.rack)
    (g.S.Rack.seen c.mend.new.rack) c.requires.running.set.lasting (ap (λ (l : LogView). l.number) c.clear.ensures) c.settle_all.ensures.settles c.settle_all.ensures.running
    (c.newly_gone-lost.ensures ∙ ap (newly_gone s.state) c.as_slice.ensures.value)
    (some_length c.newly_gone-lost.result.items (sym c.is_empty.ensures ∙ c.if-not-is_empty.true)) c.mend.ensures.makes

pub returns-clause-truths : goal.returns-clause-truths
returns-clause-truths g c =
    let at = goal.at.returns-clause-truths g c in
    restated_made c.args.self.now _ c.mend-2.new.self (g.S.Rack.seen c.args.rack.now) (g.S.Rack.seen c.commit-went.new.rack) (g.S.Rack.seen c.mend-2.new.rack) c.requires.running.set.lasting
    (one g at.After-note_gone (has g at.After-heed_all) (marking g at.After-add_copies (has g at.After-heed_all) (none g at.After-heed_all))) c.mend-2.ensures.truths
