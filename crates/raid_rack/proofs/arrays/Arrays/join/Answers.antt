use Rattle.std.proofs.Common.{◌≡◌, ◌<◌, ◌||◌, ℕ, List, [], ◌∷◌, true, false, if◌then◌else◌, Some, get_or, length, option_map, slice_get, ap, refl, subst, sym, ◌∙◌, eq-eqb, arith}
use Rattle.arrayvec.specs.ArrayVec.{ArrayVec, with_items}
use Rattle.std.proofs.lemmas.Bool.{both_ways}
use Rattle.std.proofs.lemmas.Option.{slice_get-get_or}
use Rattle.pool_state.specs.Valid.{is_valid}
use Rattle.pool_state.specs.declared.contents.Plan.{Plan}
use Rattle.pool_state.specs.declared.contents.State.{State}
use Rattle.array_image.specs.States.{is_current}
use Rattle.log_laws.specs.View.{LogView, names}
use Rattle.array_core.specs.Seats.{gone as without, renewed}
use Rattle.array_model.specs.View.{View}
use Rattle.raid_rack.specs.declared.arrays.Arrays.{Arrays}
use Rattle.raid_laws.specs.Enlisting.{enlisted, next_drive}
use Rattle.raid_laws.specs.NewDrive.{joins}
use Rattle.raid_rack.specs.RaidRack.{is_written, raid_by}
use Rattle.raid_laws.proofs.Added.{names_current}
use Rattle.raid_rack.proofs.Enlisted.{current_enlisted, listed_enlisted, valid_enlisted}
use Rattle.raid_laws.proofs.Adding.{all_apart, all_had, are_valid}
use Rattle.raid_laws.specs.Settling.{IsMarking}
use Rattle.raid_rack.proofs.Joining.{listed_raid}
use Rattle.raid_rack.proofs.JoinCalls.{IsJoining, joins_each, joins_finds, joins_enlisted, joins_marking, joins_raises, joins_running, joins_truths}
use Rattle.raid_rack.proofs.Mended.{each_items, on_named, some_copies}
use Rattle.raid_laws.proofs.Noted.{current_few}
use Rattle.raid_laws.proofs.Whole.{heeded_left}
use Rattle.raid_laws.specs.Moves.{IsUnmarked}
use Rattle.raid_rack.proofs.Renewed.{joins_missing, renewed_count, renewed_get, renewed_number, renewed_unmarked}
use Rattle.raid_rack.proofs.arrays.Arrays.join.Given.{Over}
use Rattle.raid_rack.proofs.arrays.Arrays.join.Goals as goal
use Rattle.raid_rack.proofs.arrays.Arrays.join.Goals.{After-add_copies, After-current_places-current, After-note_gone, After-renew_members, After-stage_all}

pub renew_members-requires-clause-missing : goal.renew_members-requires-clause-missing
renew_members-requires-clause-missing g c n is =
    joins_missing c.args.self.now (g.S.Rack.seen c.args.rack.now) c.args.place c.args.sectors n c.requires.running c.requires.missing
    (sym (c.joining-joining.ensures n ∙ ap (λ (vs : List View). joins vs c.args.place c.args.sectors n) c.as_slice.ensures.value) ∙ is)

-- as many arrays as before
count_made : (g : Over) (c : After-renew_members g) → length c.renew_members.new.self.all.items ≡ c.args.self.now.state.made
count_made g c =
    renewed_count c.args.self.now.all.items c.renew_members.new.self.all.items c.args.place (next_drive c.args.self.now.state) (is_written c.joining-joining.result) c.renew_members.ensures.each
    ∙ c.requires.running.count

-- each of them, with its member renewed or not
array_made : (g : Over) (c : After-renew_members g) (n : ℕ) → n < length c.renew_members.new.self.all.items
    → (raid_by c.renew_members.new.self).arrays n
    ≡ (if is_written c.joining-joining.result n then renewed c.args.place (next_drive c.args.self.now.state) ((raid_by c.args.self.now).arrays n) else (raid_by c.args.self.now).arrays n)
array_made g c n low =
    renewed_get c.args.self.now.all.items c.renew_members.new.self.all.items c.args.place (next_drive c.args.self.now.state) (is_written c.joining-joining.result) n
    (c.renew_members.ensures.each n) (let made = count_made g c in let count = c.requires.running.count in omega (arith, low, made, count))

pub stage_all-requires-clause-few : goal.stage_all-requires-clause-few
stage_all-requires-clause-few g c =
    let made = count_made g (goal.at.stage_all-requires-clause-few g c).After-renew_members in
    let most = c.requires.running.set.most in
    omega (arith, made, most)

pub stage_all-requires-clause-numbers : goal.stage_all-requires-clause-numbers
stage_all-requires-clause-numbers g c n low =
    let at = (goal.at.stage_all-requires-clause-numbers g c).After-renew_members in
    let made = count_made g at in
    ap (λ (u : View). u.number) (array_made g at n low) ∙ renewed_number (is_written c.joining-joining.result n) c.args.place (next_drive c.args.self.now.state) _
    ∙ (c.requires.running.set.arrays n (omega (arith, low, made))).number

pub stage_all-requires-clause-unmarked : goal.stage_all-requires-clause-unmarked
stage_all-requires-clause-unmarked g c n low =
    let at = (goal.at.stage_all-requires-clause-unmarked g c).After-renew_members in
    let made = count_made g at in
    subst IsUnmarked (sym (array_made g at n low))
    (renewed_unmarked (is_written c.joining-joining.result n) c.args.place (next_drive c.args.self.now.state) _ (c.requires.unmarked n (omega (arith, low, made))))

-- the state is the new one
state_made : (g : Over) (c : After-stage_all g) → c.stage_all.new.self.state ≡ enlisted c.args.place c.args.units c.args.plan c.args.self.now.state
state_made g c =
    ap (λ (r : Arrays). r.state) c.stage_all.ensures.rest ∙ c.enlist_drive.ensures
    ∙ ap (λ (r : Arrays). enlisted c.args.place c.args.units c.args.plan r.state) c.renew_members.ensures.rest

-- what it has as current is of the list
listed_made : (g : Over) (c : After-current_places-current g) (n place : ℕ) → slice_get c.current_places-current.result.items n ≡ Some place
    → place < length c.args.self.now.state.drives.items
listed_made g c n place at =
    let s = c.args.self.now.state in
    let own = c.args.place in
    let current = on_named c.stage_all.new.self.state c.current_places-current.result.items n place c.current_places-current.ensures at in
    listed_enlisted own c.args.units s place c.requires.listed
    (subst (λ (p : Plan). is_current (enlisted own c.args.units p s) place ≡ true) c.requires.plan
    (subst (λ (z : State). is_current z place ≡ true) (ap (λ (r : Arrays). r.state) c.stage_all.ensures.rest ∙ c.enlist_drive.ensures
    ∙ ap (λ (r : Arrays). enlisted own c.args.units c.args.plan r.state) c.renew_members.ensures.rest) current))

pub add_copies-requires-clause-valid : goal.add_copies-requires-clause-valid
add_copies-requires-clause-valid g c n place at =
    let s = c.args.self.now.state in
    let own = c.args.place in
    let at_goal = goal.at.add_copies-requires-clause-valid g c in
    let is = state_made g at_goal.After-stage_all ∙ ap (λ (p : Plan). enlisted own c.args.units p s) c.requires.plan in
    subst (λ (z : State). is_valid z place ≡ true) (sym is)
    (valid_enlisted own c.args.units s place c.requires.listed c.requires.units c.requires.units_end
    (c.requires.running.set.valid place (listed_made g at_goal.After-current_places-current n place at)))

pub add_copies-requires-clause-places : goal.add_copies-requires-clause-places
add_copies-requires-clause-places g c n place at =
    let listed = listed_made g (goal.at.add_copies-requires-clause-places g c).After-current_places-current n place at in
    let few = c.requires.running.set.few in
    omega (arith, listed, few)

pub add_copies-requires-clause-room : goal.add_copies-requires-clause-room
add_copies-requires-clause-room g c =
    let made = count_made g (goal.at.add_copies-requires-clause-room g c).After-renew_members in
    let most = c.requires.running.set.most in
    let few = c.stage_all.ensures.staged.few in
    omega (arith, made, most, few)

pub commit-went-requires-clause-logs : goal.commit-went-requires-clause-logs
commit-went-requires-clause-logs g c j low =
    let a = c.args.self.now in
    let on = c.current_places-on.result.items in
    let here = slice_get-get_or on j 0 low in
    let p = get_or on j 0 in
    let current = on_named a.state on j p c.current_places-on.ensures here in (
      current_few a.state p c.requires.running.set.few current,
      c.requires.running.set.logs p (heeded_left (raid_by a) p c.requires.heeded current),
    )

pub commit-went-requires-clause-some : goal.commit-went-requires-clause-some
commit-went-requires-clause-some g c =
    let s = c.args.self.now.state in
    let own = c.args.place in
    let current = c.current_places-current.result.items in
    let named : names current own ≡ true =
    ap (λ ps. names ps own) c.current_places-current.ensures ∙ names_current c.stage_all.new.self.state own
    ∙ ap (λ (z : State). is_current z own) (state_made g (goal.at.commit-went-requires-clause-some g c).After-stage_all)
    ∙ current_enlisted own c.args.units c.args.plan s own c.requires.listed ∙ ap (λ b. b || is_current s own) (eq-eqb own own refl) in
    some_copies c.stage_all.new.self.state current c.stage_all.new.self.log.added c.add_copies.new.log.added c.add_copies.ensures.added
    (λ none. both_ways (names current own) (no_names current own none) named)
  where
    no_names : (ps : List ℕ) (p : ℕ) → length ps ≡ 0 → names ps p ≡ false
    no_names [] p none = refl
    no_names (q ∷ ps) p none = absurd (omega (arith, none))

-- what it has made before the commit
is_joining : (g : Over) (c : After-add_copies g)
    → IsJoining c.args.self.now (record c.renew_members.new.self { state = c.enlist_drive.new.state }) c.args.place c.args.units c.args.sectors c.args.plan (is_written c.joining-joining.result)
    c.stage_all.new.self.state c.current_places-on.result.items c.current_places-current.result.items c.add_copies.new.log c.stage_all.new.self.log.added (g.S.Rack.seen c.args.rack.now)
is_joining g c = record {
  has = record {
    running = c.requires.running;
    heeded = c.requires.heeded;
    unmarked = c.requires.unmarked;
    listed = c.requires.listed;
    missing = c.requires.missing;
    others = c.requires.others;
    units_some = c.requires.units;
    units_most = c.requires.units_end;
    plan_is = c.requires.plan;
    slices = c.requires.slices;
    reaches = c.requires.reaches;
  };
  joining_are = λ n. c.joining-joining.ensures n ∙ ap (λ (vs : List View). joins vs c.args.place c.args.sectors n) c.as_slice.ensures.value;
  renewed_are = c.renew_members.ensures.each;
  staged = c.stage_all.ensures.staged;
  state =
      ap (λ (r : Arrays). r.state) c.stage_all.ensures.rest ∙ c.enlist_drive.ensures
      ∙ ap (λ (r : Arrays). enlisted c.args.place c.args.units c.args.plan r.state) c.renew_members.ensures.rest;
  on_are = c.current_places-on.ensures;
  takes_are = c.current_places-current.ensures;
  copies = c.add_copies.ensures.added;
  number =
      ap (λ (m : LogView). m.number) c.add_copies.ensures.log ∙ ap (λ (r : Arrays). r.log.number) c.stage_all.ensures.rest
      ∙ ap (λ (r : Arrays). r.log.number) c.renew_members.ensures.rest;
}

marking : (g : Over) (c : After-add_copies g)
    → IsMarking (listed_raid c.args.place c.args.units c.args.plan (joins c.args.self.now.all.items c.args.place c.args.sectors) (raid_by c.args.self.now)) []
    c.current_places-current.result.items c.add_copies.new.log c.stage_all.new.self.log.added (g.S.Rack.seen c.args.rack.now)
marking g c = joins_marking c.args.self.now (record c.renew_members.new.self { state = c.enlist_drive.new.state }) c.args.place c.args.units c.args.sectors c.args.plan (is_written c.joining-joining.result) c.stage_all.new.self.state c.current_places-on.result.items c.current_places-current.result.items c.add_copies.new.log c.stage_all.new.self.log.added (g.S.Rack.seen c.args.rack.now) (is_joining g c)

pub commit-went-requires-clause-valid : goal.commit-went-requires-clause-valid
commit-went-requires-clause-valid g c =
    are_valid _ [] c.current_places-current.result.items c.add_copies.new.log c.stage_all.new.self.log.added (g.S.Rack.seen c.args.rack.now)
    (marking g (goal.at.commit-went-requires-clause-valid g c).After-add_copies)

pub commit-went-requires-clause-apart : goal.commit-went-requires-clause-apart
commit-went-requires-clause-apart g c =
    all_apart _ [] c.current_places-current.result.items c.add_copies.new.log c.stage_all.new.self.log.added (g.S.Rack.seen c.args.rack.now)
    (marking g (goal.at.commit-went-requires-clause-apart g c).After-add_copies)

pub commit-went-requires-clause-had : goal.commit-went-requires-clause-had
commit-went-requires-clause-had g c =
    all_had _ [] c.current_places-current.result.items c.add_copies.new.log c.stage_all.new.self.log.added (g.S.Rack.seen c.args.rack.now)
    (marking g (goal.at.commit-went-requires-clause-had g c).After-add_copies)

-- the arrays with whoever went in it noted
abbrev noted : (g : Over) → After-note_gone g → ArrayVec View
noted g c = with_items c.stage_all.new.self.all c.note_gone.new.arrays

each_noted : (g : Over) (c : After-note_gone g)
    → ((n : ℕ) → slice_get (noted g c).items n ≡ option_map (without c.commit-went.result.items) (slice_get c.renew_members.new.self.all.items n))
    × (length (noted g c).items ≡ length c.renew_members.new.self.all.items)
each_noted g c =
    let now = c.stage_all.new.self.all in
    let gone = c.commit-went.result.items in
    let after = each_items now c.as_mut_slice.result.now c.note_gone.new.arrays (without gone) c.as_mut_slice.ensures.value c.note_gone.ensures in
    let same : now ≡ c.renew_members.new.self.all = ap (λ (r : Arrays). r.all) c.stage_all.ensures.rest in (
      λ n. after.0 n ∙ ap (λ (vs : ArrayVec View). option_map (without gone) (slice_get vs.items n)) same,
      after.1 ∙ ap (λ (vs : ArrayVec View). length vs.items) same,
    )

pub mend-requires : goal.mend-requires
mend-requires g c =
    let at = goal.at.mend-requires g c in
    let each = each_noted g at.After-note_gone in
    let running = joins_running c.args.self.now (record c.renew_members.new.self { state = c.enlist_drive.new.state }) c.args.place c.args.units c.args.sectors c.args.plan (is_written c.joining-joining.result) c.stage_all.new.self.state c.current_places-on.result.items c.current_places-current.result.items c.add_copies.new.log c.stage_all.new.self.log.added (g.S.Rack.seen c.args.rack.now)
    (is_joining g at.After-add_copies) c.commit-went.result.items (g.S.Rack.seen c.commit-went.new.rack) c.commit-went.ensures.commits (noted g at.After-note_gone) each.0 each.1
    c.commit-went.new.self (ap (λ (m : LogView). m.number) c.commit-went.ensures.log) in
    record { running = running }

pub returns-clause-joined : goal.returns-clause-joined
returns-clause-joined g c =
    let at = goal.at.returns-clause-joined g c in
    let each = each_noted g at.After-note_gone in
    joins_enlisted c.args.self.now (record c.renew_members.new.self { state = c.enlist_drive.new.state }) c.args.place c.args.units c.args.sectors c.args.plan (is_written c.joining-joining.result) c.stage_all.new.self.state c.current_places-on.result.items c.current_places-current.result.items c.add_copies.new.log c.stage_all.new.self.log.added (g.S.Rack.seen c.args.rack.now)
    (is_joining g at.After-add_copies) c.commit-went.result.items (g.S.Rack.seen c.commit-went.new.rack) c.commit-went.ensures.commits (noted g at.After-note_gone) each.0 each.1
    c.commit-went.new.self (ap (λ (m : LogView). m.number) c.commit-went.ensures.log) c.mend.new.self (g.S.Rack.seen c.mend.new.rack) c.mend.ensures.mends

pub returns-clause-raises : goal.returns-clause-raises
returns-clause-raises g c =
    let at = goal.at.returns-clause-raises g c in
    let each = each_noted g at.After-note_gone in
    joins_raises c.args.self.now (record c.renew_members.new.self { state = c.enlist_drive.new.state }) c.args.place c.args.units c.args.sectors c.args.plan (is_written c.joining-joining.result) c.stage_all.new.self.state c.current_places-on.result.items c.current_places-current.result.items c.add_copies.new.log c.stage_all.new.self.log.added (g.S.Rack.seen c.args.rack.now)
    (is_joining g at.After-add_copies) c.commit-went.result.items (g.S.Rack.seen c.commit-went.new.rack) c.commit-went.ensures.commits (noted g at.After-note_gone) each.0 each.1
    c.commit-went.new.self (ap (λ (m : LogView). m.number) c.commit-went.ensures.log) c.mend.new.self (g.S.Rack.seen c.mend.new.rack) c.mend.ensures.mends c.mend.ensures.raises

pub returns-clause-each : goal.returns-clause-each
returns-clause-each g c =
    let at = goal.at.returns-clause-each g c in
    let each = each_noted g at.After-note_gone in
    joins_each c.args.self.now (record c.renew_members.new.self { state = c.enlist_drive.new.state }) c.args.place c.args.units c.args.sectors c.args.plan (is_written c.joining-joining.result) c.stage_all.new.self.state c.current_places-on.result.items c.current_places-current.result.items c.add_copies.new.log c.stage_all.new.self.log.added (g.S.Rack.seen c.args.rack.now)
    (is_joining g at.After-add_copies) c.commit-went.result.items (g.S.Rack.seen c.commit-went.new.rack) c.commit-went.ensures.commits (noted g at.After-note_gone) each.0 each.1
    c.commit-went.new.self (ap (λ (m : LogView). m.number) c.commit-went.ensures.log) c.mend.new.self (g.S.Rack.seen c.mend.new.rack) c.mend.ensures.mends

pub returns-clause-finds : goal.returns-clause-finds
returns-clause-finds g c =
    let at = goal.at.returns-clause-finds g c in
    let each = each_noted g at.After-note_gone in
    joins_finds c.args.self.now (record c.renew_members.new.self { state = c.enlist_drive.new.state }) c.args.place c.args.units c.args.sectors c.args.plan (is_written c.joining-joining.result) c.stage_all.new.self.state c.current_places-on.result.items c.current_places-current.result.items c.add_copies.new.log c.stage_all.new.self.log.added (g.S.Rack.seen c.args.rack.now)
    (is_joining g at.After-add_copies) c.commit-went.result.items (g.S.Rack.seen c.commit-went.new.rack) c.commit-went.ensures.commits (noted g at.After-note_gone) each.0 each.1
    c.commit-went.new.self (ap (λ (m : LogView). m.number) c.commit-went.ensures.log) c.mend.new.self (g.S.Rack.seen c.mend.new.rack) c.mend.ensures.mends

pub returns-clause-fit : goal.returns-clause-fit
returns-clause-fit g c = record { running = c.mend.ensures.running; heeded = c.mend.ensures.mends.heeded }

pub returns-clause-truths : goal.returns-clause-truths
returns-clause-truths g c =
    let at = goal.at.returns-clause-truths g c in
    let each = each_noted g at.After-note_gone in
    joins_truths c.args.self.now (record c.renew_members.new.self { state = c.enlist_drive.new.state }) c.args.place c.args.units c.args.sectors c.args.plan (is_written c.joining-joining.result) c.stage_all.new.self.state c.current_places-on.result.items c.current_places-current.result.items c.add_copies.new.log c.stage_all.new.self.log.added (g.S.Rack.seen c.args.rack.now)
    (is_joining g at.After-add_copies) c.commit-went.result.items (g.S.Rack.seen c.commit-went.new.rack) c.commit-went.ensures.commits (noted g at.After-note_gone) each.0 each.1
    c.commit-went.new.self (ap (λ (m : LogView). m.number) c.commit-went.ensures.log) c.mend.new.self (g.S.Rack.seen c.mend.new.rack) c.mend.ensures.mends c.mend.ensures.truths
