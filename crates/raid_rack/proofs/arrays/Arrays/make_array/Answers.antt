use Rattle.std.proofs.Common.{◌≡◌, ℕ, ◌+◌, ◌||◌, not, List, [], ◌∷◌, ◌++◌, ap, subst, ◌∙◌, arith}
use Rattle.rack.specs.Targets.{Target}
use Rattle.pool_state.specs.declared.contents.State.{State}
use Rattle.array_model.specs.View.{IsArray, View}
use Rattle.array_core.specs.Staging.{AddsSupersOf}
use Rattle.log_laws.specs.View.{LogView}
use Rattle.raid_laws.proofs.Over.{or_parts}
use Rattle.growth_laws.specs.Growing.{is_ended, lacks_places}
use Rattle.growth_laws.specs.NewArrays.{new_view, reaching}
use Rattle.growth_laws.proofs.Layers.{make_parts, set_extent, some_drive}
use Rattle.growth_laws.proofs.Made.{made_state}
use Rattle.growth_laws.proofs.Reached.{some_extent}
use Rattle.raid_rack.specs.RaidRack.{raid_by}
use Rattle.raid_rack.proofs.MadeArray.{HasMade, IsMaking, make_contents, make_grows, make_raises, making_heeded, making_left, making_running, making_supers}
use Rattle.raid_rack.proofs.arrays.Arrays.make_array.Given.{Over}
use Rattle.raid_rack.proofs.arrays.Arrays.make_array.Goals as goal
use Rattle.raid_rack.proofs.arrays.Arrays.make_array.Goals.{After-push}

making : (g : Over) (c : After-push g) → IsMaking c.args.self.now c.args.height (g.S.Rack.seen c.args.rack.now)
making g c = record { running = c.requires.running; heeded = c.requires.heeded; due = c.requires.due; some = c.requires.some; slices = c.requires.slices }

is_array : (g : Over) (c : After-push g) → IsArray (new_view c.args.seconds (raid_by c.args.self.now) c.args.height)
is_array g c = subst IsArray c.young_array-array.ensures.made c.young_array-array.ensures.is_array

-- what there is before the commit, with the state that has one array more
has_made : (g : Over) (c : After-push g) (t : State) → t ≡ made_state c.args.self.now.state
    → HasMade c.args.self.now (new_view c.args.seconds (raid_by c.args.self.now) c.args.height) t c.push.new.self.items c.stage_own.new.log
has_made g c t t_is =
    let made = c.young_array-array.ensures.made in
    record {
      state = t_is;
      items = c.push.ensures.items ∙ ap (λ (u : View). c.args.self.now.all.items ++ u ∷ []) made;
      number = ap (λ (l : LogView). l.number) c.stage_own.ensures.log ∙ ap (λ (l : LogView). l.number) c.clear.ensures;
      supers =
          subst (λ (u : View). AddsSupersOf u [] c.stage_own.new.log.added) made
          (subst (λ (xs : List Target). AddsSupersOf c.young_array-array.result xs c.stage_own.new.log.added) (ap (λ (l : LogView). l.added) c.clear.ensures) c.stage_own.ensures.added);
    }

pub reaching-members-requires-clause-extent : goal.reaching-members-requires-clause-extent
reaching-members-requires-clause-extent g c =
    let a = c.args.self.now in
    some_extent a.state 0 (c.requires.running.set.valid 0 (some_drive (raid_by a) c.args.height (make_parts (raid_by a) a.state.made c.args.height c.requires.due).members))

pub young_array-array-requires-clause-extent : goal.young_array-array-requires-clause-extent
young_array-array-requires-clause-extent g c =
    let a = c.args.self.now in
    set_extent (raid_by a) (g.S.Rack.seen c.args.rack.now) c.requires.running.set (some_drive (raid_by a) c.args.height (make_parts (raid_by a) a.state.made c.args.height c.requires.due).members)

pub young_array-array-requires-clause-some : goal.young_array-array-requires-clause-some
young_array-array-requires-clause-some g c =
    let v = raid_by c.args.self.now in
    (or_parts (is_ended v) (lacks_places v (reaching v c.args.height)) c.requires.some).1

-- the state that the code has
state_is : (a : State) (epoch : ℕ) → epoch ≡ (made_state a).epoch → record a { made = a.made + 1; epoch = epoch } ≡ made_state a
state_is a epoch same = ap (λ (e : ℕ). record a { made = a.made + 1; epoch = e }) same

pub commit_state-requires-clause-running : goal.commit_state-requires-clause-running
commit_state-requires-clause-running g c =
    let at = (goal.at.commit_state-requires-clause-running g c).After-push in
    let a = c.args.self.now in
    making_running a c.args.height (g.S.Rack.seen c.args.rack.now) (making g at) c.args.seconds (is_array g at) _ c.push.new.self c.stage_own.new.log
    (has_made g at _ (state_is a.state c.raised-self.result c.raised-self.ensures))

pub commit_state-requires-clause-heeded : goal.commit_state-requires-clause-heeded
commit_state-requires-clause-heeded g c =
    let at = (goal.at.commit_state-requires-clause-heeded g c).After-push in
    let a = c.args.self.now in
    making_heeded a c.args.height (g.S.Rack.seen c.args.rack.now) (making g at) c.args.seconds (is_array g at) _ c.push.new.self c.stage_own.new.log
    (has_made g at _ (state_is a.state c.raised-self.result c.raised-self.ensures))

pub commit_state-requires-clause-some : goal.commit_state-requires-clause-some
commit_state-requires-clause-some g c =
    let at = (goal.at.commit_state-requires-clause-some g c).After-push in
    let a = c.args.self.now in
    making_left a c.args.height (g.S.Rack.seen c.args.rack.now) (making g at) c.args.seconds (is_array g at) _ c.push.new.self c.stage_own.new.log
    (has_made g at _ (state_is a.state c.raised-self.result c.raised-self.ensures))

pub commit_state-requires-clause-supers : goal.commit_state-requires-clause-supers
commit_state-requires-clause-supers g c =
    let at = (goal.at.commit_state-requires-clause-supers g c).After-push in
    let a = c.args.self.now in
    (making_supers a c.args.height (g.S.Rack.seen c.args.rack.now) (making g at) c.args.seconds (is_array g at) _ c.push.new.self c.stage_own.new.log
    (has_made g at _ (state_is a.state c.raised-self.result c.raised-self.ensures))).0

pub commit_state-requires-clause-apart : goal.commit_state-requires-clause-apart
commit_state-requires-clause-apart g c =
    let at = (goal.at.commit_state-requires-clause-apart g c).After-push in
    let a = c.args.self.now in
    (making_supers a c.args.height (g.S.Rack.seen c.args.rack.now) (making g at) c.args.seconds (is_array g at) _ c.push.new.self c.stage_own.new.log
    (has_made g at _ (state_is a.state c.raised-self.result c.raised-self.ensures))).1

pub commit_state-requires-clause-room : goal.commit_state-requires-clause-room
commit_state-requires-clause-room g c =
    let at = (goal.at.commit_state-requires-clause-room g c).After-push in
    let a = c.args.self.now in
    let few = (making_supers a c.args.height (g.S.Rack.seen c.args.rack.now) (making g at) c.args.seconds (is_array g at) _ c.push.new.self c.stage_own.new.log
    (has_made g at _ (state_is a.state c.raised-self.result c.raised-self.ensures))).2 in
    omega (arith, few)

pub returns-clause-grows : goal.returns-clause-grows
returns-clause-grows g c =
    let at = (goal.at.returns-clause-grows g c).After-push in
    let a = c.args.self.now in
    make_grows a c.args.height (g.S.Rack.seen c.args.rack.now) (making g at) c.args.seconds (is_array g at) _ c.push.new.self c.stage_own.new.log
    (has_made g at _ (state_is a.state c.raised-self.result c.raised-self.ensures))
    c.commit_state.new.self c.mend.new.self (g.S.Rack.seen c.commit_state.new.rack) (g.S.Rack.seen c.mend.new.rack) _
    c.commit_state.ensures.loses c.commit_state.ensures.caused c.commit_state.ensures.stays c.mend.ensures.mends
    (ap not (c.lacks_places.ensures ∙ ap (λ (places : List ℕ). is_ended (raid_by c.mend.new.self) || lacks_places (raid_by c.mend.new.self) places) c.reaching-members.ensures))

pub returns-clause-raises : goal.returns-clause-raises
returns-clause-raises g c =
    let at = (goal.at.returns-clause-raises g c).After-push in
    let a = c.args.self.now in
    make_raises a c.args.height (g.S.Rack.seen c.args.rack.now) (making g at) c.args.seconds (is_array g at) _ c.push.new.self c.stage_own.new.log
    (has_made g at _ (state_is a.state c.raised-self.result c.raised-self.ensures))
    c.commit_state.new.self c.mend.new.self c.commit_state.ensures.state c.commit_state.ensures.raises c.mend.ensures.raises

pub returns-clause-runs : goal.returns-clause-runs
returns-clause-runs g c = g.met.S.Rack.runs_then _ _ _ c.commit_state.ensures.runs c.mend.ensures.runs

pub returns-clause-contents : goal.returns-clause-contents
returns-clause-contents g c =
    let at = (goal.at.returns-clause-contents g c).After-push in
    let a = c.args.self.now in
    make_contents a c.args.height (g.S.Rack.seen c.args.rack.now) (making g at) c.args.seconds (is_array g at) _ c.push.new.self c.stage_own.new.log
    (has_made g at _ (state_is a.state c.raised-self.result c.raised-self.ensures))
    c.commit_state.new.self c.mend.new.self (g.S.Rack.seen c.commit_state.new.rack) (g.S.Rack.seen c.mend.new.rack)
    c.commit_state.ensures.commits c.mend.ensures.losses
