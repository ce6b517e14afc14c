use Rattle.std.proofs.Common.{◌+◌, ℕ, length, set, slice_set, ap, subst, ◌∙◌, arith}
use Rattle.arrayvec.specs.ArrayVec.{with_items}
use Rattle.array_image.specs.Record.{are_apart}
use Rattle.array_model.specs.Stages.{AmongTargets}
use Rattle.array_model.specs.View.{View}
use Rattle.array_core.specs.Seats.{ready}
use Rattle.log_laws.specs.View.{LogView}
use Rattle.growth_laws.proofs.Readied.{may_ready}
use Rattle.raid_rack.specs.RaidRack.{no_array, raid_by}
use Rattle.raid_rack.proofs.Readied.{HasReadied, IsReadying, ready_contents, ready_grows, ready_raises, readying_heeded, readying_left, readying_running}
use Rattle.raid_rack.proofs.Steps.{items_set, same_element}
use Rattle.raid_rack.proofs.arrays.Arrays.ready_array.Given.{Over}
use Rattle.raid_rack.proofs.arrays.Arrays.ready_array.Goals as goal
use Rattle.raid_rack.proofs.arrays.Arrays.ready_array.Goals.{After-clear}

readying : (g : Over) (c : After-clear g) → IsReadying c.args.self.now c.args.number (g.S.Rack.seen c.args.rack.now)
readying g c = record {
  running = c.requires.running;
  heeded = c.requires.heeded;
  may = may_ready (raid_by c.args.self.now) c.args.number c.requires.due;
  some = c.requires.some;
}

-- what there is before the commit
has_readied : (g : Over) (c : After-clear g)
    → HasReadied c.args.self.now c.args.number (record c.args.self.now.state { joined = c.args.self.now.state.joined + 1; epoch = c.raised-self.result })
    (with_items c.args.self.now.all (slice_set c.deref_mut.result.now c.args.number c.ready.new.self)).items c.clear.new.self
has_readied g c =
    let a = c.args.self.now in
    let n = c.args.number in
    let may = may_ready (raid_by a) n c.requires.due in
    let count = c.requires.running.count in
    let last = may.last in
    let youngest = may.youngest in
    let same = same_element c.deref_mut.result.now a.all.items n _ no_array c.deref_mut.ensures.value (omega (arith, count, last, youngest)) in
    record {
      state = ap (λ (e : ℕ). record a.state { joined = a.state.joined + 1; epoch = e }) c.raised-self.ensures;
      items =
          items_set a.all c.deref_mut.result.now n c.ready.new.self c.deref_mut.ensures.value
          ∙ ap (λ (u : View). set a.all.items n u) (c.ready.ensures ∙ ap ready same);
      number = ap (λ (l : LogView). l.number) c.clear.ensures;
    }

pub commit_state-requires-clause-running : goal.commit_state-requires-clause-running
commit_state-requires-clause-running g c =
    let at = (goal.at.commit_state-requires-clause-running g c).After-clear in
    readying_running c.args.self.now c.args.number (g.S.Rack.seen c.args.rack.now) (readying g at) _
    (with_items c.args.self.now.all (slice_set c.deref_mut.result.now c.args.number c.ready.new.self)) c.clear.new.self (has_readied g at)

pub commit_state-requires-clause-heeded : goal.commit_state-requires-clause-heeded
commit_state-requires-clause-heeded g c =
    let at = (goal.at.commit_state-requires-clause-heeded g c).After-clear in
    readying_heeded c.args.self.now c.args.number (g.S.Rack.seen c.args.rack.now) (readying g at) _
    (with_items c.args.self.now.all (slice_set c.deref_mut.result.now c.args.number c.ready.new.self)) c.clear.new.self (has_readied g at)

pub commit_state-requires-clause-some : goal.commit_state-requires-clause-some
commit_state-requires-clause-some g c =
    let at = (goal.at.commit_state-requires-clause-some g c).After-clear in
    readying_left c.args.self.now c.args.number (g.S.Rack.seen c.args.rack.now) (readying g at) _
    (with_items c.args.self.now.all (slice_set c.deref_mut.result.now c.args.number c.ready.new.self)) c.clear.new.self (has_readied g at)

-- the log has nothing
pub commit_state-requires-clause-supers : goal.commit_state-requires-clause-supers
commit_state-requires-clause-supers g c = λ y among. absurd (subst (AmongTargets y) (ap (λ (l : LogView). l.added) c.clear.ensures) among)

pub commit_state-requires-clause-apart : goal.commit_state-requires-clause-apart
commit_state-requires-clause-apart g c = ap (λ (l : LogView). are_apart l.added) c.clear.ensures

pub commit_state-requires-clause-room : goal.commit_state-requires-clause-room
commit_state-requires-clause-room g c = let none = ap (λ (l : LogView). length l.added) c.clear.ensures in omega (arith, none)

pub returns-clause-grows : goal.returns-clause-grows
returns-clause-grows g c =
    let at = (goal.at.returns-clause-grows g c).After-clear in
    ready_grows c.args.self.now c.args.number (g.S.Rack.seen c.args.rack.now) (readying g at) _
    (with_items c.args.self.now.all (slice_set c.deref_mut.result.now c.args.number c.ready.new.self)) c.clear.new.self (has_readied g at)
    c.commit_state.new.self c.mend.new.self (g.S.Rack.seen c.commit_state.new.rack) (g.S.Rack.seen c.mend.new.rack)
    c.commit_state.ensures.loses c.commit_state.ensures.caused c.commit_state.ensures.stays c.mend.ensures.mends

pub returns-clause-raises : goal.returns-clause-raises
returns-clause-raises g c =
    let at = (goal.at.returns-clause-raises g c).After-clear in
    ready_raises c.args.self.now c.args.number (g.S.Rack.seen c.args.rack.now) (readying g at) _
    (with_items c.args.self.now.all (slice_set c.deref_mut.result.now c.args.number c.ready.new.self)) c.clear.new.self (has_readied g at)
    c.commit_state.new.self c.mend.new.self c.commit_state.ensures.state c.commit_state.ensures.raises c.mend.ensures.raises

pub returns-clause-runs : goal.returns-clause-runs
returns-clause-runs g c = g.met.S.Rack.runs_then _ _ _ c.commit_state.ensures.runs c.mend.ensures.runs

pub returns-clause-contents : goal.returns-clause-contents
returns-clause-contents g c =
    let at = (goal.at.returns-clause-contents g c).After-clear in
    ready_contents c.args.self.now c.args.number (g.S.Rack.seen c.args.rack.now) (readying g at) _
    (with_items c.args.self.now.all (slice_set c.deref_mut.result.now c.args.number c.ready.new.self)) c.clear.new.self (has_readied g at)
    c.commit_state.new.self c.mend.new.self (g.S.Rack.seen c.commit_state.new.rack) (g.S.Rack.seen c.mend.new.rack)
    c.commit_state.ensures.commits (ap (λ (l : LogView). l.added) c.clear.ensures) c.mend.ensures.losses
