use Rattle.std.proofs.Common.{ap, refl, subst, sym, ◌∙◌, inl, inr, arith}
use Rattle.raid_rack.specs.declared.arrays.Arrays.{Arrays}
use Rattle.raid_laws.specs.Losses.{newly_gone}
use Rattle.raid_laws.specs.Moves.{AreMarked}
use Rattle.raid_rack.specs.RaidRack.{raid_by}
use Rattle.raid_laws.proofs.Agreeing.{agree_then}
use Rattle.raid_laws.proofs.Moving.{moves_same, moves_then}
use Rattle.raid_rack.proofs.Raises.{raises_more, raises_none, raises_then}
use Rattle.raid_rack.proofs.Turned.{none_newly}
use Rattle.raid_rack.proofs.Rounds.{done_agree, newly_unmarked, turns_first, turns_next, turns_done, no_length, some_length}
use Rattle.raid_rack.proofs.TruthTurns.{done_truths, turn_truths}
use Rattle.raid_laws.proofs.Unlost.{unlost_same, unlost_then}
use Rattle.transition_laws.specs.Changes.{by}
use Rattle.transition_laws.proofs.LossesMade.{losses_then, no_losses}
use Rattle.raid_rack.proofs.arrays.Arrays.mark_all.Goals as goal

pub loop-turn-init : goal.loop-turn-init
loop-turn-init g c = record {
  moves = moves_same (raid_by c.args.self.now) (g.S.Rack.seen c.args.rack.now) c.requires.running.set;
  running = c.requires.running;
  turns = turns_first (raid_by c.args.self.now);
  raises = raises_none (raid_by c.args.self.now);
  idle = λ are. (refl, refl);
  supers = inl refl;
  truths = inl (refl, refl);
  losses = λ d run. no_losses d (raid_by c.args.self.now) (g.S.Rack.seen c.args.rack.now) c.requires.running.set.fit run;
  unlost = unlost_same c.args.self.now.state (g.S.Rack.seen c.args.rack.now);
  runs = g.met.S.Rack.runs_same c.args.rack.now;
}

pub returns-then-is_empty-clause-moves : goal.returns-then-is_empty-clause-moves
returns-then-is_empty-clause-moves g c = c.loop-turn.invariant.moves

pub returns-then-is_empty-clause-marked : goal.returns-then-is_empty-clause-marked
returns-then-is_empty-clause-marked g c =
    let s = c.loop-turn.self in
    let running = c.loop-turn.invariant.running in
    none_newly s running.count running.set.few
    (sym (c.newly_gone-lost.ensures ∙ ap (newly_gone s.state) c.as_slice.ensures.value) ∙ no_length c.newly_gone-lost.result.items (sym c.if-is_empty.ensures))

pub returns-then-is_empty-clause-running : goal.returns-then-is_empty-clause-running
returns-then-is_empty-clause-running g c = c.loop-turn.invariant.running

pub returns-then-is_empty-clause-runs : goal.returns-then-is_empty-clause-runs
returns-then-is_empty-clause-runs g c = c.loop-turn.invariant.runs

pub mark-requires-clause-running : goal.mark-requires-clause-running
mark-requires-clause-running g c = c.loop-turn.invariant.running

pub mark-requires-clause-lost : goal.mark-requires-clause-lost
mark-requires-clause-lost g c = c.newly_gone-lost.ensures ∙ ap (newly_gone c.loop-turn.self.state) c.as_slice.ensures.value

pub mark-requires-clause-some : goal.mark-requires-clause-some
mark-requires-clause-some g c = some_length c.newly_gone-lost.result.items (sym c.if-is_empty.ensures)

pub loop-turn-preserved : goal.loop-turn-preserved
loop-turn-preserved g c =
    let inv = c.loop-turn.invariant in
    let s = c.loop-turn.self in
    record {
      moves = moves_then (raid_by c.args.self.now) (raid_by s) (raid_by c.mark.new.self) (g.S.Rack.seen c.args.rack.now) (g.S.Rack.seen c.loop-turn.rack) (g.S.Rack.seen c.mark.new.rack)
          inv.moves c.mark.ensures.ends.moves;
      running = c.mark.ensures.ends.running;
      turns = turns_next s c.mark.new.self c.newly_gone-lost.result.items c.loop-turn._turn (g.S.Rack.seen c.loop-turn.rack) (g.S.Rack.seen c.mark.new.rack) inv.running
          (c.newly_gone-lost.ensures ∙ ap (newly_gone s.state) c.as_slice.ensures.value)
          (some_length c.newly_gone-lost.result.items (sym c.if-is_empty.ensures))
          c.mark.ensures.ends.moves c.mark.ensures.ends.progress inv.turns;
      raises = raises_then c.loop-turn._turn 1 (raid_by c.args.self.now) (raid_by s) (raid_by c.mark.new.self) inv.moves.book.same.made inv.raises c.mark.ensures.ends.raises;
      idle = λ are.
          absurd (newly_unmarked s c.newly_gone-lost.result.items (g.S.Rack.seen c.loop-turn.rack) inv.running
          (c.newly_gone-lost.ensures ∙ ap (newly_gone s.state) c.as_slice.ensures.value)
          (some_length c.newly_gone-lost.result.items (sym c.if-is_empty.ensures))
          (subst (λ (a : Arrays). AreMarked (raid_by a)) (sym (inv.idle are).0) are));
      supers = inr (agree_then (raid_by c.args.self.now) (raid_by s) (raid_by c.mark.new.self) (g.S.Rack.seen c.args.rack.now) (g.S.Rack.seen c.loop-turn.rack) (g.S.Rack.seen c.mark.new.rack)
          inv.moves c.mark.ensures.ends.moves c.mark.ensures.ends.supers);
      truths = inr (turn_truths (raid_by c.args.self.now) (raid_by s) (raid_by c.mark.new.self) (g.S.Rack.seen c.args.rack.now) (g.S.Rack.seen c.loop-turn.rack) (g.S.Rack.seen c.mark.new.rack)
          c.requires.running.set.lasting inv.moves c.mark.ensures.ends.truths);
      losses = λ d run.
          let early = inv.losses d run in
          losses_then d (raid_by c.args.self.now) (raid_by s) (raid_by c.mark.new.self) (g.S.Rack.seen c.args.rack.now) (g.S.Rack.seen c.loop-turn.rack) (g.S.Rack.seen c.mark.new.rack)
          early (c.mark.ensures.ends.losses (by early.changes d) early.run) (λ are. subst (λ (a : Arrays). AreMarked (raid_by a)) (sym (inv.idle are).0) are);
      unlost = unlost_then c.args.self.now.state s.state c.mark.new.self.state (g.S.Rack.seen c.args.rack.now) (g.S.Rack.seen c.loop-turn.rack) (g.S.Rack.seen c.mark.new.rack)
          inv.moves.stays c.mark.ensures.ends.moves.stays inv.moves.book c.mark.ensures.ends.moves.book inv.unlost c.mark.ensures.ends.unlost;
      runs = g.met.S.Rack.runs_then _ _ _ inv.runs c.mark.ensures.runs;
    }

pub returns-clause-moves : goal.returns-clause-moves
returns-clause-moves g c = c.loop-turn.invariant.moves

pub returns-clause-marked : goal.returns-clause-marked
returns-clause-marked g c = turns_done (raid_by c.loop-turn.self) c.loop-turn._turn c.loop-turn-test.false c.loop-turn.invariant.turns

pub returns-clause-running : goal.returns-clause-running
returns-clause-running g c = c.loop-turn.invariant.running

pub returns-then-is_empty-clause-raises : goal.returns-then-is_empty-clause-raises
returns-then-is_empty-clause-raises g c =
    let low = c.loop-turn-test.true in
    raises_more c.loop-turn._turn 17 (raid_by c.args.self.now) (raid_by c.loop-turn.self) (omega (arith, low)) c.loop-turn.invariant.raises

pub returns-clause-raises : goal.returns-clause-raises
returns-clause-raises g c =
    raises_more c.loop-turn._turn 17 (raid_by c.args.self.now) (raid_by c.loop-turn.self) (omega arith) c.loop-turn.invariant.raises

pub returns-then-is_empty-clause-idle : goal.returns-then-is_empty-clause-idle
returns-then-is_empty-clause-idle g c = c.loop-turn.invariant.idle

pub returns-clause-idle : goal.returns-clause-idle
returns-clause-idle g c = c.loop-turn.invariant.idle

pub returns-clause-runs : goal.returns-clause-runs
returns-clause-runs g c = c.loop-turn.invariant.runs

pub returns-then-is_empty-clause-supers : goal.returns-then-is_empty-clause-supers
returns-then-is_empty-clause-supers g c =
    done_agree c.args.self.now c.loop-turn.self (g.S.Rack.seen c.args.rack.now) (g.S.Rack.seen c.loop-turn.rack) (returns-then-is_empty-clause-marked g c) c.loop-turn.invariant.supers

pub returns-clause-supers : goal.returns-clause-supers
returns-clause-supers g c =
    done_agree c.args.self.now c.loop-turn.self (g.S.Rack.seen c.args.rack.now) (g.S.Rack.seen c.loop-turn.rack) (returns-clause-marked g c) c.loop-turn.invariant.supers

pub returns-then-is_empty-clause-truths : goal.returns-then-is_empty-clause-truths
returns-then-is_empty-clause-truths g c =
    done_truths g.S.Rack.seen c.args.self.now c.loop-turn.self c.args.rack.now c.loop-turn.rack (returns-then-is_empty-clause-marked g c) c.loop-turn.invariant.truths

pub returns-clause-truths : goal.returns-clause-truths
returns-clause-truths g c =
    done_truths g.S.Rack.seen c.args.self.now c.loop-turn.self c.args.rack.now c.loop-turn.rack (returns-clause-marked g c) c.loop-turn.invariant.truths

pub returns-then-is_empty-clause-unlost : goal.returns-then-is_empty-clause-unlost
returns-then-is_empty-clause-unlost g c = c.loop-turn.invariant.unlost

pub returns-clause-unlost : goal.returns-clause-unlost
returns-clause-unlost g c = c.loop-turn.invariant.unlost

pub returns-then-is_empty-clause-losses : goal.returns-then-is_empty-clause-losses
returns-then-is_empty-clause-losses g c = c.loop-turn.invariant.losses

pub returns-clause-losses : goal.returns-clause-losses
returns-clause-losses g c = c.loop-turn.invariant.losses
