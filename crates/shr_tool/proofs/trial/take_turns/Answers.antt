-- The sectors are filled and the turns taken, up to the first sector that is refused.
use Rattle.std.proofs.Common.{◌≡◌, ◌+◌, ◌*◌, ◌<◌, min, ◌∙◌, Err, ap, sym, subst, arith}
use Rattle.std.proofs.lemmas.Result.{err_from_is_err_and}
use Rattle.raid_rack.specs.RaidRack.{slices_in}
use Rattle.pool.specs.View.{arrays_of, bay_in, view}
use Rattle.lvm_group.specs.Runs.{sectors_in}
use Rattle.shr_tool.specs.declared.trial.Tally.{Tally}
use Rattle.shr_tool.specs.Trial.{TriesOn, state_at, turn_from, turns_over}
use Rattle.pool.proofs.Keeping.{passes_then}
use Rattle.shr_tool.proofs.Drawn.{state_more, state_start, turn_at_within}
use Rattle.shr_tool.proofs.Tried.{HasTried, has_sector, none_over, some_over, takes_passes, tried_all, tried_more, tried_not, tried_some, tried_start}
use Rattle.shr_tool.proofs.trial.take_turns.Goals as goal
use Rattle.shr_tool.proofs.trial.take_turns.Goals.{then-span-eq0, else-span-eq0}

pub returns-in_err-fill_sectors-clause-tries : goal.returns-in_err-fill_sectors-clause-tries
returns-in_err-fill_sectors-clause-tries g c =
    let shown = view g.R.Rack.seen g.R.Bay.shelf in
    let x = c.args.pool.now in
    let y = c.fill_sectors.new.pool in
    let error = err_from_is_err_and c.from_residual.result c.from_residual.ensures.1 in
    subst (TriesOn (shown x) (shown y) c.args.seed) (sym (error.1 ∙ ap Err error.2))
    (tried_not _ _ c.min-span.result c.args.seed _ c.in_err-fill_sectors.field-0.0 c.requires
    (g.met.R.Bay.unspent (bay_in x), g.met.R.Rack.sound (bay_in x), (slices_in (arrays_of x)).orderly)
    (g.met.R.Bay.unspent (bay_in y), g.met.R.Rack.sound (bay_in y), (slices_in (arrays_of y)).orderly)
    (subst (λ n. c.min-span.result ≡ min n 4096) c.size.ensures.size c.min-span.ensures)
    c.in_err-fill_sectors.was
    c.fill_sectors.ensures.fills)

pub loop-tally-init : goal.loop-tally-init
loop-tally-init g c =
    let x = c.args.pool.now in
    let y = c.fill_sectors.new.pool in
    let span = c.min-span.result in
    record {
      until = let none = c.new-tally.ensures.turns in omega arith;
      small = c.new-tally.ensures.small;
      state = state_start c.args.seed ∙ ap (λ n. state_at c.args.seed (3 * n)) (sym c.new-tally.ensures.turns);
      many =
          elim c.if-span-eq0.branch [
            | then-span-eq0 w ↦ none_over span _ (let none = w.if-span-eq0.true in omega arith) w.turns-is
            | else-span-eq0 w ↦ some_over span _ (let some = w.if-span-eq0.false in omega arith) w.turns-is
          ];
      runs = c.fill_sectors.ensures.runs;
      passes = c.fill_sectors.ensures.fills.passes;
      tried =
          tried_start _ _ span c.args.seed c.new-tally.result _ c.requires
          (g.met.R.Bay.unspent (bay_in x), g.met.R.Rack.sound (bay_in x), (slices_in (arrays_of x)).orderly)
          (g.met.R.Bay.unspent (bay_in y), g.met.R.Rack.sound (bay_in y), (slices_in (arrays_of y)).orderly)
          (let least = c.min-span.ensures in let size = c.size.ensures.size in omega arith)
          c.in_ok-fill_sectors.was c.fill_sectors.ensures.fills c.new-tally.ensures.turns c.new-tally.ensures.tally;
    }

pub take_turn-requires-clause-within : goal.take_turn-requires-clause-within
take_turn-requires-clause-within g c =
    let before = c.loop-tally.invariant in
    let span = c.min-span.result in
    let n = c.loop-tally.tally.turns in
    let early : n < turns_over span = subst (λ m. n < m) before.many c.loop-tally-test.true in
    turn_at_within span c.args.seed n _ c.draw_turn-turn.result
    (c.draw_turn-turn.ensures.turn ∙ ap (turn_from span) before.state)
    (has_sector span n early)
    (let least = c.min-span.ensures in let size = c.size.ensures.size in let same = ap sectors_in before.passes.linear in omega arith)

pub returns-in_err-byte-clause-passes : goal.returns-in_err-byte-clause-passes
returns-in_err-byte-clause-passes g c =
    passes_then _ _ _ c.loop-tally.invariant.passes (takes_passes _ _ c.draw_turn-turn.result _ c.take_turn.ensures.takes)

pub returns-in_err-byte-clause-runs : goal.returns-in_err-byte-clause-runs
returns-in_err-byte-clause-runs g c = g.met.R.Rack.runs_then _ _ _ c.loop-tally.invariant.runs c.take_turn.ensures.runs

pub returns-in_err-byte-clause-tries : goal.returns-in_err-byte-clause-tries
returns-in_err-byte-clause-tries g c =
    let shown = view g.R.Rack.seen g.R.Bay.shelf in
    let before = c.loop-tally.invariant in
    let span = c.min-span.result in
    let n = c.loop-tally.tally.turns in
    let z = c.take_turn.new.pool in
    let error = err_from_is_err_and c.from_residual-in_err-byte.result c.from_residual-in_err-byte.ensures.1 in
    subst (TriesOn (shown c.args.pool.now) (shown z) c.args.seed) (sym (error.1 ∙ ap Err error.2))
    (tried_some _ _ _ span c.args.seed c.loop-tally.tally c.draw_turn-turn.result _ c.in_err-byte.field-0.0 c.in_err-byte.was
    (g.met.R.Bay.unspent (bay_in z), g.met.R.Rack.sound (bay_in z), (slices_in (arrays_of z)).orderly)
    (subst (λ m. c.min-span.result ≡ min m 4096) c.size.ensures.size c.min-span.ensures)
    (subst (λ m. n < m) before.many c.loop-tally-test.true)
    (c.draw_turn-turn.ensures.turn ∙ ap (turn_from span) before.state)
    before.tried
    c.take_turn.ensures.takes)

pub loop-tally-preserved : goal.loop-tally-preserved
loop-tally-preserved g c =
    let shown = view g.R.Rack.seen g.R.Bay.shelf in
    let before = c.loop-tally.invariant in
    let x = c.args.pool.now in
    let z = c.take_turn.new.pool in
    let span = c.min-span.result in
    let n = c.loop-tally.tally.turns in
    let turn = c.draw_turn-turn.result in
    let counts = c.count.ensures.counted in
    let more : c.count.new.self.turns ≡ n + 1 = ap (λ (t : Tally). t.turns) counts in
    record {
      until = let early = c.loop-tally-test.true in omega (arith, more, early);
      small = c.count.ensures.small;
      many = before.many;
      state =
          c.draw_turn-turn.ensures.state
          ∙ (state_more c.args.seed n c.loop-tally.generator.state before.state ∙ ap (λ m. state_at c.args.seed (3 * m)) (sym more));
      runs = g.met.R.Rack.runs_then _ _ _ before.runs c.take_turn.ensures.runs;
      passes = passes_then _ _ _ before.passes (takes_passes _ _ turn _ c.take_turn.ensures.takes);
      tried =
          subst (HasTried (shown x) (shown z) span c.args.seed) (sym counts)
          (tried_more _ _ _ span c.args.seed c.loop-tally.tally turn _ c.in_ok-byte.byte c.in_ok-byte.was
          (g.met.R.Bay.unspent (bay_in z), g.met.R.Rack.sound (bay_in z), (slices_in (arrays_of z)).orderly)
          (c.draw_turn-turn.ensures.turn ∙ ap (turn_from span) before.state)
          before.tried
          c.take_turn.ensures.takes);
    }

pub returns-clause-tries : goal.returns-clause-tries
returns-clause-tries g c =
    let before = c.loop-tally.invariant in
    let until = before.until in
    let over = c.loop-tally-test.false in
    let last : c.loop-tally.tally.turns ≡ c.if-span-eq0.turns = omega arith in
    tried_all _ _ c.min-span.result c.args.seed c.loop-tally.tally (subst (λ m. c.min-span.result ≡ min m 4096) c.size.ensures.size c.min-span.ensures)
    (last ∙ before.many) before.tried
